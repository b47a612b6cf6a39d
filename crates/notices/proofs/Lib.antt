-- Lengths: how long a line can be.
-- Listings: laws of the public contracts.
-- Written: what is written tells answers apart.
-- Bench: document 01's examples, computed.
pub mod Lengths
pub mod Listings
pub mod Written
pub mod Bench
