-- Lengths: how long a line can be.
-- Longest: how large a buffer always suffices.
-- Bench: document 01's examples, computed.
pub mod Lengths
pub mod Longest
pub mod Bench
