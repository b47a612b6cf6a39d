-- Verdicts: laws of the verdict. Headers: what the length of the IP header decides of it. Walk: the walk over a table's classifiers.
-- Bench: examples on message M, and on a Router Alert. Controls: wrong programs, refuted.
pub mod Verdicts
pub mod Headers
pub mod Walk
pub mod Bench
pub mod Controls
