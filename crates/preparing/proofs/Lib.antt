-- Filled, Read: a tunnel is filled from the front, and read as what it was filled with.
-- Sorted: the named classifiers in matching order. Found: the first match in order is the table's best. Same: both ways give one verdict.
-- Verdicts: what the verdict depends on. Controls: wrong programs, refuted.
pub mod Filled
pub mod Read
pub mod Sorted
pub mod Found
pub mod Same
pub mod Verdicts
pub mod Controls
