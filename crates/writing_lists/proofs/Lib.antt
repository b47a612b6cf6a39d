-- Numbered: the loops over a list of entries that have numbers.
pub mod Numbered
