-- Counts: a count that passed tests 9 and 12. Stepped: an answer is known by what the element comes to.
pub mod Counts
pub mod Stepped
