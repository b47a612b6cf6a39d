-- Told: what a start and a length tell is what is lent back in Rattle.
pub mod Told
