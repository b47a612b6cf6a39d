-- Told: what is told tells reports apart.
pub mod Told
