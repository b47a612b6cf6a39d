pub mod Types
pub mod Places
pub mod Columns
