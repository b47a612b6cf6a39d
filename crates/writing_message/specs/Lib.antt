pub mod Message
pub mod Filling
