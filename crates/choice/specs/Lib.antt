pub mod Chose
pub mod Choose
