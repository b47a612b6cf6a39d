pub mod Order
pub mod Preparing
