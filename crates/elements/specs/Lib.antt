pub mod Elements
pub mod Stood
