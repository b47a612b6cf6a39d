pub mod States
pub mod Record
pub mod Idle
