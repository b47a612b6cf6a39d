pub mod Match
pub mod Entry
