pub mod Tests
pub mod Stepped
