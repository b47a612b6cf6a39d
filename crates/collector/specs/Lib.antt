pub mod Answers
pub mod Step
pub mod Duties
