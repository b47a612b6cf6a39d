pub mod Step
pub mod Numbers
