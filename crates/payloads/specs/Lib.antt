pub mod Payload
pub mod Judged
