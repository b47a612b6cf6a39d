pub mod Events
pub mod Numbers
