-- Children: the channels and the timer values, written.
-- Configured: the configuration with its head, or none.
pub mod Children
pub mod Configured
