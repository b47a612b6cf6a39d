-- Take: what a top-level element leaves in the table, and test 14. Read: the reading of a whole message.
-- Shown: its answer in the paper's words. Steps: what the private functions of a reading owe each other.
pub mod Take
pub mod Read
pub mod Shown
pub mod Steps
