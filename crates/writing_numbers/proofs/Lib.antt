-- Heads: the head of an element stored ahead of its value.
-- Stored: a number's bytes stored from the last to the first.
-- Within: laws of the contracts: what has room, and what then is written.
pub mod Heads
pub mod Stored
pub mod Within
