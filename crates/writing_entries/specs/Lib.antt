-- Entries: an entry of a table that a message could have given, and one that is unused.
pub mod Entries
