-- Entries: an entry matches where its classifier does. Headers: what the header's length decides of a match.
pub mod Entries
pub mod Headers
