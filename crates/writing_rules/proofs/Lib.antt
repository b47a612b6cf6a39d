-- Ucids: the list of UCIDs, written or left out.
-- Numbers: a classifier number, written.
-- Row: the children of a rule written one behind the other, and the rule around them.
pub mod Ucids
pub mod Numbers
pub mod Row
