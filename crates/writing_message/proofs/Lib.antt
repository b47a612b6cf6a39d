-- Filled: how far the record of the pieces is filled after one more element.
-- Cuts: what the record stands for, and that it has the lengths of the pieces.
-- Sized: every written element has 1 to 256 bytes.
-- Turns: a loop that writes an element for each entry of a list.
-- Whole: the three groups of elements are the message.
pub mod Filled
pub mod Cuts
pub mod Sized
mod Turns
mod Whole
