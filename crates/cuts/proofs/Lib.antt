-- Laws: what a walk may forget.
-- Each: the cuts one after the other.
-- Passing, Walk: the walks of `pass_elements` and `judge_cuts`, on plain values.
-- Ruling: the words tell rulings apart.
-- Says: what the answer says of every cut.
-- Reached: where a cut may be, by a walk over whole elements.
-- Pieces: pieces of whole elements.
pub mod Laws
pub mod Each
pub mod Passing
pub mod Walk
pub mod Ruling
pub mod Says
pub mod Reached
pub mod Pieces
