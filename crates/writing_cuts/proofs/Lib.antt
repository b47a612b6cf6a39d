-- Lengths: how few the pieces are, on lists of lengths.
-- Pieces: what the pieces are, how long, how many.
-- Bench: exact fits, computed.
pub mod Lengths
pub mod Pieces
pub mod Bench
