-- Laws: what the buffer holds when the bodies are laid, what the pieces need, and that lengths and message give the pieces back.
-- Turn: one body stored, and the loop over the pieces.
-- Bench: the bodies of a small message, computed.
pub mod Laws
mod Turn
pub mod Bench
