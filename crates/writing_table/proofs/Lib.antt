-- Laws: one law for each answer of `writing`.
-- Only: the answers as numbers tell answers apart.
-- Parts: what `write_table` has in hand when the message is written.
pub mod Laws
pub mod Only
mod Parts
