-- Laws: two parts compared, on plain lists.
-- Blocks: what is compared a block at a time.
pub mod Laws
pub mod Blocks
