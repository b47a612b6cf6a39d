-- Laws: how long the lists of a table and of a rule are.
-- Padded: a list in an array.
pub mod Laws
pub mod Padded
