-- Calls: calls that leave what the collector leaves.
-- Lent: demand 3 over what is lent.
-- Host: demand 3 as a C host sees it.
pub mod Calls
pub mod Lent
pub mod Host
