-- Follows: the receiver's record and buffers are the collector's, and it reads when the collector completes.
-- Demands: demand 3 end to end.
pub mod Follows
pub mod Demands
