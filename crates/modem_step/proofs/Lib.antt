-- Laws        what proofs, here and above, may know of the step and of an event's number
-- Told        the paper's numbers tell steps and answers apart
pub mod Laws
pub mod Told
