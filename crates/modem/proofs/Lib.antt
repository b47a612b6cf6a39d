-- LawsKept    what a well-kept record is, claim by claim
pub mod LawsKept
-- LawsRows    each row keeps it so
pub mod LawsRows
-- LawsEvents  each event and each step keeps it so
pub mod LawsEvents
-- LawsFrame   what a step leaves alone; the transmitter
pub mod LawsFrame
-- LawsSending refusals; the transmitter
pub mod LawsSending
-- Bench       the starred clock example
pub mod Bench
-- Controls    wrong programs, refuted
pub mod Controls
