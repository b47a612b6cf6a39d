-- Lists: a place that is filled. LawsRead: what one element makes of a reading. Kept, LawsTaking: what the top-level loop keeps. LawsTurn: its
-- turn. LawsArms: what a turn does with an element by its type. LawsSteps: what the other private functions owe each other. Sound: the room and
-- the numbers of a table. Laws: what a caller learns of a reading. Shown: the paper's words tell readings apart. Bench: the starred messages, with BenchSteps, BenchRefused and BenchM.
-- Controls: wrong programs, refuted.
pub mod Lists
pub mod LawsRead
pub mod Kept
pub mod LawsTaking
pub mod LawsTurn
pub mod LawsArms
pub mod LawsSteps
pub mod Sound
pub mod Laws
pub mod Shown
pub mod BenchSteps
pub mod BenchRefused
pub mod BenchM
pub mod Bench
pub mod Controls
