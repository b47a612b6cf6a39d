-- Missing: laws of a family of slots.
-- Holds: a record and a slot buffer that hold a run, when a piece is put.
-- Stored: a piece that is stored and noted.      Refine: one step does what the run says.
-- Loose: the loose setting is document 01's collector as it was.
-- Sound: the slots of a well-made record.
-- Made: every lent record stands for a run, which under the loose setting is a history of its own.
-- Kept: the join buffer's length, and that of a cut message.
-- Came: the run of a cut message's bodies is the pieces that came.
-- Once: a cut message completes once, over the runs.
-- Demands: demand 2 from any lent record; demand 3 from any that is apart.
-- Last: Complete is reported at the arrival of the last piece missing, and there only.
-- Bench: the starred example; that demand 3's hypotheses can be met, and that Apart is needed.
-- BenchStrict: the same under the strict setting, and that Passes is needed.
-- Controls: one answer only; wrong collectors refuted.
-- Between: pieces of whole elements pass the strict test.      Setting: every call keeps the setting.
pub mod Missing
pub mod Holds
pub mod Stored
pub mod Refine
pub mod Loose
pub mod Sound
pub mod Made
pub mod Kept
pub mod Came
pub mod Once
pub mod Demands
pub mod Between
pub mod Setting
pub mod Last
pub mod Bench
pub mod BenchStrict
pub mod Controls
