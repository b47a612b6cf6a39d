-- LawsIdle    the test of a record, part by part
pub mod LawsIdle
