-- Laws: the slots of a record, what a well-made record has.
pub mod Laws
