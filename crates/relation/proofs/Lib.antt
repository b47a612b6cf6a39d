-- Laws: one for each answer, and what goes_on says of the record.
pub mod Laws
