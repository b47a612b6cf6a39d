-- Laws: the step with the message lent.
pub mod Laws
