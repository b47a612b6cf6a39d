-- Laws: a number looked up in a list, of which the first are meant.
pub mod Laws
