-- Laws: what a child of a 50.4 sets.
pub mod Laws
