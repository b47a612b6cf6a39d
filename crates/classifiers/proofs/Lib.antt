-- Laws: what a child of a classifier, and of its 23.9, sets.
pub mod Laws
