-- Laws: what a child of a rule sets; the room for numbers.
pub mod Laws
