-- Laws: what the tests of a body leave.
pub mod Laws
