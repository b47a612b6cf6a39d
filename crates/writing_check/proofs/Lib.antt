-- Laws: the tests of a table.
pub mod Laws
