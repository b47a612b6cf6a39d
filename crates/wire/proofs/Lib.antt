-- Laws: a piece put into a buffer, two tests, parts of a list, on plain lists.
pub mod Laws
