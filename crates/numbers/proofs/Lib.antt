-- Laws: bytes as numbers, on plain lists.
pub mod Laws
