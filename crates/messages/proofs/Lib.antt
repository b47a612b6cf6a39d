-- Laws: what proofs here and above may know of the parts that a message is lent from.
pub mod Laws
