-- Laws: what proofs here and above may know of head_at. Stood: the paper's words tell heads apart.
pub mod Laws
pub mod Stood
