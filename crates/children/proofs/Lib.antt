-- Laws: what proofs above may know of rows. LawsFolds: what they may know of walks over rows.
pub mod Laws
pub mod LawsFolds
pub mod LawsChildren
pub mod Walked
