-- Laws: what proofs here and above may know of received and body_text.
pub mod Laws
