-- Laws: what proofs above may know of packet_of and of the header's length. Plain: a header of five words, as document 01 had every header.
pub mod Laws
pub mod Plain
