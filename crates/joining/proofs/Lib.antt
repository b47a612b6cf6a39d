-- Laws: the pieces in the slot buffer and in the join buffer, on plain values.
pub mod Laws
