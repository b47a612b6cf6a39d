-- Laws: of the musts, place by place.
pub mod Laws
