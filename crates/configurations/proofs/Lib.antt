-- Laws: what a child of the configuration sets; the room for channels.
pub mod Laws
