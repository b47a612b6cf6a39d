-- Parts: the parts and the children of a classifier, written.
pub mod Parts
