-- Places: a loop over all places of an array, of which the first are used. Laws: the tests of an entry.
pub mod Places
pub mod Laws
