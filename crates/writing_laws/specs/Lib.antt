-- Claims: the tables that reading can produce. Typed: what the types of the fields say.
pub mod Claims
pub mod Typed
