-- Walk: the names that walks share.
-- Places: what is had of the locals of a function.
-- Locals: the first and the last steps of a walk, for all locals at once.
-- Reading: how a thin function reads and sets its locals.
-- Lent: a part of a record behind a `&` is lent on.
pub mod Walk
pub mod Places
pub mod Locals
pub mod Reading
pub mod Lent
