-- Listed: a number looked up in a list or in a rule.
pub mod Listed
