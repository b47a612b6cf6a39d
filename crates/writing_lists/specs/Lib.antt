-- Lists: a list of entries that have numbers of their own.
pub mod Lists
