-- Lists: a list that is walked. LawsLone: test 15's search. Laws: what a caller learns
-- of test 15. Sought: the paper's words tell its answers apart.
pub mod Lists
pub mod LawsLone
pub mod Laws
pub mod Sought
