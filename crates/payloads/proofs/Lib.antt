-- Lent: where the payload begins and ends.        Judged: the paper's words tell verdicts apart.
pub mod Lent
pub mod Judged
