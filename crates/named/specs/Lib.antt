-- Named: the numbers that rules name and classifiers carry, and test 15. Sought: its answer in the paper's words.
pub mod Named
pub mod Sought
