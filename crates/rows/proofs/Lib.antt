-- Rule: a row is one step of the rule over rows. Ways: what the rule says on each way through the code. Placed: where a refusal lies. Laws: what
-- proofs above may know of tested_at. Bench: the bench messages that end in 6 to 13, computed.
pub mod Rule
pub mod Ways
pub mod Placed
pub mod Laws
pub mod Bench
pub mod Told
