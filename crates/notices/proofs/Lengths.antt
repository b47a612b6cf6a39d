-- How long a line can be (specs/Text.antt): refusal_text-short 36, waiting_text-short 12.
-- Trusts: nothing.
use Prim.Native.Nat.{ℕ, ◌^◌, ◌<◌}
use Rattle.texts.specs.Writing.{Short}
use Rattle.texts.proofs.Lengths.{join-short, end_short, field-short}
use Rattle.notices.specs.Text.{refusal_text, waiting_text}

pub refusal_text-short : (number offset : ℕ) → number < 256 → offset < 2 ^ 64 → Short 36 (refusal_text number offset)
unfolding refusal_text
refusal_text-short number offset h p = join-short 11 25 (field-short _ 2 h tt) (join-short 24 1 (field-short _ 19 p tt) (end_short _))

pub waiting_text-short : (slots : ℕ) → slots < 256 → Short 12 (waiting_text slots)
unfolding waiting_text
waiting_text-short slots h = join-short 11 1 (field-short _ 2 h tt) (end_short _)
