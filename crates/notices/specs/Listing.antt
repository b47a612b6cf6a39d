-- Listing: a text in a lent buffer (the contract of every function that lists).
--
--   Written, written a  each case of an answer, with its value: text with its length, or refused with its number
--   listing bytes out   a buffer under 3,755 bytes is refused by 100 and stays; else the text stands at its start, every other
--                       byte is as it was, and the answer is the text's length
--
-- 3,755 bytes are what the longest listing of any table takes (proofs/Longest.antt of listing). 100 is this crate's own number: the paper's end at 18,
-- and its requests take 19 to 30.
-- Trusts: nothing.
use Rattle.std.specs.Prelude.{ℕ, cond, List, ◌++◌, length, drop, ltb, Result, Ok, Err}
use Rattle.refusals.specs.declared.Refusal.{Refusal}
use Rattle.refusals.specs.Refusals.{number_of}

pub data Written : Type 0 where
  text : ℕ → Written
  refused : ℕ → Written

abbrev pub written : Result ℕ Refusal → Written
written (Ok n) = text n
written (Err r) = refused (number_of r)

-- the answer and the buffer after the call
pub record Listing : Type 0 where
  pub answer : Written
  pub out : List ℕ

unfoldable pub listing : List ℕ → List ℕ → Listing
listing bytes out =
    cond (ltb (length out) 3755) (record { answer = refused 100; out = out }) (record { answer = text (length bytes); out = bytes ++ drop (length bytes) out })
