-- Answers: what a body is answered, in the paper's words (document 01, "Collecting pieces" and refusals 1 to 5; document 02, Req 04, refusal 21).
--
--   Said, said a               each case of an answer, with its number or value: the number of a refusal, 1 to 5; Repeat; Waiting with
--                              the empty slots; Complete with the length of the message; Dropped, which is refusal 21, with its offset
--   Place, place_of a number    where the message stands that an answer completes: in the body behind its three bytes where the number of
--                              pieces is 1, else at the start of the join buffer, with its length; in neither where none is complete
--   own_of a number body        the part of the body that is lent with an answer: all of it from that place, where the message stands there
--   joined_of a number join     the part of the join buffer: so many bytes from that place, where it stands there
--   lent_of a number body join  the message that is so lent: the one part or the other; nothing where none is complete
--
-- Refusals 1 to 5 carry the offset 0, so none is kept.
-- Tested by: the bench example in proofs/Bench.antt of collector_demands.
-- Trusts: nothing.
use Rattle.std.specs.Prelude.{ℕ, cond, List, [], take, drop, eqb}
use Rattle.collector.specs.declared.Answer.{Answer}
use Rattle.collector.specs.declared.Answer.TheVariants.{Refused, Repeat, Waiting, Complete, Dropped}

pub data Said : Type 0 where
  refused : ℕ → Said
  again : Said
  waiting : ℕ → Said
  complete : ℕ → Said
  dropped : ℕ → Said

abbrev pub said : Answer → Said
said (Refused n) = refused n
said Repeat = again
said (Waiting k) = waiting k
said (Complete n) = complete n
said (Dropped off) = dropped off

-- ---- where the message stands, and what is lent

abbrev pub in_neither : ℕ
in_neither = 0

abbrev pub in_body : ℕ
in_body = 1

abbrev pub in_join : ℕ
in_join = 2

-- which of the two it stands in, from which byte, and how many bytes
pub record Place : Type 0 where
  pub source : ℕ
  pub start : ℕ
  pub length : ℕ

abbrev pub place : ℕ → ℕ → ℕ → Place
place source start n = record { source = source; start = start; length = n }

abbrev pub place_of : Said → ℕ → Place
place_of (refused n) number = place in_neither 0 0
place_of again number = place in_neither 0 0
place_of (waiting k) number = place in_neither 0 0
place_of (complete n) number = cond (eqb number 1) (place in_body 3 n) (place in_join 0 n)
place_of (dropped cut) number = place in_neither 0 0

abbrev pub own_in : Place → List ℕ → List ℕ
own_in p body = cond (eqb p.source in_body) (drop p.start body) []

abbrev pub joined_in : Place → List ℕ → List ℕ
joined_in p join = cond (eqb p.source in_join) (take p.length (drop p.start join)) []

unfoldable pub own_of : Said → ℕ → List ℕ → List ℕ
own_of a number body = own_in (place_of a number) body

unfoldable pub joined_of : Said → ℕ → List ℕ → List ℕ
joined_of a number join = joined_in (place_of a number) join

unfoldable pub lent_of : Said → ℕ → List ℕ → List ℕ → List ℕ
lent_of a number body join =
    let p = place_of a number in
    cond (eqb p.source in_body) (own_in p body) (joined_in p join)
