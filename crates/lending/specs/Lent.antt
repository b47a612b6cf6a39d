-- Lent: one step with the message lent in its two parts, a part of the body or of the join buffer (document 01, "Collecting pieces").
--
--   lent_step r slots join body      what `collect_step` gives, with the message as a part of the body (own) or of the join buffer (joined), the
--                                   other empty, both where none is complete; and the whole join buffer
--   lent_at r slots join body        the same of a join buffer and a body that stand somewhere, and where the two parts and the buffer then stand
--
-- Tested by: as specs/Step.antt of collector.
-- Trusts: nothing.
use Rattle.std.specs.Prelude.{ℕ, List}
use Rattle.collector.specs.Answers.{Said, own_of, joined_of}
use Rattle.collector.specs.Step.{collect_step}
use Rattle.collection.specs.declared.Collection.{Collection}
use Rattle.wire.specs.Parts.{Part, part}
use Rattle.messages.specs.Place.{own_part, joined_part}

pub record LentAfter : Type 0 where
  pub answer : Said
  pub held : Collection
  pub slots : List ℕ
  pub own : List ℕ
  pub joined : List ℕ
  pub join : List ℕ

unfoldable pub lent_step : Collection → List ℕ → List ℕ → List ℕ → LentAfter
lent_step r slots join body =
    let a = collect_step r slots join body in
    record {
      answer = a.answer;
      held = a.held;
      slots = a.slots;
      own = own_of a.answer a.held.number body;
      joined = joined_of a.answer a.held.number a.join;
      join = a.join;
    }

-- what is lent, and where it stands
pub record LentAt : Type 0 where
  pub after : LentAfter
  pub own : ℕ × ℕ
  pub joined : ℕ × ℕ
  pub join : ℕ × ℕ

unfoldable pub lent_at : Collection → List ℕ → Part → Part → LentAt
lent_at r slots join body =
    let a = collect_step r slots join.bytes body.bytes in
    record {
      after = lent_step r slots join.bytes body.bytes;
      own = (own_part a.answer a.held.number body).at;
      joined = (joined_part a.answer a.held.number (part join.at a.join)).at;
      join = join.at;
    }
