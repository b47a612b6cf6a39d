-- Filling: what the private functions ask and leave (no public contract cites it).
--
--   Filled bytes c    the record of the pieces of at most so many bytes: each closed piece has 1,242 or more of them, the one that is being filled
--                     at most 1,497
--   Line most A       the bytes of an entry, at most so many
--   PutsWithin ..     what is asked of a function that writes an element of at most `most` bytes: any call, which gives `put_within`
--   Added most line l held m new r
--                     the array is now `new`: behind the message m stand the elements of the list l, of at most `most` bytes together; r is the
--                     message with them
--
-- Trusts: nothing.
use Rattle.std.specs.Prelude.{ℕ, ◌+◌, ◌*◌, ◌≤◌, ◌≡◌, List, map, length}
use denote.Ref.{MutBor}
use Rattle.texts.specs.Text.{each}
use Rattle.texts.specs.Writing.{Lined}
use Rattle.writing_numbers.specs.Within.{put_within}
use Rattle.writing_message.specs.Message.{cut_all}
use Rattle.writing_message.specs.declared.Cut.{Cut}
use Rattle.writing_message.specs.declared.Message.{Message}

pub record Filled (bytes : ℕ) (c : Cut) : Type 0 where
  pub all : 1242 * c.closed + c.now ≤ bytes
  pub short : c.now ≤ 1497

pub record Line (most : ℕ) (A : Type 0) : Type 0 where
  pub bytes : A → List ℕ
  pub short : (x : A) → length (bytes x) ≤ most

pub record PutsWithin {A : Type 0} (most : ℕ) (line : A → List ℕ) (pre : A → MutBor (List ℕ) → ℕ → Type 0) (post : A → MutBor (List ℕ) → ℕ → ℕ → MutBor (List ℕ) → Type 0) : Type 0 where
  pub callable : (x : A) (out : MutBor (List ℕ)) (at : ℕ) → pre x out at
  pub writes : (x : A) (old new : MutBor (List ℕ)) (at next : ℕ) → post x old at next new → record { next = next; out = new.now } ≡ put_within most (line x) old.now at

pub record Added {A : Type 0} (most : ℕ) (line : A → List ℕ) (l : List A) (held : List ℕ) (m : Message) (new : List ℕ) (r : Message) : Type 0 where
  pub lined : Lined most held m.length (each line l) new r.length
  pub cut : r.cut ≡ cut_all m.cut (map length (map line l))
  pub filled : Filled r.length r.cut
