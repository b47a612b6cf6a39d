-- Contract: what the other files of this crate say of a contract.
--
--   Gives seen Met spec   whatever meets the contract on an argument shows, there, what the definition gives for it
--   GivesBy seen Met spec   the same where what is shown is told by the argument too
--   One seen Met          what two results of the same call show is the same
--   only                  the first says the second
--   Says T clauses Met    the written contract of a function is the plain fact Met, in every model of the logic
--   WalkedGives, WalkedOne   the same two of a contract as it is written, of which the plain fact is said here
--   fixed, only_walked    a contract that is one equation gives its right side; the first says the second
--
-- `Met a x s` is a function's contract as its crate has it: `a` the arguments as they are passed, `x` the result, `s` the arguments when
-- it returns. `seen` picks what a caller then holds: the answer, and the contents of what was lent to be written. Of a slice lent
-- to be written the contents are meant, not the address; of a part that is lent back (`own_part`, `joined_part`, `payload`, `collect_lent`) the
-- place too, as its promise has it.
-- Trusts: nothing.
use mathlib.Core.Path.{◌≡◌, sym, ◌∙◌}
use seplogic.Ra.Ura.{Ura}
use base.Logic.{SProp}
use prog.Memory.{Memory}
use prog.Routine.{Routine}
use types.Logic.{Logic}
use contract.Monad.{fact, Fun}
use contract.Lifetimes.{Lfts}
use denote.Triple.Entry.{Args, Res}
use denote.Triple.Clauses.{Ended, Clauses, AtExit}

module _ {A X S L : Type 0} where
  abbrev pub Gives : (X → S → L) → (A → X → S → Type 0) → (A → L) → Type 0
  Gives seen Met spec = (a : A) (x : X) (s : S) → Met a x s → seen x s ≡ spec a

  abbrev pub GivesBy : (A → X → S → L) → (A → X → S → Type 0) → (A → L) → Type 0
  GivesBy seen Met spec = (a : A) (x : X) (s : S) → Met a x s → seen a x s ≡ spec a

  abbrev pub One : (X → S → L) → (A → X → S → Type 0) → Type 0
  One seen Met = (a : A) (x y : X) (s t : S) → Met a x s → Met a y t → seen x s ≡ seen y t

  pub only : {seen : X → S → L} {Met : A → X → S → Type 0} {spec : A → L} → Gives seen Met spec → One seen Met
  only gives a x y s t h g = gives a x s h ∙ sym (gives a y t g)

-- what is seen of a function that only answers
abbrev pub answer : {X S : Type 0} → X → S → X
answer x s = x

-- the written contract of a function, whose clauses these are, is the plain fact Met, in every model of the logic
abbrev pub Says : (T : Ended) → ((M : Type 1) (𝓤 : Ura M) → (𝓛 : Logic 𝓤) → (Memory → SProp 𝓤) → (Routine → Fun 𝓤) → Clauses 𝓤 T)
    → ((κs : Lfts T.signature.lifetimes) → Args T.signature κs → Res T.signature κs → AtExit T κs → Type 0) → Type 2
Says T clauses Met = (M : Type 1) (𝓤 : Ura M) (𝓛 : Logic 𝓤) (mem : Memory → SProp 𝓤) (run : Routine → Fun 𝓤)
    (κs : Lfts T.signature.lifetimes) (a : Args T.signature κs) (g : (clauses M 𝓤 𝓛 mem run κs a).ghost) (x : Res T.signature κs) (s : AtExit T κs)
    → (clauses M 𝓤 𝓛 mem run κs a).ensures g x s ≡ fact 𝓤 (Met κs a x s)

-- ---- the same of a contract as it is written: the plain fact is said, and is the contract

module _ (T : Ended) (clauses : (M : Type 1) (𝓤 : Ura M) → (𝓛 : Logic 𝓤) → (Memory → SProp 𝓤) → (Routine → Fun 𝓤) → Clauses 𝓤 T) {L : Type 0}
    (seen : (κs : Lfts T.signature.lifetimes) → Res T.signature κs → AtExit T κs → L) where
  pub record WalkedGives (spec : (κs : Lfts T.signature.lifetimes) → Args T.signature κs → L) : Type 2 where
    pub Met : (κs : Lfts T.signature.lifetimes) → Args T.signature κs → Res T.signature κs → AtExit T κs → Type 0
    pub says : Says T clauses Met
    pub gives : (κs : Lfts T.signature.lifetimes) → Gives (seen κs) (Met κs) (spec κs)

  pub record WalkedOne : Type 2 where
    pub Met : (κs : Lfts T.signature.lifetimes) → Args T.signature κs → Res T.signature κs → AtExit T κs → Type 0
    pub says : Says T clauses Met
    pub one : (κs : Lfts T.signature.lifetimes) → One (seen κs) (Met κs)

module _ {T : Ended} {clauses : (M : Type 1) (𝓤 : Ura M) → (𝓛 : Logic 𝓤) → (Memory → SProp 𝓤) → (Routine → Fun 𝓤) → Clauses 𝓤 T} {L : Type 0}
    {seen : (κs : Lfts T.signature.lifetimes) → Res T.signature κs → AtExit T κs → L} where
  -- a contract that is one equation
  pub fixed : {spec : (κs : Lfts T.signature.lifetimes) → Args T.signature κs → L} → Says T clauses (λ κs a x s. seen κs x s ≡ spec κs a) → WalkedGives T clauses seen spec
  fixed e = record { Met = _; says = e; gives = λ κs a x s h. h }

  pub only_walked : {spec : (κs : Lfts T.signature.lifetimes) → Args T.signature κs → L} → WalkedGives T clauses seen spec → WalkedOne T clauses seen
  only_walked g = record { Met = g.Met; says = g.says; one = λ κs. only (g.gives κs) }
