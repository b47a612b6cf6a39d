-- M under the strict setting (document 02, Req 04): cut after 10 bytes, which is inside its first rule, and after 22, where the second one starts.
--
--   cut_strict       after 10: Waiting 1, then 21 at 10, and the second piece then waits again
--   between_strict   after 22: Complete, with M
--   passes_met, strict_once      the hypothesis of demand 3 for the strict setting can be met, and what it says then
--   passes_needed    without it demand 3 would be false: cut after 10, completion is never reported
-- Trusts: nothing.
use Prim.Native.Nat.{ℕ, zero, suc, ◌+◌, ◌≤◌, ◌<◌}
use mathlib.Core.Path.{◌≡◌, refl, ap, ◌∙◌}
use mathlib.Core.Bool.{true}
use mathlib.Core.List.{List, [], ◌∷◌}
use mathlib.Core.Logic.{inl, inr}
use native.Mathlib.Omega.{arith}
use lib.ListN.{length, get_or, take, drop}
use Rattle.compare.specs.Compare.{same_bytes}
use Rattle.collector.specs.Answers.{waiting, complete, dropped}
use Rattle.elements.specs.Elements.{head_at}
use Rattle.children.specs.Rows.{row_from, row_in}
use Rattle.cuts.specs.Cuts.{starts_at, judged_to, may_in, sum_to, cuts_from, cuts_in}
use Rattle.collection.specs.Record.{empty_collection}
use Rattle.body_tests.specs.Refusals.{body_refusal}
use Rattle.collector_demands.specs.Runs.{accepts, lookup, continues, missing, message, lengths_to, judged, settled_run, run_from, Reply, reply, reply_from, reply_of}
use Rattle.collector_demands.specs.Demand.{concat, Lent, reply_to, is_complete, completions, Cutting, body_of, Arrived, none, piece, Came, lengths_of, Passes, Demand3}
use Rattle.collector_demands.proofs.Stored.{blank_nothing}
use Rattle.collector_demands.proofs.Demands.{demand_2_nothing, demand_3}
use Rattle.collector_demands.proofs.Bench.{M, pieces, first_body, second_body, lending}

pub cut_strict : (reply_of true [] second_body ≡ reply (waiting 1) []) × (reply_of true (second_body ∷ []) first_body ≡ reply (dropped 10) [])
    × (reply_of true (first_body ∷ second_body ∷ []) second_body ≡ reply (waiting 1) [])
unfolding reply_from accepts lookup continues run_from settled_run judged missing message lengths_to body_refusal same_bytes head_at row_from row_in starts_at judged_to may_in sum_to cuts_from cuts_in
cut_strict = (refl, refl, refl)

abbrev pub between : List (List ℕ)
between = take 22 M ∷ drop 22 M ∷ []

pub between_strict : reply_of true ((7 ∷ 2 ∷ 2 ∷ drop 22 M) ∷ []) (7 ∷ 2 ∷ 1 ∷ take 22 M) ≡ reply (complete 52) M
unfolding reply_from accepts lookup continues run_from settled_run judged missing message lengths_to body_refusal same_bytes head_at row_from row_in starts_at judged_to may_in sum_to cuts_from cuts_in
between_strict = refl

-- ---- demand 3

pub passes_met : Passes M between
unfolding lengths_of head_at row_from row_in starts_at judged_to may_in sum_to
passes_met zero l = refl
passes_met (suc k) l = absurd (omega arith)

cutting_between : Cutting M between
unfolding concat
cutting_between = record { whole = refl; some = omega arith; few = omega arith; short = short } where
  short : (k : ℕ) → k < 2 → length (get_or between k []) ≤ 1497
  short zero l = omega arith
  short (suc zero) l = omega arith
  short (suc (suc k)) l = absurd (omega arith)

-- both pieces, the second one first
unfoldable both : (ps : List (List ℕ)) → 1 < length ps → Arrived 7 ps (body_of 7 ps 0 ∷ body_of 7 ps 1 ∷ [])
both ps l = piece 0 (omega arith) (piece 1 l none)

all : (ps : List (List ℕ)) (l : 1 < length ps) (k : ℕ) → k < 2 → Came k (both ps l)
unfolding Came both
all ps l zero q = inl refl
all ps l (suc zero) q = inr (inl refl)
all ps l (suc (suc k)) q = absurd (omega arith)

module _ (slots join : List ℕ) (room : 24000 ≤ length slots) (space : 24000 ≤ length join) where
  -- nothing collected, strict
  abbrev lent : Lent
  lent = lending slots join room space (empty_collection 1 0 0)

  pub strict_once : completions lent (body_of 7 between 0 ∷ body_of 7 between 1 ∷ []) ≡ 1
  strict_once = (demand_3 lent room space 7 M between cutting_between (λ e. passes_met) (inl (blank_nothing 1))).once (both between (omega arith)) (all between (omega arith))

  pub passes_needed : Demand3 lent 7 M pieces → ⊥
  unfolding completions body_of
  passes_needed d =
      let one : is_complete (reply_to lent (second_body ∷ []) first_body).answer + (is_complete (reply_to lent [] second_body).answer + 0) ≡ 1 = d.once (both pieces (omega arith)) (all pieces (omega arith)) in
      let e = ap (λ (r : Reply). is_complete r.answer) ((demand_2_nothing lent room space (blank_nothing 1) (second_body ∷ []) first_body).0 ∙ cut_strict.1) in
      let f = ap (λ (r : Reply). is_complete r.answer) ((demand_2_nothing lent room space (blank_nothing 1) [] second_body).0 ∙ cut_strict.0) in
      omega arith
