-- Pieces that are whole elements, one behind the other, pass the strict setting's test (document 02, Req 04): so what a writer cuts between top-level
-- elements is collected by either setting.
--
--   between_good     such a cutting passes
-- Trusts: nothing.
use Prim.Native.Nat.{ℕ, zero, suc, ◌+◌, ◌≤◌, ◌<◌}
use mathlib.Core.Path.{◌≡◌, sym, ◌∙◌}
use mathlib.Core.List.{List, [], ◌∷◌, ◌++◌, append_assoc}
use native.Mathlib.Omega.{arith}
use lib.ListN.{length, get_or, length-append}
use Rattle.cuts.specs.Cuts.{sum_to}
use Rattle.cuts.specs.Walks.{Reached, first, Elements}
use Rattle.cuts.proofs.Reached.{reached_may}
use Rattle.cuts.proofs.Each.{sum_to_cons}
use Rattle.cuts.proofs.Pieces.{reached_over}
use Rattle.collector_demands.specs.Demand.{concat, lengths_of, Passes}

-- from the place where the pieces begin, a walk arrives where each of them ends
reached : (ps : List (List ℕ)) (msg pre : List ℕ) → msg ≡ pre ++ concat ps → ((k : ℕ) → k < length ps → Elements (get_or ps k [])) → Reached msg (length pre)
    → (k : ℕ) → k ≤ length ps → (n : ℕ) → n ≡ length pre + sum_to (lengths_of ps) k → Reached msg n
unfolding concat lengths_of sum_to
reached ps msg pre e each t zero q n f = let z : n ≡ length pre = omega arith in rw z t
reached [] msg pre e each t (suc k) q n f = absurd (omega arith)
reached (p ∷ ps) msg pre e each t (suc k) q n f =
    let s = sum_to_cons (length p) (lengths_of ps) k in
    let l : length (pre ++ p) ≡ length pre + length p = length-append pre p in
    reached ps msg (pre ++ p) (e ∙ sym (append_assoc pre p (concat ps))) (λ j r. each (suc j) (omega arith)) (reached_over msg pre p (concat ps) e (each 0 (omega arith)) t (length (pre ++ p)) l)
    k (omega arith) n (omega arith)

pub between_good : (message : List ℕ) (pieces : List (List ℕ)) → concat pieces ≡ message → ((k : ℕ) → k < length pieces → Elements (get_or pieces k [])) → Passes message pieces
between_good message pieces e each k q =
    reached_may message (sum_to (lengths_of pieces) (suc k)) (reached pieces message [] (sym e) each first (suc k) (omega arith) (sum_to (lengths_of pieces) (suc k)) (omega arith))
