-- What a tunnel that was filled is read as (specs/Preparing.antt, specs/Prepared.antt of tunnel_parts).
--
--   list_from_is        a list that agrees with another place by place is that list
--   entries_of-tunnel_of the entries of a tunnel that was made of at most 32 entries are those
--   number-tunnel_of    and so is the number at a place
--   first_place-map     the first place in a list of images
-- Trusts: nothing.
use mathlib.Core.Path.{◌≡◌, refl, sym, ap, ◌∙◌}
use mathlib.Core.Bool.{Bool, cond}
use mathlib.Core.List.{List, [], ◌∷◌, map}
use Prim.Native.Nat.{ℕ, suc, ◌+◌, ◌-◌, ◌≤◌, ◌<◌}
use native.Mathlib.Nat.{zero-add}
use native.Mathlib.Omega.{arith}
use lib.ListN.{length, get_or, replicate, length-map, get_or-append, get_or-map}
use borrow.Author.Tests.{le-ltb}
use Rattle.table.specs.Table.{limited_to}
use Rattle.order.specs.Best.{first_place}
use Rattle.matching.specs.declared.Entry.{Entry}
use Rattle.tunnel_parts.specs.Prepared.{entry_at, list_from, entries_of}
use Rattle.preparing.specs.Preparing.{padded, tunnel_of}

abbrev pub zero_entry : Entry
zero_entry = record { destination = 0; source = 0; mask = 0; start = 0; end = 0; number = 0; ports = 0 }

pub first_place-map : {A B : Type 0} (f : A → B) (ok : B → Bool) (xs : List A) → first_place ok (map f xs) ≡ first_place (λ x. ok (f x)) xs
unfolding first_place
first_place-map f ok [] = refl
first_place-map f ok (x ∷ xs) = ap (λ (n : ℕ). cond (ok (f x)) 0 (suc n)) (first_place-map f ok xs)

list_from_is : {A : Type 0} (at : ℕ → A) (d : A) (i : ℕ) (xs : List A) → ((j : ℕ) → j < length xs → at (i + j) ≡ get_or xs j d) → list_from at i (length xs) ≡ xs
unfolding list_from
list_from_is at d i [] h = refl
list_from_is {A = A} at d i (x ∷ xs) h =
    let here : at i ≡ x = ap at (omega arith) ∙ h 0 (omega arith) in
    rw here (ap (λ (l : List A). x ∷ l) (list_from_is at d (suc i) xs (λ j l. ap at (omega arith) ∙ h (suc j) (omega arith))))

-- one part of the entries, read back out of its array
part : (f : Entry → ℕ) (es : List Entry) (j : ℕ) → f zero_entry ≡ 0 → j < length es → get_or (padded (map f es)) j 0 ≡ f (get_or es j zero_entry)
part f es j z h =
    let l : j < length (map f es) = omega (arith, length-map es f) in
    get_or-append (map f es) (replicate (32 - length (map f es)) 0) 0 j l ∙ ap (get_or (map f es) j) (sym z) ∙ get_or-map f es j zero_entry

at-tunnel_of : (mode address : ℕ) (es : List Entry) (j : ℕ) → j < length es → entry_at (tunnel_of mode address es) j ≡ get_or es j zero_entry
unfolding tunnel_of
at-tunnel_of mode address es j h =
    rw (part (λ e. e.destination) es j refl h, part (λ e. e.source) es j refl h, part (λ e. e.mask) es j refl h, part (λ e. e.start) es j refl h, part (λ e. e.end) es j refl h, part (λ e. e.number) es j refl h, part (λ e. e.ports) es j refl h)

pub count-tunnel_of : (mode address : ℕ) (es : List Entry) → length es ≤ 32 → limited_to 32 (tunnel_of mode address es).count ≡ length es
unfolding tunnel_of
count-tunnel_of mode address es h = simp (le-ltb 32 (length es) h)

pub entries_of-tunnel_of : (mode address : ℕ) (es : List Entry) → length es ≤ 32 → entries_of (tunnel_of mode address es) ≡ es
unfolding entries_of
entries_of-tunnel_of mode address es h =
    rw (count-tunnel_of mode address es h) (list_from_is (λ i. entry_at (tunnel_of mode address es) i) zero_entry 0 es
    (λ j l. ap (λ (i : ℕ). entry_at (tunnel_of mode address es) i) (zero-add j) ∙ at-tunnel_of mode address es j l))

pub number-tunnel_of : (mode address : ℕ) (es : List Entry) (j : ℕ) → j < length es → get_or (tunnel_of mode address es).numbers j 0 ≡ (get_or es j zero_entry).number
unfolding tunnel_of
number-tunnel_of mode address es j h = part (λ e. e.number) es j refl h
