-- A rule, written and read back (specs/Rules.antt of rules, rule_bytes of encoding).
--
--   rule_so ..       the rule that these values make, its unused places empty
--   rule_good       the row of a rule takes its tests and its fold from nothing to the whole rule
--   rule-tested     so its element passes, wherever it stands and whatever was counted before, while there is room
--   rule_back       and what is read there is the rule that was written
-- Trusts: nothing.
use Prim.Native.Nat.{ℕ, suc, ◌+◌, ◌^◌, ◌≤◌, ◌<◌}
use mathlib.Core.Path.{◌≡◌, refl, sym, ap, subst, ◌∙◌}
use mathlib.Core.Bool.{true, false}
use mathlib.Core.List.{List, [], ◌∷◌, ◌++◌}
use native.Mathlib.Omega.{arith}
use borrow.Author.Tests.{ne_eqb, lt-ltb, le-ltb, lt-leb, le-leb}
use lib.ListN.{length, get_or}
use Rattle.table.specs.Table.{empty_client, empty_rule, clients_of, numbers_of, ucids_of, padded}
use Rattle.table.specs.declared.Client.{Client}
use Rattle.table.specs.declared.Rule.{Rule}
use Rattle.table.proofs.Laws.{length-clients_of_le, length-numbers_of_le, length-ucids_of_le}
use Rattle.table.proofs.Padded.{padded-more}
use Rattle.types.specs.declared.Length.TheVariants.{Row, Bytes, OrMore}
use Rattle.types.specs.declared.Values.TheVariants.{Any, NotZero}
use Rattle.element_tests.specs.Tests.{second_copy, wrong_length, bad_value, is_full}
use Rattle.rows.specs.Tests.{is_row, none_counted}
use Rattle.rows.specs.Rows.{element_of}
use Rattle.children.specs.Rows.{row_fold}
use Rattle.children.proofs.Laws.{row_inside-row}
use Rattle.rules.specs.Rules.{with_ucids, with_named, with_rule_child, rule_at}
use Rattle.texts.specs.Text.{each}
use Rattle.writing_elements.specs.Encode.{big_endian, element, client_bytes, number_bytes, ucid_bytes, rule_row, rule_bytes}
use Rattle.writing_elements.proofs.Sizes.{clients-most, rule_row-most}
use Rattle.writing_elements.proofs.Stands.{Stands, stands_byte, stands_value, stands_number, stands_part, stands_head}
use Rattle.writing_laws.specs.Claims.{All, ClientGood, NumberGood, RuleGood}
use Rattle.writing_laws.proofs.Known.{known, rule_1, rule_2, rule_3, rule_4, rule_5, rule_6, rule_musts, top_50}
use Rattle.writing_laws.proofs.Lists.{length_more, pasted-padded}
use Rattle.writing_laws.proofs.Segments.{passed, Good, good_none, good_then, good_each, good_leaf, good_row, row_fine, row-tested, row_folded}
use Rattle.writing_laws.proofs.Clients.{clients_back}

abbrev pub rule_so : ℕ → ℕ → List ℕ → List Client → ℕ → List ℕ → Rule
rule_so n p us cs t ns =
    record { number = n; priority = p; ucidcount = length us; clientcount = length cs; numbercount = length ns; ucids = padded 16 0 us; numbers = padded 8 0 ns; tunnel = t; clients = padded 8 empty_client cs }

abbrev counted : ℕ → ℕ → ℕ → ℕ → ℕ → ℕ → List ℕ
counted a b c d e n = a ∷ b ∷ c ∷ d ∷ e ∷ n ∷ 0 ∷ 0 ∷ []

-- whether there is a list of UCIDs
abbrev some : List ℕ → ℕ
some [] = 0
some (u ∷ us) = 1

whole : (q : Rule) → RuleGood q → rule_so q.number q.priority (ucids_of q) (clients_of q) q.tunnel (numbers_of q) ≡ q
whole q g = simp (← g.ucids.array, ← g.clients.array, ← g.numbers.array, ← g.ucids.count, ← g.clients.count, ← g.numbers.count)

module _ (msg : List ℕ) (own : ℕ) where
  -- 50.1 and 50.2: one byte each
  good_number : (n : ℕ) → Good msg 1 own (with_rule_child msg) (element 1 (n ∷ [])) (counted 0 0 0 0 0 0) (rule_so 0 0 [] [] 0 []) (counted 1 0 0 0 0 0) (rule_so n 0 [] [] 0 [])
  unfolding second_copy wrong_length is_full bad_value is_row with_rule_child
  good_number n =
      good_leaf msg 1 own (with_rule_child msg) (known 11 (Bytes 1) false Any 255 0) 1 (n ∷ []) (counted 0 0 0 0 0 0) rule_1
      (record { listed = λ z. omega (arith, z); few = omega arith; copy = refl; size = refl; value = λ at s. refl; room = refl }) refl
      (λ at s. simp (stands_byte s, stands_byte (stands_value {v = n ∷ []} s)))

  good_priority : (n p : ℕ) → Good msg 1 own (with_rule_child msg) (element 2 (p ∷ [])) (counted 1 0 0 0 0 0) (rule_so n 0 [] [] 0 []) (counted 1 1 0 0 0 0) (rule_so n p [] [] 0 [])
  unfolding second_copy wrong_length is_full bad_value is_row with_rule_child
  good_priority n p =
      good_leaf msg 1 own (with_rule_child msg) (known 12 (Bytes 1) false Any 255 1) 2 (p ∷ []) (counted 1 0 0 0 0 0) rule_2
      (record { listed = λ z. omega (arith, z); few = omega arith; copy = refl; size = refl; value = λ at s. refl; room = refl }) refl
      (λ at s. simp (stands_byte s, stands_byte (stands_value {v = p ∷ []} s)))

  -- 50.3, where there is a list
  good_ucids : (n p : ℕ) (us : List ℕ) → length us ≤ 16 → Good msg 1 own (with_rule_child msg) (ucid_bytes us) (counted 1 1 0 0 0 0) (rule_so n p [] [] 0 []) (counted 1 1 (some us) 0 0 0) (rule_so n p us [] 0 [])
  unfolding second_copy wrong_length is_full bad_value is_row with_rule_child with_ucids ucid_bytes
  good_ucids n p [] h = good_none msg 1 own (with_rule_child msg)
  good_ucids n p (u ∷ us) h =
      good_leaf msg 1 own (with_rule_child msg) (known 13 (OrMore 1) false Any 16 2) 3 (u ∷ us) (counted 1 1 0 0 0 0) rule_3
      (record { listed = λ z. omega (arith, z); few = omega arith; copy = refl; size = simp (le-ltb (suc (length us)) 1 (omega arith)); value = λ at s. refl; room = simp (le-ltb 16 (suc (length us)) (omega arith)) }) refl
      (λ at s. simp (stands_byte s, le-leb (suc (length us)) 16 (omega arith), stands_part (stands_value {v = u ∷ us} s), pasted-padded 16 (u ∷ us) (omega arith)))

  -- 50.4: the client IDs
  good_clients : (n p : ℕ) (us : List ℕ) {cs : List Client} → length cs ≤ 8 → All ClientGood cs
      → Good msg 1 own (with_rule_child msg) (element 4 (each client_bytes cs)) (counted 1 1 (some us) 0 0 0) (rule_so n p us [] 0 []) (counted 1 1 (some us) 1 0 0) (rule_so n p us cs 0 [])
  unfolding second_copy wrong_length is_full bad_value is_row with_rule_child
  good_clients n p us {cs} h g =
      good_row msg 1 own (with_rule_child msg) (known 14 Row false Any 255 3) 4 (each client_bytes cs) (counted 1 1 (some us) 0 0 0) rule_4
      (record { listed = λ z. omega (arith, z); few = omega (arith, clients-most cs h); copy = refl; size = refl; value = λ at s. refl; room = simp (le-ltb 255 (length (each client_bytes cs)) (omega (arith, clients-most cs h))) }) refl
      (λ at s. let b = clients_back msg at (at + 2) h g (stands_value s) in (ap (λ f. f.bad) b.0, simp (stands_byte s, b.1)))

  -- 50.5: the tunnel address
  good_tunnel : (n p t : ℕ) (us : List ℕ) (cs : List Client) → t < 256 ^ 6
      → Good msg 1 own (with_rule_child msg) (element 5 (big_endian 6 t)) (counted 1 1 (some us) 1 0 0) (rule_so n p us cs 0 []) (counted 1 1 (some us) 1 1 0) (rule_so n p us cs t [])
  unfolding second_copy wrong_length is_full bad_value is_row with_rule_child big_endian
  good_tunnel n p t us cs h =
      good_leaf msg 1 own (with_rule_child msg) (known 15 (Bytes 6) false Any 255 4) 5 (big_endian 6 t) (counted 1 1 (some us) 1 0 0) rule_5
      (record { listed = λ z. omega (arith, z); few = omega arith; copy = refl; size = refl; value = λ at s. refl; room = refl }) refl
      (λ at s. simp (stands_byte s, stands_number msg (at + 2) 6 t h (stands_value s)))

  -- 50.6: the classifier numbers
  good_named : (n p t : ℕ) (us : List ℕ) (cs : List Client) (xs : List ℕ) (x : ℕ) → length xs < 8 → NumberGood x
      → Good msg 1 own (with_rule_child msg) (number_bytes x) (counted 1 1 (some us) 1 1 (length xs)) (rule_so n p us cs t xs) (counted 1 1 (some us) 1 1 (length xs + 1)) (rule_so n p us cs t (xs ++ (x ∷ [])))
  unfolding second_copy wrong_length is_full bad_value is_row with_rule_child with_named number_bytes big_endian
  good_named n p t us cs xs x h g =
      good_leaf msg 1 own (with_rule_child msg) (known 16 (Bytes 2) true NotZero 8 5) 6 (big_endian 2 x) (counted 1 1 (some us) 1 1 (length xs)) rule_6
      (record {
        listed = λ z. omega (arith, z);
        few = omega arith;
        copy = refl;
        size = refl;
        value = λ at s. simp (stands_number msg (at + 2) 2 x g.1 (stands_value s), ne_eqb x 0 (λ z. omega (arith, z)));
        room = simp (lt-leb 8 (length xs) h);
      }) refl
      (λ at s. simp (stands_byte s, stands_number msg (at + 2) 2 x g.1 (stands_value s), lt-ltb (length xs) 8 h, padded-more 8 0 xs x h, length_more xs x))

  pub rule_good : (q : Rule) → RuleGood q → Good msg 1 own (with_rule_child msg) (rule_row q) none_counted empty_rule (counted 1 1 (some (ucids_of q)) 1 1 (length (numbers_of q))) q
  unfolding rule_row padded
  rule_good q g = subst (λ (r : Rule). Good msg 1 own (with_rule_child msg) (rule_row q) none_counted empty_rule (counted 1 1 (some (ucids_of q)) 1 1 (length (numbers_of q))) r) (whole q g) segments
    where
      segments : Good msg 1 own (with_rule_child msg) (rule_row q) none_counted empty_rule (counted 1 1 (some (ucids_of q)) 1 1 (length (numbers_of q)))
          (rule_so q.number q.priority (ucids_of q) (clients_of q) q.tunnel (numbers_of q))
      segments =
          good_then msg 1 own (with_rule_child msg) _ _ (good_number q.number)
          (good_then msg 1 own (with_rule_child msg) _ _ (good_priority q.number q.priority)
          (good_then msg 1 own (with_rule_child msg) _ _ (good_ucids q.number q.priority (ucids_of q) (length-ucids_of_le q))
          (good_then msg 1 own (with_rule_child msg) _ _ (good_clients q.number q.priority (ucids_of q) (length-clients_of_le q) g.client)
          (good_then msg 1 own (with_rule_child msg) _ _ (good_tunnel q.number q.priority q.tunnel (ucids_of q) (clients_of q) g.tunnel)
          (good_each msg 1 own (with_rule_child msg) number_bytes NumberGood 8 (counted 1 1 (some (ucids_of q)) 1 1) (rule_so q.number q.priority (ucids_of q) (clients_of q) q.tunnel)
          (λ xs x h p. good_named q.number q.priority q.tunnel (ucids_of q) (clients_of q) xs x h p) [] (omega (arith, length-numbers_of_le q)) g.number)))))

module _ (msg : List ℕ) (at : ℕ) (q : Rule) (g : RuleGood q) (s : Stands msg at (rule_bytes q)) where
  pub rule_back : rule_at msg at ≡ q
  unfolding rule_at rule_bytes
  rule_back =
      ap (λ row. row_fold (with_rule_child msg) row empty_rule)
      (row_inside-row msg at (sym ((stands_head {v = rule_row q} s (length msg) (omega (arith, rule_row-most q)) (omega (arith, s.fits))))) refl)
      ∙ row_folded msg 1 at (with_rule_child msg) (rule_good msg at q g (at + 2) (stands_value s))

  pub rule-tested : (u : List ℕ) → get_or u 1 0 < 32 → element_of msg 26 at (length (rule_row q)) u ≡ passed at 1 (get_or u 1 0 + 1)
  unfolding rule_bytes second_copy wrong_length is_full bad_value is_row
  rule-tested u room =
      row_fine msg 26 (known 1 Row true Any 32 1) 50 (rule_row q) u top_50
      (record { listed = λ z. omega (arith, z); few = omega (arith, rule_row-most q); copy = refl; size = refl; value = λ at s. refl; room = simp (lt-leb 32 (get_or u 1 0) room) }) at s refl
      (ap (λ f. f.bad) (row-tested msg 1 at (with_rule_child msg) (rule_good msg at q g (at + 2) (stands_value s)) (rule_musts _ _ _)))
