-- Laws of `listing` (specs/Listing.antt).
--
--   listing-refused   a short buffer                 listing-text    the text was written from 0 on
--   listing_within    a text that was written lies in the buffer
--   listing_lent      the text was written by a writer, to which the buffer was lent
-- Trusts: nothing.
use Prim.Native.Nat.{ℕ, ◌≤◌, ◌<◌}
use mathlib.Core.Path.{◌≡◌, refl, sym, ap, subst, ◌∙◌}
use mathlib.Core.Bool.{Bool, true, false, cond}
use mathlib.Core.List.{List, ◌++◌}
use native.Mathlib.Omega.{arith}
use native.Mathlib.Nat.{zero-add}
use borrow.Author.Tests.{lt-ltb, le-ltb}
use lib.ListN.{length, drop, length-append}
use lib.Dec.{ltb}
use Rattle.wire.proofs.Laws.{pasted-fits}
use Rattle.notices.specs.Listing.{Written, text, refused, Listing, listing}
use Rattle.texts.specs.Writing.{Lined}

pub listing-refused : (bytes out : List ℕ) → length out < 3755 → record { answer = refused 100; out = out } ≡ listing bytes out
unfolding listing
listing-refused bytes out h = rw (lt-ltb (length out) 3755 h) refl

pub listing-text : {most : ℕ} {bytes out new : List ℕ} {next : ℕ} → 3755 ≤ length out → most ≤ 3755 → Lined most out 0 bytes new next → record { answer = text next; out = new } ≡ listing bytes out
unfolding listing
listing-text {most} {bytes} {out} {new} {next} h m w =
    let place : next ≡ length bytes = w.wrote.place ∙ zero-add (length bytes) in
    let same : new ≡ bytes ++ drop (length bytes) out =
    w.wrote.bytes ∙ pasted-fits out 0 bytes (omega (arith, w.short.bytes)) ∙ ap (λ (k : ℕ). bytes ++ drop k out) (zero-add (length bytes)) in
    rw (le-ltb (length out) 3755 h, place, same) refl

pub listing_lent : {most next : ℕ} {bytes out new last : List ℕ} → last ≡ new → 3755 ≤ length out → most ≤ 3755 → Lined most out 0 bytes new next
    → record { answer = text next; out = last } ≡ listing bytes out
listing_lent {next = next} {bytes = bytes} {out = out} e h m w =
    subst (λ (l : List ℕ). record { answer = text next; out = l } ≡ listing bytes out) (sym e) (listing-text h m w)

pub listing_within : {k : ℕ} {new : List ℕ} (bytes out : List ℕ) → record { answer = text k; out = new } ≡ listing bytes out → k ≤ length new
unfolding listing
listing_within {k} {new} bytes out e = go (ltb (length out) 3755) e where
  go : (b : Bool) → ◌≡◌ {A = Listing} (record { answer = text k; out = new })
      (cond b (record { answer = refused 100; out = out }) (record { answer = text (length bytes); out = bytes ++ drop (length bytes) out })) → k ≤ length new
  go true f = let z : ◌≡◌ {A = Written} (text k) (refused 100) = ap (λ (l : Listing). l.answer) f in let w : ◌≡◌ {A = ℕ} 0 1 = cc in absurd (omega arith)
  go false f =
      let z : ◌≡◌ {A = Written} (text k) (text (length bytes)) = ap (λ (l : Listing). l.answer) f in
      let n : k ≡ length bytes = cc in
      let w : new ≡ bytes ++ drop (length bytes) out = ap (λ (l : Listing). l.out) f in
      omega (arith, ap length w ∙ length-append bytes (drop (length bytes) out))
