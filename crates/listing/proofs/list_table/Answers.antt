-- `listing::list_table` gives `listing` of `table_text`: the five parts of the text are written one behind the other from 0 on.
-- Trusts: nothing.
use Rattle.std.proofs.Common.{arith, rules}
use lib.Dec.{lit≤}
use Rattle.refusals.specs.Refusals.{number_of}
use Rattle.listing.specs.Text.{table_text}
use Rattle.texts.proofs.Lengths.{lined_room, lined_then}
use Rattle.notices.proofs.Listings.{listing-refused, listing_lent}
use Rattle.listing.proofs.list_table.Goals as goal

-- the buffer is too short
pub returns-then-out-lt-LISTING_BYTES : goal.returns-then-out-lt-LISTING_BYTES
unfolding number_of
returns-then-out-lt-LISTING_BYTES c = listing-refused _ _ c.if-out-lt-LISTING_BYTES.true

-- each part has room behind those before it
pub put_rules-requires : goal.put_rules-requires
put_rules-requires c = let a = lined_room 44 3711 (omega arith) c.put_sizes.ensures.text in omega (arith, a)

pub put_classifiers-requires : goal.put_classifiers-requires
put_classifiers-requires c =
    let a = lined_room 44 3711 (omega arith) c.put_sizes.ensures.text in
    let b = lined_room 2112 1599 a c.put_rules.ensures.text in
    omega (arith, b)

pub put_channels-requires : goal.put_channels-requires
put_channels-requires c =
    let a = lined_room 44 3711 (omega arith) c.put_sizes.ensures.text in
    let b = lined_room 2112 1599 a c.put_rules.ensures.text in
    let d = lined_room 960 639 b c.put_classifiers.ensures.text in
    omega (arith, d)

pub put_timers-requires : goal.put_timers-requires
put_timers-requires c =
    let a = lined_room 44 3711 (omega arith) c.put_sizes.ensures.text in
    let b = lined_room 2112 1599 a c.put_rules.ensures.text in
    let d = lined_room 960 639 b c.put_classifiers.ensures.text in
    lined_room 608 31 d c.put_channels.ensures.text

-- the text, in the buffer that was lent to the writer
pub returns : goal.returns
unfolding table_text
returns c =
    listing_lent (search rules) c.if-out-lt-LISTING_BYTES.false (lit≤ tt)
    (lined_then 44 3711 (omega arith) c.put_sizes.ensures.text
    (λ room. lined_then 2112 1599 room c.put_rules.ensures.text
    (λ room. lined_then 960 639 room c.put_classifiers.ensures.text
    (λ room. lined_then 608 31 room c.put_channels.ensures.text (λ room. c.put_timers.ensures.text)))))
