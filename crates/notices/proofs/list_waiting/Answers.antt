-- `notices::list_waiting` gives `listing` of `waiting_text`: its one line is written from 0 on.
-- Trusts: nothing.
use lib.Dec.{lit≤}
use Rattle.std.proofs.Common.{rules}
use Rattle.refusals.specs.Refusals.{number_of}
use Rattle.notices.proofs.Listings.{listing-refused, listing_lent}
use Rattle.notices.proofs.list_waiting.Goals as goal

-- the buffer is too short
pub returns-then-out-lt-LISTING_BYTES : goal.returns-then-out-lt-LISTING_BYTES
unfolding number_of
returns-then-out-lt-LISTING_BYTES c = listing-refused _ _ c.if-out-lt-LISTING_BYTES.true

-- the text, in the buffer that was lent to the writer
pub returns : goal.returns
returns c = listing_lent (search rules) c.if-out-lt-LISTING_BYTES.false (lit≤ tt) c.put_waiting.ensures.text
