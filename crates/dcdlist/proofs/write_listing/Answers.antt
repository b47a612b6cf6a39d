-- `dcdlist::write_listing` writes a part of its text: what `list_body` answers lies in the buffer.
-- Trusts: nothing.
use mathlib.Core.Path.{sym}
use lib.Seq.{length-take-le}
use Rattle.notices.proofs.Listings.{listing_within}
use Rattle.dcdlist.proofs.write_listing.Goals as goal

pub slice_bounds-text-end : goal.slice_bounds-text-end
slice_bounds-text-end g c = listing_within _ _ c.in-Ok.ensures

pub slice_bounds-write_all-end : goal.slice_bounds-write_all-end
slice_bounds-write_all-end g c = sym (length-take-le _ _ (listing_within _ _ c.in-Ok.ensures))
