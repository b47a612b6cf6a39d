-- `dsg_frames::verdict_from` gives `verdict_as`: each arm rewrites by the variant that it is for.
-- Trusts: nothing.
use Rattle.payloads.proofs.Lent.{LiesIn, payload_range_lies}
use Rattle.dsg_frames.proofs.verdict_from.Goals as goal

-- the payload begins before its end
pub overflow_sub-result : goal.overflow_sub-result
overflow_sub-result c =
    let told = c.payload_range-range in
    let lies : LiesIn told.result c.args.length = rw told.ensures (payload_range_lies _ _) in
    lies.0
