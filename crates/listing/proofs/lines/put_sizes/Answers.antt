-- `listing::lines::put_sizes` writes `sizes_line`: its fields one behind the other. The sizes that are printed are those of the lists.
-- Trusts: nothing.
use Rattle.std.proofs.Common.{rules, sym, ◌∙◌}
use Rattle.table.proofs.Laws.{length-rules_of, length-classifiers_of, length-channels_of, length_mapped}
use Rattle.texts.proofs.Puts.{lined-put, wrote_put, wrote_end}
use Rattle.listing.specs.Text.{sizes_line}
use Rattle.listing.proofs.Lengths.{sizes_line-short, wrote_count}
use Rattle.listing.proofs.lines.put_sizes.Goals as goal

pub returns-clause-text : goal.returns-clause-text
unfolding sizes_line
returns-clause-text c =
    let t = c.args.table in
    let sizes = c.limited-rules.ensures ∙ sym (length-rules_of t (search (rules, length_mapped))) in
    let classifiers = c.limited-classifiers.ensures ∙ sym (length-classifiers_of t (search (rules, length_mapped))) in
    let channels = c.limited-channels.ensures ∙ sym (length-channels_of t (search rules)) in
    lined-put 44 c.requires (sizes_line-short c.args.count t c.ranges.count.fits)
    (λ f. wrote_put _ f c.put_field.ensures.text (λ f. wrote_count _ sizes f c.put_field-2.ensures.text (λ f. wrote_count _ classifiers f c.put_field-3.ensures.text (λ f. wrote_count _ channels f c.put_field-4.ensures.text (wrote_end c.put_byte.ensures.text)))))
