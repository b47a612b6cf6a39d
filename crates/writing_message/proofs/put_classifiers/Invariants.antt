-- `writing_message::put_classifiers` has `put_entries` write `classifier_bytes` of each entry, which is short.
-- Trusts: nothing.
use Rattle.writing_elements.specs.Encode.{classifier_bytes}
use Rattle.writing_elements.proofs.Sizes.{classifier-most}
use Rattle.writing_message.proofs.put_classifiers.Given as goal

abbrev pub ghost-put_entries : goal.ghost-put_entries
ghost-put_entries a = record { bytes = classifier_bytes; short = classifier-most }
