use Rattle.std.proofs.Common.{ap, ap₂, ◌∙◌}
use Rattle.cm_record.specs.Fingerprints.{further, folded, upper_half, fingerprint}
use Rattle.cm_record.proofs.fingerprints.run_fingerprint.Goals as goal

pub returns : goal.returns
unfolding fingerprint
returns c = λ bytes is.
    c.upper_half.ensures ∙ ap upper_half (c.fold_words.ensures ∙ ap₂ folded
    (c.fold_word-from.ensures ∙ ap (further c.args.seed) is.count) (c.run_slice.ensures bytes is))
