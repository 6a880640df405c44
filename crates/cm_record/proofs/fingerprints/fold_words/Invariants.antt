use Rattle.std.proofs.Common.{◌≡◌, drop}
use Rattle.cm_record.specs.Fingerprints.{folded}
use Rattle.cm_record.proofs.fingerprints.fold_words.Given as goal

-- the words that are left lead to the result
abbrev pub invariant-loop-word : goal.invariant-loop-word
invariant-loop-word l = folded l.number (drop l.word-index l.words) ≡ folded l.from l.words
