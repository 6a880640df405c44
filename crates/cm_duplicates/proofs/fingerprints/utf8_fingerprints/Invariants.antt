use Rattle.std.proofs.Common.{◌≡◌, map}
use Rattle.std.specs.List.{range_with_len}
use Rattle.cm_class.specs.Names.{utf8}
use Rattle.cm_duplicates.specs.Fingerprints.{fingerprint}
use Rattle.cm_duplicates.proofs.fingerprints.utf8_fingerprints.Given as goal

abbrev pub invariant-loop-index : goal.invariant-loop-index
invariant-loop-index l =
    l.fingerprints.items
    ≡ map (λ i. fingerprint l.strength (utf8 l.class i)) (range_with_len 0 l.index)
