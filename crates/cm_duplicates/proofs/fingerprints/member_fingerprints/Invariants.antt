use Rattle.std.proofs.Common.{◌≡◌, map, take}
use Rattle.cm_duplicates.specs.Fingerprints.{member_fingerprint}
use Rattle.cm_duplicates.proofs.fingerprints.member_fingerprints.Given as goal

abbrev pub invariant-loop-member : goal.invariant-loop-member
invariant-loop-member l =
    l.fingerprints.items
    ≡ map (member_fingerprint l.strength l.class) (take l.member-index l.members)
