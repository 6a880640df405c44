use Rattle.std.proofs.Common.{◌≡◌, ◌+◌, length}
use Rattle.cm_record_rules.specs.Plain.{count_characters}
use Rattle.cm_record_rules.proofs.texts.count_characters.Given as goal

abbrev pub invariant-loop-rest : goal.invariant-loop-rest
invariant-loop-rest l = l.count + count_characters l.rest ≡ count_characters l.bytes

abbrev pub decreases-loop-rest : goal.decreases-loop-rest
decreases-loop-rest l = length l.rest
