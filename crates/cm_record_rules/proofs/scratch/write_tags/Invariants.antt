use Rattle.std.proofs.Common.{◌≡◌, ◌++◌, drop, false}
use Rattle.cm_record_rules.specs.Laid.{tags_from}
use Rattle.cm_record_rules.proofs.scratch.write_tags.Given as goal

abbrev pub invariant-loop-word : goal.invariant-loop-word
invariant-loop-word l =
    l.scratch.items ++ tags_from l.is_second (drop l.word-index l.directory)
    ≡ l.fn.scratch.items ++ tags_from false l.directory
