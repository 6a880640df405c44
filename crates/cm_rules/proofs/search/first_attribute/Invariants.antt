use Rattle.std.proofs.Common.{◌≡◌, ◌+◌, ◌<◌, ◌^◌, length}
use Rattle.cm_duplicates.specs.Duplicates.{first_failing}
use Rattle.cm_rules.specs.Fault.{attribute_rule}
use Rattle.cm_rules.proofs.search.first_attribute.Given as goal

abbrev pub invariant-loop-item : goal.invariant-loop-item
invariant-loop-item l = record {
  short : l.place + length l.rest < 2 ^ 16;
  so_far : first_failing (attribute_rule l.rule l.findings.class.now) l.place l.rest
      ≡ first_failing (attribute_rule l.rule l.findings.class.now) 0
      l.findings.class.now.attributes;
}

abbrev pub decreases-loop-item : goal.decreases-loop-item
decreases-loop-item l = length l.rest
