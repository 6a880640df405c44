use Rattle.std.proofs.Common.{◌≡◌, ◌-◌}
use Rattle.cm_attributes.specs.Contents.{past_many, past_counted, past_parts, inner_class}
use Rattle.cm_record_rules.proofs.parts.skip_inner_classes.Given as goal

abbrev pub invariant-loop : goal.invariant-loop
invariant-loop l =
    past_many (past_parts l.class inner_class) (l.count - l.counter) l.rest
    ≡ past_counted (past_parts l.class inner_class) l.bytes
