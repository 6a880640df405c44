use Rattle.std.proofs.Common.{◌≡◌, ◌-◌}
use Rattle.cm_attributes.specs.Contents.{past_many, past_counted, past_parts}
use Rattle.cm_attributes.proofs.part.skip_rows.Given as goal

abbrev pub invariant-loop : goal.invariant-loop
invariant-loop l =
    past_many (past_parts l.class l.parts) (l.count - l.counter) l.rest
    ≡ past_counted (past_parts l.class l.parts) l.bytes
