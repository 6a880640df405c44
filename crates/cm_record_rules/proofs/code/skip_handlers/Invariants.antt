use Rattle.std.proofs.Common.{◌≡◌, ◌-◌}
use Rattle.cm_attributes.specs.Contents.{past_many, past_counted, past_handler}
use Rattle.cm_record_rules.proofs.code.skip_handlers.Given as goal

abbrev pub invariant-loop : goal.invariant-loop
invariant-loop l =
    past_many (past_handler l.class l.size) (l.count - l.counter) l.rest
    ≡ past_counted (past_handler l.class l.size) l.bytes
