use Rattle.std.proofs.Common.{◌≡◌, ◌-◌}
use Rattle.cm_attributes.specs.Contents.{past_many, past_counted, past_bootstrap_method}
use Rattle.cm_record_rules.proofs.bootstrap.skip_bootstrap_methods.Given as goal

abbrev pub invariant-loop : goal.invariant-loop
invariant-loop l =
    past_many (past_bootstrap_method l.class) (l.count - l.counter) l.rest
    ≡ past_counted (past_bootstrap_method l.class) l.bytes
