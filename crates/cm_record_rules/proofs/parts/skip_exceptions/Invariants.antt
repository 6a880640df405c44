use Rattle.std.proofs.Common.{[], ◌∷◌}
use Rattle.cm_class.specs.declared.kind.Kind.TheVariants as kinds
use Rattle.cm_class.specs.Names.{names}
use Rattle.cm_record_rules.specs.Parts.{past_tests}
use Rattle.std.proofs.Common.{◌≡◌, ◌-◌}
use Rattle.cm_attributes.specs.Contents.{past_many, past_counted}
use Rattle.cm_record_rules.proofs.parts.skip_exceptions.Given as goal

abbrev pub invariant-loop : goal.invariant-loop
invariant-loop l =
    past_many (past_tests (names kinds.Class l.class ∷ [])) (l.count - l.counter) l.rest
    ≡ past_counted (past_tests (names kinds.Class l.class ∷ [])) l.bytes
