use Rattle.std.proofs.Common.{◌≡◌, drop, not}
use Rattle.std.specs.Prelude.{◌&&◌, ◌==◌}
use Rattle.std.specs.List.{list_all}
use Rattle.cm_record_rules.proofs.twins.is_new.Given as goal

abbrev pub invariant-loop-other : goal.invariant-loop-other
invariant-loop-other l =
    l.all && list_all (λ k. not (k == l.mark)) (drop l.other-index l.marks)
    ≡ list_all (λ k. not (k == l.mark)) l.marks
