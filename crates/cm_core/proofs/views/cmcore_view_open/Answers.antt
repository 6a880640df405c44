use Rattle.std.proofs.Common.{rules, sym, subst, ◌∙◌, ap, inl, inr}
use Rattle.std.proofs.lemmas.Int.{to_z-of_z}
use Rattle.std.specs.Int.{w32}
use Rattle.cm_core.specs.Views.{view_status, IsNotDamaged}
use Rattle.cm_core.proofs.views.cmcore_view_open.Goals as goal

pub returns-in-Err-Fault-clause-standing : goal.returns-in-Err-Fault-clause-standing
returns-in-Err-Fault-clause-standing c sizes m arenas n stands =
    let memory = rw c.in-Err-Fault.field-0-is at
    (c.in-Err-Fault.ensures.standing sizes m arenas n stands) in
    subst IsNotDamaged (sym (to_z-of_z w32 c.of_view_fault.result (search rules)))
    (inr (inl (c.of_view_fault.ensures.status ∙ ap view_status memory)))
