use Rattle.std.proofs.Common.{◌≡◌}
use Rattle.cm_view.specs.declared.fault.ViewFault.{ViewFault}
use Rattle.cm_view.specs.declared.fault.ViewFault.TheVariants as view_fault
use Rattle.cm_view.specs.Views.{IsViewFault}
use Rattle.cm_view.proofs.Standing.{standing_opens}
use Rattle.cm_view.proofs.Opened.{if_err_map}
use Rattle.cm_view.proofs.view.View.open.Goals as goal

pub returns-clause-standing : goal.returns-clause-standing
returns-clause-standing c sizes m arenas n stands =
    let bytes = c.args.bytes.now in
    if_err_map c.view_bytes.result (IsViewFault bytes)
    (λ (e : ViewFault). e ≡ view_fault.NoMemory)
    (standing_opens c.verdict_is_exact.ensures.stands c.verdict_is_exact.ensures.ok
    c.found_is_live.ensures bytes c.rows_show_names.ensures sizes m arenas n stands)
    c.view_bytes.ensures.fault
