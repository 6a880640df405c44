use Rattle.std.proofs.Common.{sym, subst}
use Rattle.cm_commit.specs.States.{CommitterState}
use Rattle.cm_cache.specs.Starting.{MayStart, base_of}
use Rattle.cm_library.specs.Running.{IsOpened}
use Rattle.cm_library.proofs.Ran.{is_opened}
use Rattle.cm_library.proofs.opening.open.Goals as goal

pub returns-in-Ok-clause-opened : goal.returns-in-Ok-clause-opened
returns-in-Ok-clause-opened g c =
    subst (λ (s : CommitterState g.row.D.Denot). IsOpened g.D.Disk.view c.args.disk s)
    (sym c.new.ensures)
    (is_opened g.D.Disk.view c.args.disk c.in-Ok.front c.in-Ok.committer c.in-Ok.ensures.opened
    c.in-Ok.ensures.run)

pub invariant_of-result : goal.invariant_of-result
invariant_of-result g c =
    let failures = g.D.Disk.view.failures in
    subst
    (λ (s : CommitterState g.row.D.Denot). MayStart (base_of s) (failures s.disk) failures
    c.in-Ok.front s)
    (sym c.new.ensures)
    (c.opened_may_start.ensures (g.D.Disk.view.contents c.args.disk) c.in-Ok.ensures.opened)
