use Rattle.std.proofs.Common.{List, sym, ap, subst, ◌∙◌}
use Rattle.cm_disk.specs.Disk.{IsDurable}
use Rattle.cm_guards.specs.Calls.{LeavesOnly}
use Rattle.cm_guards.proofs.{leaves_none}
use Rattle.cm_layout.specs.declared.row.Row.{Row}
use Rattle.cm_layout.specs.Offsets.{root_at}
use Rattle.cm_commit.specs.States.{CommitterState, NoGroup, ShowsCommitted}
use Rattle.cm_commit.specs.Trims.{roots_of_rows}
use Rattle.cm_maintenance.proofs.Cuts.{begun_is, none_is, shows_committed, none_to_spare}
use Rattle.cm_maintenance.proofs.trimming.trim_file.Goals as goal

pub returns-in-Ok-clause-moments : goal.returns-in-Ok-clause-moments
returns-in-Ok-clause-moments g c =
    subst (λ (m : CommitterState _). LeavesOnly g.D.Disk.view m.disk
    c.cut.new.committer.disk (ShowsCommitted m))
    (begun_is g.D.Disk.view c.args.committer.now c.trim.new.self c.in-Ok-true.field-0
    c.in-Ok-true.field-0-test c.in-Ok-true.ensures) c.cut.ensures.moments

pub returns-in-Ok-clause-no_more : goal.returns-in-Ok-clause-no_more
returns-in-Ok-clause-no_more g c =
    let s = c.args.committer.now in
    let is = begun_is g.D.Disk.view s c.trim.new.self c.in-Ok-true.field-0
    c.in-Ok-true.field-0-test c.in-Ok-true.ensures in
    let rows = c.cut.ensures.kept.rows ∙ ap (λ (m : CommitterState _). m.rows) is in
    let told = c.roots.ensures ∙ ap (λ (l : List (Row (List _))). roots_of_rows l) rows in
    none_to_spare s.sizes c.roots.result (g.D.Disk.view.contents c.cut.new.committer.disk)
    (c.in-Ok.ensures.ends
    ∙ (ap (λ (m : CommitterState _). root_at m.sizes (roots_of_rows m.rows)) is
    ∙ ap (root_at s.sizes) (sym told)))

pub returns-in-Err-cut-clause-moments : goal.returns-in-Err-cut-clause-moments
returns-in-Err-cut-clause-moments g c =
    subst (λ (m : CommitterState _). LeavesOnly g.D.Disk.view m.disk
    c.cut.new.committer.disk (ShowsCommitted m))
    (begun_is g.D.Disk.view c.args.committer.now c.trim.new.self c.in-Ok-true.field-0
    c.in-Ok-true.field-0-test c.in-Ok-true.ensures) c.cut.ensures.moments

pub returns-in-Ok-false-clause-moments : goal.returns-in-Ok-false-clause-moments
returns-in-Ok-false-clause-moments g c =
    let s = c.args.committer.now in
    let is = none_is g.D.Disk.view s c.trim.new.self c.in-Ok-false.field-0
    c.in-Ok-false.field-0-test c.in-Ok-false.ensures in
    subst (λ (m : CommitterState _). LeavesOnly g.D.Disk.view s.disk m.disk
    (ShowsCommitted s)) (sym is)
    (leaves_none g.D.Disk.view
    g.met.D.Disk.only_now s.disk (ShowsCommitted s) (record {
      each = λ image i.
          shows_committed s (subst NoGroup (sym c.requires.idle) tt) image
          (c.images.ensures.each image i);
    }))

pub returns-in-Ok-clause-stored : goal.returns-in-Ok-clause-stored
returns-in-Ok-clause-stored g c = λ durable. c.in-Ok.ensures.stored

pub returns-in-Ok-false-clause-stored : goal.returns-in-Ok-false-clause-stored
returns-in-Ok-false-clause-stored g c =
    let view = g.D.Disk.view in
    let is = none_is view c.args.committer.now c.trim.new.self c.in-Ok-false.field-0
    c.in-Ok-false.field-0-test c.in-Ok-false.ensures in
    λ durable.
    subst (λ (m : CommitterState _). IsDurable (view.contents m.disk) (view.unsynced m.disk))
    (sym is) durable
