use Rattle.cm_guards.proofs.{leaves_more, leaves_on}
use Rattle.cm_commit.specs.States.{ShowsCommitted, MayLeave}
use Rattle.cm_maintenance.proofs.Cuts.{shows_as, kept_itself, first_call, kept_first}
use Rattle.cm_maintenance.proofs.trimming.cut.Goals as goal

pub returns-in_err-advance-clause-moments : goal.returns-in_err-advance-clause-moments
returns-in_err-advance-clause-moments g c =
    let s = c.args.committer.now in
    leaves_more g.D.Disk.view s.disk c.advance.new.self.disk (MayLeave s)
    (ShowsCommitted s) (shows_as s s (kept_itself s c.requires.sound c.requires.begun))
    c.advance.ensures.any_moment

pub returns-in_err-advance-2-clause-moments : goal.returns-in_err-advance-2-clause-moments
returns-in_err-advance-2-clause-moments g c =
    let s = c.args.committer.now in
    let mid = c.advance.new.self in
    let new = c.advance-2.new.self in
    let is = first_call s c.requires.sound c.requires.begun mid c.in_ok-advance.field-0
    c.in_ok-advance.ensures.moved in
    leaves_on g.D.Disk.view s.disk mid.disk new.disk (ShowsCommitted s)
    (leaves_more g.D.Disk.view s.disk mid.disk (MayLeave s)
    (ShowsCommitted s) (shows_as s s (kept_itself s c.requires.sound c.requires.begun))
    c.advance.ensures.any_moment)
    (leaves_more g.D.Disk.view mid.disk new.disk (MayLeave mid)
    (ShowsCommitted s)
    (shows_as s mid (kept_first s c.requires.sound c.requires.begun mid is))
    c.advance-2.ensures.any_moment)

pub returns-clause-moments : goal.returns-clause-moments
returns-clause-moments g c =
    let s = c.args.committer.now in
    let mid = c.advance.new.self in
    let new = c.advance-2.new.self in
    let is = first_call s c.requires.sound c.requires.begun mid c.in_ok-advance.field-0
    c.in_ok-advance.ensures.moved in
    leaves_on g.D.Disk.view s.disk mid.disk new.disk (ShowsCommitted s)
    (leaves_more g.D.Disk.view s.disk mid.disk (MayLeave s)
    (ShowsCommitted s) (shows_as s s (kept_itself s c.requires.sound c.requires.begun))
    c.advance.ensures.any_moment)
    (leaves_more g.D.Disk.view mid.disk new.disk (MayLeave mid)
    (ShowsCommitted s)
    (shows_as s mid (kept_first s c.requires.sound c.requires.begun mid is))
    c.advance-2.ensures.any_moment)
