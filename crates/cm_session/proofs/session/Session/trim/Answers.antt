use Rattle.std.proofs.Common.{◌∙◌}
use Rattle.cm_session.proofs.Stepping.{trim_begins, trim_disk, trim_sizes, trim_sound}
use Rattle.cm_session.proofs.Past.{past_trim}
use Rattle.cm_session.proofs.session.Session.trim.Goals as goal

pub returns-clause-machine : goal.returns-clause-machine
returns-clause-machine g c =
    let s = c.args.self.now in
    λ k i. trim_begins g.D.Disk.view k s.front s.committer c.trim.new.self s.queue.groups.items
    s.sealed s.has_failed i c.trim.result c.trim.ensures

pub returns-clause-sound : goal.returns-clause-sound
returns-clause-sound g c =
    λ k i is. i.told.failed_is
    ∙ trim_sound g.D.Disk.view c.args.self.now.committer c.trim.new.self c.trim.result
    c.trim.ensures is

pub returns-clause-disk : goal.returns-clause-disk
returns-clause-disk g c =
    trim_disk g.D.Disk.view c.args.self.now.committer c.trim.new.self c.trim.result
    c.trim.ensures

pub returns-clause-sizes : goal.returns-clause-sizes
returns-clause-sizes g c =
    trim_sizes g.D.Disk.view c.args.self.now.committer c.trim.new.self c.trim.result
    c.trim.ensures

pub returns-clause-past : goal.returns-clause-past
returns-clause-past g c =
    let s = c.args.self.now in
    λ p h. past_trim g.D.Disk.view p s.front s.committer c.trim.new.self s.queue.groups.items h
    c.trim.result c.trim.ensures
