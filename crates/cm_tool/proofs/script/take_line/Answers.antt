use Rattle.std.proofs.Common.{Err, refl, sym, subst}
use Rattle.std.specs.declared.alloc.AllocError.{AllocError}
use Rattle.std.specs.Io.KnownBytes.{Appends}
use Rattle.std.proofs.KnownBytes.{Keeps-refl}
use Rattle.cm_lines.specs.Streams.{io, ReadsLine, WritesPart}
use Rattle.cm_tool.specs.Answers.{served, pause}
use Rattle.cm_tool.specs.Runs.{HasEnded, TakesTurn}
use Rattle.cm_tool.specs.Serving.{ReachesServed, MayProgress}
use Rattle.cm_tool.proofs.Commands.{stays}
use Rattle.cm_tool.proofs.Moments.{still}
use Rattle.cm_tool.proofs.Running.{unread, line_unmade, line_answered, line_unwritten}
use Rattle.cm_tool.proofs.script.take_line.Goals as goal

pub returns-in-Ok-false-clause-machine : goal.returns-in-Ok-false-clause-machine
returns-in-Ok-false-clause-machine g c =
    let a = g.R.Read.remaining c.args.reader.now in
    let b = g.R.Read.remaining c.next_line.new.reader in
    let h = g.W.Write.contents c.args.writer.now in
    let read = subst (ReadsLine a b c.next_line.new.line) c.in-Ok-false.field-0-test
    c.in-Ok-false.ensures.read in
    let s = c.args.session.now in
    let disk = g.D.Disk in
    λ k matches ready.
    let f = disk.view.failures s.committer.disk in
    stays {Does = λ t. HasEnded (io a h h) (pause (served k f) s.committer.disk)
    (pause t s.committer.disk)} k f (record { none = read; same = refl; nothing = Keeps-refl h })
    (still disk.view k s matches)

pub returns-in-Err-clause-machine : goal.returns-in-Err-clause-machine
returns-in-Err-clause-machine g c =
    let s = c.args.session.now in
    let disk = s.committer.disk in
    let f = g.D.Disk.view.failures disk in
    let a = g.R.Read.remaining c.args.reader.now in
    let h = g.W.Write.contents c.args.writer.now in
    λ k matches ready.
    stays {Does =
    λ t. TakesTurn s.committer.sizes (g.R.Read.remaining c.next_line.new.reader) (io a h h)
    (Err c.in-Err.fault) (pause (served k f) disk) (pause t disk)} k f
    (unread s.committer.sizes a h (served k f) c.in-Err.fault c.in-Err.ensures.fault)
    (still g.D.Disk.view k s matches)

pub returns-in-Err-answer-clause-machine : goal.returns-in-Err-answer-clause-machine
returns-in-Err-answer-clause-machine g c =
    let s = c.args.session.now in
    let new = c.answer.new.session in
    let failures = g.D.Disk.view.failures in
    let a = g.R.Read.remaining c.args.reader.now in
    let b = g.R.Read.remaining c.next_line.new.reader in
    let h = g.W.Write.contents c.args.writer.now in
    let read = subst (ReadsLine a b c.next_line.new.line) c.in-Ok-true.field-0-test
    c.in-Ok-true.ensures.read in
    λ k matches ready.
    line_unmade s.committer.sizes a b h (served k (failures s.committer.disk))
    (failures new.committer.disk) s.committer.disk new.committer.disk
    (MayProgress g.D.Disk.view k s new) read.0 read.1 c.in-Err-answer.field-0
    (c.in-Err-answer.ensures.machine read.0 read.2 k matches ready)

pub returns-in-Ok-write_line-clause-machine : goal.returns-in-Ok-write_line-clause-machine
returns-in-Ok-write_line-clause-machine g c =
    let s = c.args.session.now in
    let new = c.answer.new.session in
    let failures = g.D.Disk.view.failures in
    let a = g.R.Read.remaining c.args.reader.now in
    let b = g.R.Read.remaining c.next_line.new.reader in
    let h = g.W.Write.contents c.args.writer.now in
    let m = g.W.Write.contents c.write_line.new.writer in
    let read = subst (ReadsLine a b c.next_line.new.line) c.in-Ok-true.field-0-test
    c.in-Ok-true.ensures.read in
    λ k matches ready.
    line_answered s.committer.sizes a b h (served k (failures s.committer.disk))
    (failures new.committer.disk) s.committer.disk new.committer.disk
    (MayProgress g.D.Disk.view k s new) read.0 read.1
    AllocError m c.in-Ok.reply (c.in-Ok.ensures.machine read.0 read.2 k matches ready)
    (subst (Appends h m) c.deref.ensures.value c.in-Ok-write_line.ensures.ok)

pub returns-clause-machine : goal.returns-clause-machine
returns-clause-machine g c =
    let s = c.args.session.now in
    let new = c.answer.new.session in
    let failures = g.D.Disk.view.failures in
    let a = g.R.Read.remaining c.args.reader.now in
    let b = g.R.Read.remaining c.next_line.new.reader in
    let h = g.W.Write.contents c.args.writer.now in
    let m = g.W.Write.contents c.write_line.new.writer in
    let read = subst (ReadsLine a b c.next_line.new.line) c.in-Ok-true.field-0-test
    c.in-Ok-true.ensures.read in
    λ k matches ready.
    subst (λ e. ReachesServed (λ next. TakesTurn s.committer.sizes b (io a h m) (Err e)
    (pause (served k (failures s.committer.disk)) s.committer.disk) (pause next new.committer.disk))
    (failures new.committer.disk) (MayProgress g.D.Disk.view k s new))
    (sym c.in-Err-write_line.ensures.fault)
    (line_unwritten s.committer.sizes a b h (served k (failures s.committer.disk))
    (failures new.committer.disk) s.committer.disk new.committer.disk
    (MayProgress g.D.Disk.view k s new) read.0 read.1
    AllocError m c.in-Ok.reply (c.in-Ok.ensures.machine read.0 read.2 k matches ready)
    (subst (WritesPart h m) c.deref.ensures.value c.in-Err-write_line.ensures.err))
