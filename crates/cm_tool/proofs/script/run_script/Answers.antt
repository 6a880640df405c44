use Rattle.std.proofs.Common.{◌∙◌, Ok, Err, Some, None, refl, subst}
use Rattle.cm_guards.specs.Calls.{LeavesOnly}
use Rattle.cm_commands.specs.Machine.{Machine}
use Rattle.cm_session.specs.Moves.{SessionMatches}
use Rattle.cm_lines.specs.Streams.{io}
use Rattle.cm_pool.specs.Geometry.{Sizes}
use Rattle.cm_tool.specs.Answers.{served, pause, StandsBetween}
use Rattle.cm_tool.specs.Runs.{TakesTurn}
use Rattle.cm_tool.specs.Serving.{IsReady, ReachesServed, Progresses}
use Rattle.cm_tool.proofs.Moments.{rests}
use Rattle.cm_tool.proofs.Running.{Went, went, lines_start, lines_more, lines_lost, lines_end}
use Rattle.cm_tool.proofs.Running.{lines_broken, lines_given_up}
use Rattle.cm_tool.proofs.script.run_script.Goals as goal

pub lines-init : goal.lines-init
lines-init g c =
    let s = c.args.session.now in (
      refl,
      λ k matches ready.
          lines_start (LeavesOnly g.D.Disk.view) s.committer.sizes
          (g.R.Read.remaining c.args.reader.now) (g.W.Write.contents c.args.writer.now) k
          (g.D.Disk.view.failures s.committer.disk) s.committer.disk _
          (λ next. SessionMatches next s) refl refl
          ready matches,
    )

pub returns-then-outcome-clause-machine : goal.returns-then-outcome-clause-machine
returns-then-outcome-clause-machine g c =
    let s = c.args.session.now in
    let old = c.lines.session in
    let new = c.run_line.new.session in
    let sizes = s.committer.sizes in
    let disk = g.D.Disk in
    let leaves = LeavesOnly disk.view in
    let failures = disk.view.failures in
    let f = failures old.committer.disk in
    let now = failures new.committer.disk in
    let a = g.R.Read.remaining c.args.reader.now in
    let b = g.R.Read.remaining c.lines.reader in
    let d = g.R.Read.remaining c.run_line.new.reader in
    let h = g.W.Write.contents c.args.writer.now in
    let x = g.W.Write.contents c.lines.writer in
    let m = g.W.Write.contents c.run_line.new.writer in
    let turn : (j : Machine) → SessionMatches j old → IsReady j
    → ReachesServed (λ t. TakesTurn sizes d (io b x m) (Ok (Some c.in-Ok-Some.kind))
    (pause (served j f) old.committer.disk)
    (pause t new.committer.disk)) now
    (Went leaves sizes old.committer.disk new.committer.disk (λ next. SessionMatches next new) j) =
    subst (λ z. (j : Machine) → SessionMatches j old → IsReady j
    → ReachesServed (λ t. TakesTurn z d (io b x m) (Ok (Some c.in-Ok-Some.kind))
    (pause (served j f) old.committer.disk)
    (pause t new.committer.disk)) now
    (Went leaves z old.committer.disk new.committer.disk (λ next. SessionMatches next new) j))
    c.lines.invariant.0
    (λ j matches ready. went disk.view now j old new
    (subst (λ o. ReachesServed (λ t. TakesTurn old.committer.sizes d (io b x m) (Ok o)
    (pause (served j f) old.committer.disk) (pause t new.committer.disk)) now
    (Progresses disk.view j old new)) c.in-Ok-Some.field-0-is
    (c.in-Ok-Some.ensures.machine j matches ready))) in
    λ k matches ready.
    lines_lost leaves sizes a b d h x m
    (pause (served k (failures s.committer.disk)) s.committer.disk) c.lines.outcome f now
    old.committer.disk new.committer.disk (λ next. SessionMatches next old)
    (λ next. SessionMatches next new)
    (c.lines.invariant.1 k matches ready)
    c.with_reply-outcome.result c.in-Ok-Some.kind turn
    (record {
      refused = c.with_reply-outcome.ensures.refused;
      unsure =
          c.with_reply-outcome.ensures.unsure;
    })
    c.if-outcome.true

pub returns-in-Ok-None-clause-machine : goal.returns-in-Ok-None-clause-machine
returns-in-Ok-None-clause-machine g c =
    let s = c.args.session.now in
    let old = c.lines.session in
    let new = c.run_line.new.session in
    let sizes = s.committer.sizes in
    let disk = g.D.Disk in
    let leaves = LeavesOnly disk.view in
    let failures = disk.view.failures in
    let f = failures old.committer.disk in
    let now = failures new.committer.disk in
    let a = g.R.Read.remaining c.args.reader.now in
    let b = g.R.Read.remaining c.lines.reader in
    let d = g.R.Read.remaining c.run_line.new.reader in
    let h = g.W.Write.contents c.args.writer.now in
    let x = g.W.Write.contents c.lines.writer in
    let m = g.W.Write.contents c.run_line.new.writer in
    let turn : (j : Machine) → SessionMatches j old → IsReady j
    → ReachesServed (λ t. TakesTurn sizes d (io b x m) (Ok None)
    (pause (served j f) old.committer.disk)
    (pause t new.committer.disk)) now
    (Went leaves sizes old.committer.disk new.committer.disk (λ next. SessionMatches next new) j) =
    subst (λ z. (j : Machine) → SessionMatches j old → IsReady j
    → ReachesServed (λ t. TakesTurn z d (io b x m) (Ok None) (pause (served j f) old.committer.disk)
    (pause t new.committer.disk)) now
    (Went leaves z old.committer.disk new.committer.disk (λ next. SessionMatches next new) j))
    c.lines.invariant.0
    (λ j matches ready. went disk.view now j old new
    (subst (λ o. ReachesServed (λ t. TakesTurn old.committer.sizes d (io b x m) (Ok o)
    (pause (served j f) old.committer.disk) (pause t new.committer.disk)) now
    (Progresses disk.view j old new)) c.in-Ok-None.field-0-is
    (c.in-Ok-None.ensures.machine j matches ready))) in
    λ k matches ready.
    lines_end leaves sizes a b d h x m
    (pause (served k (failures s.committer.disk)) s.committer.disk) c.lines.outcome f now
    old.committer.disk new.committer.disk (λ next. SessionMatches next old)
    (λ next. SessionMatches next new)
    (c.lines.invariant.1 k matches ready)
    turn

pub returns-in-Err-clause-machine : goal.returns-in-Err-clause-machine
returns-in-Err-clause-machine g c =
    let s = c.args.session.now in
    let old = c.lines.session in
    let new = c.run_line.new.session in
    let sizes = s.committer.sizes in
    let disk = g.D.Disk in
    let leaves = LeavesOnly disk.view in
    let failures = disk.view.failures in
    let f = failures old.committer.disk in
    let now = failures new.committer.disk in
    let a = g.R.Read.remaining c.args.reader.now in
    let b = g.R.Read.remaining c.lines.reader in
    let d = g.R.Read.remaining c.run_line.new.reader in
    let h = g.W.Write.contents c.args.writer.now in
    let x = g.W.Write.contents c.lines.writer in
    let m = g.W.Write.contents c.run_line.new.writer in
    let turn : (j : Machine) → SessionMatches j old → IsReady j
    → ReachesServed (λ t. TakesTurn sizes d (io b x m) (Err c.in-Err.fault)
    (pause (served j f) old.committer.disk)
    (pause t new.committer.disk)) now
    (Went leaves sizes old.committer.disk new.committer.disk (λ next. SessionMatches next new) j) =
    subst (λ z. (j : Machine) → SessionMatches j old → IsReady j
    → ReachesServed (λ t. TakesTurn z d (io b x m) (Err c.in-Err.fault)
    (pause (served j f) old.committer.disk)
    (pause t new.committer.disk)) now
    (Went leaves z old.committer.disk new.committer.disk (λ next. SessionMatches next new) j))
    c.lines.invariant.0
    (λ j matches ready. went {Does =
    λ t. TakesTurn old.committer.sizes d (io b x m) (Err c.in-Err.fault)
    (pause (served j f) old.committer.disk) (pause t new.committer.disk)} disk.view now
    j old new (c.in-Err.ensures.machine j matches ready)) in
    λ k matches ready.
    lines_broken leaves sizes a b d h x m
    (pause (served k (failures s.committer.disk)) s.committer.disk) c.lines.outcome f now
    old.committer.disk new.committer.disk (λ next. SessionMatches next old)
    (λ next. SessionMatches next new)
    (c.lines.invariant.1 k matches ready)
    c.in-Err.fault turn

pub lines-preserved : goal.lines-preserved
lines-preserved g c =
    let s = c.args.session.now in
    let old = c.lines.session in
    let new = c.run_line.new.session in
    let sizes = s.committer.sizes in
    let disk = g.D.Disk in
    let leaves = LeavesOnly disk.view in
    let failures = disk.view.failures in
    let f = failures old.committer.disk in
    let now = failures new.committer.disk in
    let a = g.R.Read.remaining c.args.reader.now in
    let b = g.R.Read.remaining c.lines.reader in
    let d = g.R.Read.remaining c.run_line.new.reader in
    let h = g.W.Write.contents c.args.writer.now in
    let x = g.W.Write.contents c.lines.writer in
    let m = g.W.Write.contents c.run_line.new.writer in
    let turn : (j : Machine) → SessionMatches j old → IsReady j
    → ReachesServed (λ t. TakesTurn sizes d (io b x m) (Ok (Some c.in-Ok-Some.kind))
    (pause (served j f) old.committer.disk)
    (pause t new.committer.disk)) now
    (Went leaves sizes old.committer.disk new.committer.disk (λ next. SessionMatches next new) j) =
    subst (λ z. (j : Machine) → SessionMatches j old → IsReady j
    → ReachesServed (λ t. TakesTurn z d (io b x m) (Ok (Some c.in-Ok-Some.kind))
    (pause (served j f) old.committer.disk)
    (pause t new.committer.disk)) now
    (Went leaves z old.committer.disk new.committer.disk (λ next. SessionMatches next new) j))
    c.lines.invariant.0
    (λ j matches ready. went disk.view now j old new
    (subst (λ o. ReachesServed (λ t. TakesTurn old.committer.sizes d (io b x m) (Ok o)
    (pause (served j f) old.committer.disk) (pause t new.committer.disk)) now
    (Progresses disk.view j old new)) c.in-Ok-Some.field-0-is
    (c.in-Ok-Some.ensures.machine j matches ready))) in (
      c.run_line.ensures.sizes ∙ c.lines.invariant.0,
      λ k matches ready.
          lines_more leaves sizes a b d h x m
          (pause (served k (failures s.committer.disk)) s.committer.disk) c.lines.outcome f now
          old.committer.disk new.committer.disk (λ next. SessionMatches next old)
          (λ next. SessionMatches next new)
          (c.lines.invariant.1 k matches ready)
          c.with_reply-outcome.result c.in-Ok-Some.kind turn
          (record {
            refused = c.with_reply-outcome.ensures.refused;
            unsure = c.with_reply-outcome.ensures.unsure;
          })
          c.if-outcome.false,
    )

pub returns-clause-machine : goal.returns-clause-machine
returns-clause-machine g c =
    let s = c.args.session.now in
    let old = c.lines.session in
    let disk = g.D.Disk in
    let still : (j : Machine) → SessionMatches j old
    → LeavesOnly disk.view old.committer.disk old.committer.disk
    (StandsBetween s.committer.sizes j j) =
    λ j matches. subst (λ (z : Sizes). LeavesOnly disk.view old.committer.disk
    old.committer.disk (StandsBetween z j j)) c.lines.invariant.0
    (rests disk.view g.met.D.Disk.only_now j old
    (c.images.ensures j matches) matches) in
    λ k matches ready.
    lines_given_up (LeavesOnly disk.view) s.committer.sizes
    (g.R.Read.remaining c.args.reader.now) (g.R.Read.remaining c.lines.reader)
    (g.W.Write.contents c.args.writer.now) (g.W.Write.contents c.lines.writer)
    (pause (served k (disk.view.failures s.committer.disk)) s.committer.disk) c.lines.outcome
    (disk.view.failures old.committer.disk) old.committer.disk (λ next. SessionMatches next old)
    still
    (c.lines.invariant.1 k matches ready)
