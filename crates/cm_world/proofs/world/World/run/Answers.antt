use Rattle.std.proofs.Common.{List, ◌∷◌, ◌++◌, [], sym, subst, ◌∙◌, arith}
use Rattle.std.proofs.lemmas.Iterator.Adapters.{YieldsList-from_vec}
use Rattle.std.proofs.lemmas.Iterator.Consumers.{YieldsList-turn, YieldsList-end}
use Rattle.cm_world.specs.Runs.{HasRun}
use Rattle.cm_world.specs.declared.event.Event.{Event}
use Rattle.cm_world.specs.declared.reply.Reply.{Reply}
use Rattle.cm_world.proofs.Chains.{as_many, begun_run, run_more, map_same}
use Rattle.cm_world.proofs.world.World.run.Goals as goal

pub loop-event-init : goal.loop-event-init
loop-event-init c = (
  subst (λ (l : List Reply). HasRun c.args.geometry [] l c.in_ok-world.world)
      (sym c.in_ok-replies.ensures.items)
      (begun_run c.args.geometry c.in_ok-world.world c.in_ok-world.ensures.begun),
  let long = c.len.ensures in
      let all = c.args.events.ok.0 in
      let room = c.in_ok-replies.ensures.capacity in
      omega (arith, long, all, room),
)

pub returns-in-Err-clause-fault : goal.returns-in-Err-clause-fault
returns-in-Err-clause-fault c =
    let run = c.loop-event.invariant.0 in
    c.in-Err.ensures.fault run.last.machine run.at.matches

pub push_reserved-requires : goal.push_reserved-requires
push_reserved-requires c =
    let b = c.into_iter-event-iterator.ensures.into_iter_gives in
    let t = YieldsList-turn
    (YieldsList-from_vec {s = c.into_iter-event-iterator.result} c.args.events.items b.0
    (b.1 ∙ c.args.events.ok.0)) c.loop-event.yielded c.loop-event.event-iterator
    c.loop-event.yielded_by c.next.result c.next.new.self c.in-Some.event c.in-Some.is
    c.next.ensures.steps in
    let many = as_many c.args.geometry c.loop-event.yielded c.loop-event.replies.items
    c.loop-event.world c.loop-event.invariant.0 in
    let room = c.loop-event.invariant.1 in
    let long = c.loop-event.replies.ok.0 in
    let left = t.0 in
    omega (arith, many, room, long, left)

pub loop-event-preserved : goal.loop-event-preserved
loop-event-preserved c =
    let run = c.loop-event.invariant.0 in (
      subst (λ (l : List Reply). HasRun c.args.geometry
          (c.loop-event.yielded ++ c.in-Some.event ∷ []) l c.in-Ok.stepped.0)
          (sym c.push_reserved.ensures.items)
          (run_more c.args.geometry c.loop-event.yielded c.loop-event.replies.items
          c.loop-event.world c.in-Ok.stepped.0 c.in-Some.event c.in-Ok.stepped.1 run
          (c.in-Ok.ensures.moved run.last.machine run.at.matches)),
      let room = c.loop-event.invariant.1 in
          let same = c.push_reserved.ensures.capacity in
          omega (arith, room, same),
    )

pub returns-clause-ran : goal.returns-clause-ran
returns-clause-ran c =
    let b = c.into_iter-event-iterator.ensures.into_iter_gives in
    let end = YieldsList-end
    (YieldsList-from_vec {s = c.into_iter-event-iterator.result} c.args.events.items b.0
    (b.1 ∙ c.args.events.ok.0)) c.loop-event.yielded c.loop-event.event-iterator
    c.loop-event.yielded_by c.next.result c.next.new.self c.in-None.is
    c.next.ensures.steps in
    subst (λ (l : List Event). HasRun c.args.geometry l c.loop-event.replies.items
    c.loop-event.world) (sym (map_same c.loop-event.yielded) ∙ end.0) c.loop-event.invariant.0
