use Rattle.std.proofs.Common.{◌-◌, arith}
use Rattle.cm_guards.specs.Stages.{calls_left}
use Rattle.cm_cache.proofs.Stored.{taken_is_underway, underway_itself, all_stored_from}
use Rattle.cm_cache.proofs.Stored.{all_left_from, moments_since_offer}
use Rattle.cm_cache.proofs.storing.store_group.Goals as goal

pub make_calls-requires : goal.make_calls-requires
make_calls-requires g c = (
  c.args.group,
  underway_itself c.args.committer.now _ _
      (taken_is_underway g.D.Disk.view _ _ _ (calls_left c.offer.new.self.left - 1) c.requires
      c.in-Ok.ensures.taken
      (let steps = c.in-Ok.ensures.steps in omega (arith, steps))),
)

pub returns-clause-stored : goal.returns-clause-stored
returns-clause-stored g c =
    all_stored_from _ _ _ _ c.make_calls.result
    (taken_is_underway g.D.Disk.view _ _ _ (calls_left c.offer.new.self.left - 1) c.requires
    c.in-Ok.ensures.taken
    (let steps = c.in-Ok.ensures.steps in omega (arith, steps)))
    c.make_calls.ensures.stored

pub returns-clause-left : goal.returns-clause-left
returns-clause-left g c =
    all_left_from _ _ _ _ c.make_calls.result
    (taken_is_underway g.D.Disk.view _ _ _ (calls_left c.offer.new.self.left - 1) c.requires
    c.in-Ok.ensures.taken
    (let steps = c.in-Ok.ensures.steps in omega (arith, steps)))
    c.make_calls.ensures.left

pub returns-clause-any_moment : goal.returns-clause-any_moment
returns-clause-any_moment g c =
    moments_since_offer g.D.Disk.view c.args.committer.now c.offer.new.self
    c.make_calls.new.committer c.args.group
    c.in-Ok.ensures.taken
    (c.make_calls.ensures.any_moment c.args.group
    (underway_itself c.args.committer.now _ _
    (taken_is_underway g.D.Disk.view _ _ _ (calls_left c.offer.new.self.left - 1) c.requires
    c.in-Ok.ensures.taken
    (let steps = c.in-Ok.ensures.steps in omega (arith, steps)))))
