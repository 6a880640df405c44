use Rattle.std.proofs.Common.{◌≡◌, ◌-◌}
use Rattle.cm_verdict.specs.Walk.{walk}
use Rattle.cm_verdict.specs.Walking.{walked, IsSteady, IsSameWalk}
use Rattle.cm_verdict.proofs.walk.HalfWalk.walk_all.Given as goal

-- the slots still to walk through lead to the same result as all of them
abbrev pub invariant-loop-turn : goal.invariant-loop-turn
invariant-loop-turn l =
    let old = l.fn.self in
    record {
      kept : IsSameWalk old l.self;
      steady : IsSteady l.self;
      same : walk old.geometry old.first l.half (old.geometry.slots - l._turn) (walked l.self)
          ≡ walk old.geometry old.first l.half (old.geometry.slots - 1) (walked old);
    }
