use Rattle.cm_pool.proofs.Pools.{empty-pool, empty-space}
use Rattle.cm_pool.proofs.pool.Pool.new.Goals as goal

pub invariant_of-result : goal.invariant_of-result
invariant_of-result c = empty-pool c.args.geometry c.in_ok-rows.rows.items c.in_ok-rows.ensures

pub returns : goal.returns
returns c = empty-space c.args.geometry c.in_ok-rows.rows.items c.in_ok-rows.ensures
