use Rattle.std.proofs.Common.{sym}
use Rattle.cm_constraints.specs.Constants.{in_slot}
use Rattle.cm_rules.specs.Fault.{pool_rule}
use Rattle.cm_rules.proofs.Searches.{nothing_fails, slot_passes}
use Rattle.cm_rules.proofs.search.pool_place.Goals as goal

pub returns-else-speaks_of_pool-clause-place : goal.returns-else-speaks_of_pool-clause-place
returns-else-speaks_of_pool-clause-place c =
    let class = c.args.findings.now.class.now in
    let test = pool_rule c.args.rule class in
    sym (nothing_fails (λ i slot. in_slot test slot) 0 class.slots
    (λ i slot. slot_passes test slot
    (λ k. c.speaks_of_pool.ensures c.if-speaks_of_pool.false class k)))
