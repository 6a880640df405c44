use Rattle.std.proofs.Common.{arith}
use Rattle.cm_view_index.proofs.Twins.{twin_found, none_on, all_differ}
use Rattle.cm_view_index.proofs.index.first_twin.Goals as goal

pub returns-then-are_alike-clause-some : goal.returns-then-are_alike-clause-some
returns-then-are_alike-clause-some c =
    twin_found c.args.bytes.now c.args.rows.now c.loop-at.at (omega arith) (omega arith) _
    (c.are_alike.ensures.0 c.if-are_alike.true)

pub loop-at-preserved : goal.loop-at-preserved
loop-at-preserved c =
    none_on c.args.bytes.now c.args.rows.now c.loop-at.at (omega arith) (omega arith) _
    (λ alike. let is = c.are_alike.ensures.1 alike in let not = c.if-are_alike.false in absurd (cc))
    c.loop-at.invariant

pub returns-clause-none : goal.returns-clause-none
returns-clause-none c index =
    all_differ c.args.bytes.now c.args.rows.now index
    (λ k d lt. c.loop-at.invariant k d (omega arith))
