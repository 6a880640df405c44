use Rattle.std.proofs.Common.{◌≡◌, length, subst, arith, List}
use Rattle.std.specs.List.{AllByRecursion}
use Rattle.std.proofs.lemmas.List.{take_all}
use Rattle.cm_index.specs.declared.index.IndexEntry.{IndexEntry}
use Rattle.cm_index.proofs.Joined.{joined-empty}
use Rattle.cm_index.proofs.blocks.clear_each.Goals as goal

pub returns-clause-items : goal.returns-clause-items
returns-clause-items c =
    let h = c.loop-at.invariant in
    let bs = c.loop-at.blocks.items in
    joined-empty bs (subst (AllByRecursion (λ (b : List IndexEntry). length b ≡ 0))
    (take_all c.loop-at.at bs
    (omega (
      arith,
      h.count,
      c.len-at-end.ensures,
      c.args.blocks.now.ok.0,
      c.loop-at-test.false,
    ))) h.cleared)
