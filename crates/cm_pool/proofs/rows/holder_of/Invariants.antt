use Rattle.std.proofs.Common.{◌≡◌, ◌<◌, false}
use Rattle.cm_pool.specs.declared.block.Block.{Block}
use Rattle.cm_pool.specs.Blocks.{Inside}
use Rattle.cm_pool.specs.Rows.{is_marked}
use Rattle.cm_pool.proofs.rows.holder_of.Given as goal

abbrev pub invariant-loop-order : goal.invariant-loop-order
invariant-loop-order l = (b : Block) → Inside l.part b → b.order < l.order
    → is_marked l.rows b ≡ false
