use Rattle.std.proofs.Common.{◌-◌, ◌*◌, ◌^◌, ◌<◌, refl, arith}
use Rattle.std.proofs.Math.Nat.{mod-eq_of_lt}
use Rattle.cm_pool.proofs.Places.{root-fits, chunk-place}
use Rattle.cm_pool.proofs.block.Block.of_chunk.Goals as goal

pub returns : goal.returns
returns c =
    let chunk = c.args.chunk.now in
    let fits : chunk.root * 2 ^ (c.args.top - chunk.order) < 2 ^ 32 =
    omega (
      arith,
      root-fits chunk.root c.args.top chunk.order c.requires.within.in_a_root
          c.requires.top,
    ) in
    rw (mod-eq_of_lt fits, c.size.ensures)
    (record {
      order = refl;
      place = chunk-place c.args.top chunk c.requires.within.within_top
          c.requires.within.aligned;
    })
