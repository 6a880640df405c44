use Rattle.std.proofs.Common.{◌^◌, ◌≤◌, ap, arith}
use Rattle.std.proofs.Math.Nat.{pow-le-pow_right}
use Rattle.cm_pool.specs.Geometry.{Sizes}
use Rattle.cm_arena.proofs.arena.Arena.is_full.Goals as goal

pub order_for-requires : goal.order_for-requires
order_for-requires c =
    let small : c.geometry-geometry.result.top ≤ 12 =
    omega (
      arith,
      c.geometry-geometry.ensures.lawful.geometry.top_to,
      ap (λ (g : Sizes). g.top)
          c.geometry-geometry.ensures.value,
    ) in
    let size : 2 ^ c.geometry-geometry.result.top ≤ 2 ^ 12 =
    pow-le-pow_right {n = 2} (omega arith) small in
    omega (arith, c.root_words.ensures)
