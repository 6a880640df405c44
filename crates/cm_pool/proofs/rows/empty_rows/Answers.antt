use Rattle.std.proofs.Common.{◌≡◌, ℕ, ◌+◌, ◌-◌, ◌*◌, ◌%◌, ◌^◌, ◌<◌, ◌≤◌, List, [], ◌∷◌, ◌++◌}
use Rattle.std.proofs.Common.{replicate, sym, ap, ◌∙◌, subst, arith}
use Rattle.std.specs.Int.{div_ceil}
use Rattle.std.proofs.lemmas.Nat.{mul-le}
use Rattle.std.proofs.Math.Nat.{pow-le-pow_right, mod-eq_of_lt}
use Rattle.cm_pool.specs.Geometry.{Sizes, IsGeometry}
use Rattle.cm_pool.proofs.Emptiness.{AreZeros, one-more, all-empty}
use Rattle.cm_pool.proofs.rows.empty_rows.Goals as goal
use Rattle.cm_pool.proofs.rows.empty_rows.Goals.{After-div_ceil}

-- a root has up to 4,096 blocks of an order, and there are up to 256 roots
blocks : (sizes : Sizes) (order : ℕ) → IsGeometry sizes
    → sizes.roots * 2 ^ (sizes.top - order) ≤ 256 * 4096
blocks sizes order h =
    let below : sizes.top - order ≤ 12 = omega (arith, h.top_to) in
    let most : 2 ^ (sizes.top - order) ≤ 2 ^ 12 = pow-le-pow_right {n = 2} (omega arith) below in
    mul-le sizes.roots (2 ^ (sizes.top - order)) 256 4096 h.roots_to most

asked : (c : After-div_ceil)
    → c.div_ceil.result ≡ div_ceil
    (c.args.geometry.roots * 2 ^ (c.args.geometry.top - c.loop-order.order)) 64
asked c =
    let few : c.args.geometry.roots * 2 ^ (c.args.geometry.top - c.loop-order.order) < 2 ^ 64 =
    omega (arith, blocks c.args.geometry c.loop-order.order c.roots.ensures.within) in
    c.div_ceil.ensures
    ∙ (λ i. div_ceil (c.roots.ensures.value i * 2 ^ (c.top-top.ensures.value i - c.loop-order.order)
    % 2 ^ 64) 64)
    ∙ ap (λ n. div_ceil n 64) (mod-eq_of_lt few)

pub new-requires : goal.new-requires
new-requires c =
    omega (
      arith,
      asked (goal.at.new-requires c).After-div_ceil,
      blocks c.args.geometry c.loop-order.order c.roots.ensures.within,
    )

pub loop-order-preserved : goal.loop-order-preserved
loop-order-preserved c =
    let words = c.div_ceil.result in
    let enough : c.args.geometry.roots * 2 ^ (c.args.geometry.top - c.loop-order.order)
    ≤ 64 * words = omega (arith, asked (goal.at.loop-order-preserved c).After-div_ceil) in
    let new : c.push.new.self.items ≡ c.loop-order.rows.items ++ replicate words 0 ∷ [] =
    c.in_ok-push.ensures.items ∙ ap
    (λ (r : List ℕ). c.loop-order.rows.items ++ r ∷ []) c.in_ok-new.ensures
    in
    subst (AreZeros c.args.geometry (c.loop-order.order + 1)) (sym new)
    (one-more c.args.geometry c.loop-order.order words c.loop-order.rows.items
    c.loop-order.invariant enough)

pub returns : goal.returns
returns c =
    let orders : c.loop-order.order ≡ c.args.geometry.top + 1 =
    omega (arith, c.top-top.ensures.value) in
    all-empty c.args.geometry c.loop-order.rows.items c.top-top.ensures.within (subst
    (λ n. AreZeros c.args.geometry n c.loop-order.rows.items) orders c.loop-order.invariant)
