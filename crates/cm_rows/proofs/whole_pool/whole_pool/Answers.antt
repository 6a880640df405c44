use Rattle.std.proofs.Common.{◌≡◌, ◌<◌, ◌+◌, ℕ, Bool, cond, [], sym, ap, ◌∙◌, subst, arith}
use Rattle.cm_pool.specs.Geometry.{Sizes}
use Rattle.cm_pool.specs.FreeSpace.{FreeSpace, with_root}
use Rattle.cm_pool.specs.Held.{NoneIsLost}
use Rattle.cm_pool.proofs.SpaceLaws.{roots_lose_none}
use Rattle.cm_rows.proofs.whole_pool.whole_pool.Goals as goal

pub loop-root-preserved : goal.loop-root-preserved
loop-root-preserved c =
    let old = c.loop-root.pool in
    let h = c.loop-root.invariant in
    let lt : old.roots < old.geometry.roots = omega (
      arith,
      h.roots,
      ap
          (λ (s : Sizes). s.roots) h.geometry,
      c.loop-root-test.true,
      c.roots-root-end.ensures.value,
    ) in
    let yes = c.in_ok-_added.ensures.added.1 lt in
    let is : c.add_root.new.self ≡ with_root old = c.in_ok-_added.ensures.left ∙ ap
    (λ (t : Bool). cond t (with_root old) old) yes in
    record {
      geometry = ap (λ (p : FreeSpace). p.geometry) is ∙ h.geometry;
      roots = ap (λ (p : FreeSpace). p.roots) is ∙ ap (λ (n : ℕ). n + 1) h.roots;
      none_lost = subst
          (λ (p : FreeSpace). NoneIsLost p []) (sym is) (roots_lose_none old [] h.none_lost);
    }
