use Rattle.std.proofs.Common.{◌≡◌, ◌≤◌, ◌+◌, ◌*◌, ◌-◌, ◌&&◌, length, take, drop, ap, ap₂, ◌∙◌}
use Rattle.std.proofs.Common.{arith}
use Rattle.std.specs.List.{list_all}
use Rattle.cm_descriptors.specs.Marks.{not_both_slashes, neighbours}
use Rattle.cm_descriptors.proofs.JoinedNames.{last_apart, more_apart, all_apart}
use Rattle.cm_descriptors.proofs.joined.many_are_apart.Goals as goal

pub loop-place-init : goal.loop-place-init
loop-place-init c = last_apart c.args.bytes.now _ c.requires c.seventeen_are_apart-apart.ensures

pub loop-place-preserved : goal.loop-place-preserved
loop-place-preserved c =
    let ps = neighbours c.args.bytes.now in
    let last = list_all not_both_slashes (drop (length c.args.bytes.now - 17) ps) in
    let at = 16 * c.loop-place.place in
    let more : at + 16 ≡ 16 * (c.loop-place.place + 1) = omega arith in
    ap₂ (λ a b. a && b) c.loop-place.invariant c.seventeen_are_apart-apart-in-loop-place.ensures ∙
    more_apart last ps at ∙ ap (λ k. last && list_all not_both_slashes (take k ps)) more

pub returns : goal.returns
returns c =
    let reached : length c.args.bytes.now - 17 ≤ 16 * c.loop-place.place =
    omega (arith, c.loop-place-test.false, c.requires) in
    all_apart c.args.bytes.now _ (16 * c.loop-place.place) (length c.args.bytes.now - 17) reached
    c.loop-place.invariant
