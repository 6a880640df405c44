use Rattle.std.proofs.Common.{◌∷◌, [], length, refl, ap, arith}
use Rattle.cm_group.specs.Groups.{Handed, slots_taken}
use Rattle.cm_group.proofs.Joining.{taken-append, with_entry}
use Rattle.cm_group.proofs.group.Group.push.Goals as goal

pub returns-then-self-slots-gt-GROUP_SLOTS-clause-room :
    goal.returns-then-self-slots-gt-GROUP_SLOTS-clause-room
returns-then-self-slots-gt-GROUP_SLOTS-clause-room c =
    let old = ap (λ (g : Handed). slots_taken g.entries) c.self.view_is in
    let taken = taken-append c.args.self.now.entries (c.args.entry ∷ []) in (
      λ no. absurd (cc),
      λ few. absurd (omega (
        arith,
        few,
        taken,
        old,
        c.self.invariant.slots_are,
        c.slots.ensures.value,
        c.if-self-slots-gt-GROUP_SLOTS.true,
      )),
    )

pub invariant_of-self : goal.invariant_of-self
invariant_of-self c =
    let first = ap (λ (g : Handed). g.first) c.self.view_is in
    let count = ap (λ (g : Handed). length g.entries) c.self.view_is in
    with_entry _ _ _ _ _ _ _ c.self.invariant c.slots-2.ensures.value c.slots-2.ensures.right
    (omega (
      arith,
      c.slots.ensures.value,
      c.slots-2.ensures.value,
      c.if-self-slots-gt-GROUP_SLOTS.false,
    )) (omega (arith, c.requires.number, first, count))
    c.push.ensures.capacity (rw c.unwrap.ensures at c.push.ensures.items)

pub returns-clause-room : goal.returns-clause-room
returns-clause-room c =
    let old = ap (λ (g : Handed). slots_taken g.entries) c.self.view_is in
    let taken = taken-append c.args.self.now.entries (c.args.entry ∷ []) in (
      λ yes. omega (
        arith,
        taken,
        old,
        c.self.invariant.slots_are,
        c.slots.ensures.value,
        c.if-self-slots-gt-GROUP_SLOTS.false,
      ),
      λ few. refl,
    )
