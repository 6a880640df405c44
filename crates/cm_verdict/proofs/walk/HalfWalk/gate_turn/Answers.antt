use Rattle.std.proofs.Common.{◌≡◌, ℕ, List, Bool, cond, true, false, drop, Some, get_or}
use Rattle.std.proofs.Common.{refl, sym, ap, ◌∙◌}
use Rattle.std.proofs.lemmas.Bool.{eq-eqb}
use Rattle.std.proofs.lemmas.List.{take_rest}
use Rattle.cm_pool.specs.Geometry.{Sizes}
use Rattle.cm_layout.specs.declared.heads.GroupHead.{GroupHead}
use Rattle.cm_verdict.specs.declared.fault.Damage.TheVariants as damage
use Rattle.cm_verdict.specs.Decoding.{front, is_open, group_head_in}
use Rattle.cm_verdict.specs.Walk.{Walked, Go, Bad, begun, is_good_group, gate_turn}
use Rattle.cm_verdict.specs.Walking.{walked}
use Rattle.cm_verdict.proofs.walk.HalfWalk.gate_turn.Goals as goal

-- an open gate with a head says what its test says
of_head : (sizes : Sizes) (w : Walked) (slots : List ℕ) (h : GroupHead) (t : Bool)
    → is_open slots ≡ true → group_head_in (front slots) ≡ Some h
    → is_good_group sizes w h (drop 64 slots) ≡ t
    → gate_turn sizes w slots ≡ cond t (Go (begun w h)) (Bad damage.Head)
of_head sizes w slots h t gate there good = rw gate (rw there (rw good refl))

pub returns-then-not-is_good_group-clause-turned : goal.returns-then-not-is_good_group-clause-turned
returns-then-not-is_good_group-clause-turned c =
    let slots = c.args.slots.now in
    let w = walked c.args.self.now in
    let h = c.in-Some.head in
    of_head c.args.self.now.geometry w slots h false
    (eq-eqb (get_or slots 0 0) 165 c.if-slots.false)
    (ap group_head_in (sym c.front_slot.ensures) ∙ (sym c.group_head_in.ensures ∙ c.in-Some.is))
    (ap (is_good_group c.args.self.now.geometry w h) (sym (take_rest slots 64))
    ∙ (sym c.is_good_group.ensures ∙ c.if-not-is_good_group.true))

pub returns-clause-turned : goal.returns-clause-turned
returns-clause-turned c =
    let slots = c.args.slots.now in
    let w = walked c.args.self.now in
    let h = c.in-Some.head in
    of_head c.args.self.now.geometry w slots h true
    (eq-eqb (get_or slots 0 0) 165 c.if-slots.false)
    (ap group_head_in (sym c.front_slot.ensures) ∙ (sym c.group_head_in.ensures ∙ c.in-Some.is))
    (ap (is_good_group c.args.self.now.geometry w h) (sym (take_rest slots 64))
    ∙ (sym c.is_good_group.ensures ∙ c.if-not-is_good_group.false))
    ∙ ap (λ (n : ℕ). Go (begun w (record { count = n; first = h.first }))) (sym c.from-self.ensures)
