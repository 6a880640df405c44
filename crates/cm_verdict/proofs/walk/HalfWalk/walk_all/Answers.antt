use Rattle.std.proofs.Common.{◌≡◌, ℕ, ◌+◌, ◌*◌, ◌-◌, List, length, take, drop, Ok, Err, sym, ap}
use Rattle.std.proofs.Common.{subst, ◌∙◌, arith}
use Rattle.std.specs.Prelude.{Result}
use Rattle.std.proofs.lemmas.List.{take_rest}
use Rattle.cm_pool.specs.Geometry.{Sizes}
use Rattle.cm_verdict.specs.declared.fault.Damage.{Damage}
use Rattle.cm_verdict.specs.declared.fault.FileFault.{FileFault}
use Rattle.cm_verdict.specs.declared.fault.FileFault.TheVariants.{Damaged}
use Rattle.cm_verdict.specs.declared.walk.WalkStep.{WalkStep}
use Rattle.cm_verdict.specs.Walk.{Walked, Turn, Stop, Go, Bad, turn, from_slot, walk}
use Rattle.cm_verdict.specs.Walking.{walked, IsTurn}
use Rattle.cm_verdict.proofs.Goings.{walk_on, walk_ends, walk_fails, walk_is_through, walk_is_over}
use Rattle.cm_verdict.proofs.walk.HalfWalk.walk_all.Goals as goal

-- the same turn, by what stays
same_turn : (g h : Sizes) (a b : ℕ) (w : Walked) (x y : List ℕ) (t : Turn) → g ≡ h → a ≡ b
    → x ≡ y → turn g a w x ≡ t → turn h b w y ≡ t
same_turn g h a b w x y t p q r e = sym (λ i. turn (p i) (q i) w (r i)) ∙ e

abbrev done : Walked → Result Walked FileFault
done w = Ok w

abbrev failed : Damage → ℕ → Result Walked FileFault
failed what slot = Err (Damaged what slot)

abbrev said : WalkStep → Result WalkStep Damage
said s = Ok s

-- what is passed to a turn
abbrev passed : List ℕ → ℕ → List ℕ
passed half slot = take (length half - 64 * slot) (drop (64 * slot) half)

pub returns-in-Ok-End : goal.returns-in-Ok-End
returns-in-Ok-End c =
    let inv = c.loop-turn.invariant in
    let old = c.args.self in
    let now = c.loop-turn.self in
    let half = c.args.half.now in
    let t = c.in-Ok-End.ensures {u = tt} in
    let ends = subst (λ (s : WalkStep). IsTurn (said s) (walked now) (walked c.turn.new.self)
    (turn now.geometry now.first (walked now) (passed half now.slot))) c.in-Ok-End.field-0-is
    t.turned in
    let stops : turn old.geometry old.first (walked now) (from_slot half now.slot) ≡ Stop =
    same_turn now.geometry old.geometry now.first old.first (walked now) (passed half now.slot)
    (from_slot half now.slot) Stop inv.kept.geometry inv.kept.first
    (take_rest half (64 * now.slot)) ends.0 in
    walk_ends old.geometry old.first half old.geometry.slots c.loop-turn._turn (walked now)
    (walk old.geometry old.first half (old.geometry.slots - 1) (walked old))
    (omega (arith, c.slots-turn-end.ensures.value, c.loop-turn-test.true))
    (omega (
      arith,
      c.slots.ensures.value,
      ap (λ (g : Sizes). g.slots) inv.kept.geometry,
      c.if-at-slots.false,
    )) inv.same stops
    ∙ ap done (sym ends.1)

pub returns-in-Err : goal.returns-in-Err
returns-in-Err c =
    let inv = c.loop-turn.invariant in
    let old = c.args.self in
    let now = c.loop-turn.self in
    let half = c.args.half.now in
    let t = c.in-Err.ensures {u = tt} in
    let fails : turn old.geometry old.first (walked now) (from_slot half now.slot)
    ≡ Bad c.in-Err.what =
    same_turn now.geometry old.geometry now.first old.first (walked now) (passed half now.slot)
    (from_slot half now.slot) (Bad c.in-Err.what) inv.kept.geometry inv.kept.first
    (take_rest half (64 * now.slot)) t.turned in
    walk_fails old.geometry old.first half old.geometry.slots c.loop-turn._turn (walked now)
    (walk old.geometry old.first half (old.geometry.slots - 1) (walked old))
    (omega (arith, c.slots-turn-end.ensures.value, c.loop-turn-test.true))
    (omega (
      arith,
      c.slots.ensures.value,
      ap (λ (g : Sizes). g.slots) inv.kept.geometry,
      c.if-at-slots.false,
    )) inv.same c.in-Err.what fails
    ∙ ap (λ (n : ℕ). failed c.in-Err.what (n + now.slot)) (sym (t.kept.first ∙ inv.kept.first))

pub returns-then-at-slots : goal.returns-then-at-slots
returns-then-at-slots c =
    let inv = c.loop-turn.invariant in
    let old = c.args.self in
    let now = c.loop-turn.self in
    walk_is_through old.geometry old.first c.args.half.now old.geometry.slots c.loop-turn._turn
    (walked now)
    (walk old.geometry old.first c.args.half.now (old.geometry.slots - 1) (walked old))
    (omega (arith, c.slots-turn-end.ensures.value, c.loop-turn-test.true))
    (omega (
      arith,
      c.slots.ensures.value,
      ap (λ (g : Sizes). g.slots) inv.kept.geometry,
      c.if-at-slots.true,
    )) inv.same

pub loop-turn-preserved : goal.loop-turn-preserved
loop-turn-preserved c =
    let inv = c.loop-turn.invariant in
    let old = c.args.self in
    let now = c.loop-turn.self in
    let half = c.args.half.now in
    let t = c.in-Ok-On.ensures {u = tt} in
    let next = walked c.turn.new.self in
    let goes = subst (λ (s : WalkStep). IsTurn (said s) (walked now) (walked c.turn.new.self)
    (turn now.geometry now.first (walked now) (passed half now.slot))) c.in-Ok-On.field-0-is
    t.turned in
    let goes_on : turn old.geometry old.first (walked now) (from_slot half now.slot)
    ≡ Go (walked c.turn.new.self) =
    same_turn now.geometry old.geometry now.first old.first (walked now) (passed half now.slot)
    (from_slot half now.slot) (Go (walked c.turn.new.self)) inv.kept.geometry inv.kept.first
    (take_rest half (64 * now.slot)) goes in
    record {
      kept = record {
        geometry = t.kept.geometry ∙ inv.kept.geometry;
        version = t.kept.version ∙ inv.kept.version;
        first = t.kept.first ∙ inv.kept.first;
      };
      steady = t.steady;
      same = walk_on old.geometry old.first half old.geometry.slots c.loop-turn._turn (walked now)
          (walk old.geometry old.first half (old.geometry.slots - 1) (walked old))
          (omega (arith, c.slots-turn-end.ensures.value, c.loop-turn-test.true))
          (omega (
            arith,
            c.slots.ensures.value,
            ap (λ (g : Sizes). g.slots) inv.kept.geometry,
            c.if-at-slots.false,
          )) inv.same (walked c.turn.new.self) goes_on;
    }

pub returns : goal.returns
returns c =
    let inv = c.loop-turn.invariant in
    let old = c.args.self in
    let now = c.loop-turn.self in
    walk_is_over old.geometry old.first c.args.half.now old.geometry.slots c.loop-turn._turn
    (walked now)
    (walk old.geometry old.first c.args.half.now (old.geometry.slots - 1) (walked old))
    (omega (arith, c.slots-turn-end.ensures.value, c.loop-turn-test.false)) inv.same
