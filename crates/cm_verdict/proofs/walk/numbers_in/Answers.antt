use Rattle.std.proofs.Common.{◌≡◌, ◌≤◌, ◌+◌, ◌*◌, ◌-◌, ℕ, Bool, true, false, cond, length, take}
use Rattle.std.proofs.Common.{drop}
use Rattle.std.proofs.Common.{refl, sym, ap, ◌∙◌, arith}
use Rattle.std.specs.Prelude.{◌==◌}
use Rattle.std.proofs.lemmas.List.{get_or-take, take_rest}
use Rattle.cm_verdict.specs.Decoding.{kind_at, numbers_in}
use Rattle.cm_verdict.proofs.Walks.{numbers_next}
use Rattle.cm_verdict.proofs.walk.numbers_in.Goals.{then-not-is_rest, else-not-is_rest}
use Rattle.cm_verdict.proofs.walk.numbers_in.Goals as goal

pub loop-slot-init : goal.loop-slot-init
unfolding numbers_in
loop-slot-init c = record { value = refl; few = omega arith }

pub loop-slot-preserved : goal.loop-slot-preserved
loop-slot-preserved c =
    let slots = c.args.slots.now in
    let slot = c.loop-slot.slot in
    let here = drop (64 * slot) slots in
    let test : c.is_rest.result ≡ (kind_at here == 22) =
    c.is_rest.ensures
    ∙ ap (λ (b : ℕ). b == 22) (ap kind_at c.front_slot.ensures
    ∙ (get_or-take 64 (take (length slots - 64 * slot) here) 1 0 (omega arith)
    ∙ ap kind_at (take_rest slots (64 * slot)))) in
    let next : numbers_in (slot + 1) slots
    ≡ numbers_in slot slots + cond c.is_rest.result 0 1 =
    ap (λ (n : ℕ). numbers_in n slots) (omega arith)
    ∙ (numbers_next slot slots
    ∙ ap (λ (t : Bool). numbers_in slot slots + cond t 0 1) (sym test)) in
    let counts : (t : Bool) → c.is_rest.result ≡ t
    → c.if-not-is_rest.numbers ≡ c.loop-slot.numbers + cond t 0 1
    → (c.if-not-is_rest.numbers ≡ numbers_in (slot + 1) slots)
    × (c.if-not-is_rest.numbers ≤ slot + cond t 0 1) =
    (λ t is sum. (
      sum
          ∙ (ap (λ (n : ℕ). n + cond t 0 1) c.loop-slot.invariant.value
          ∙ (ap (λ (s : Bool). numbers_in slot slots + cond s 0 1) (sym is) ∙ sym next)),
      omega (arith, sum, c.loop-slot.invariant.few),
    )) in
    elim c.if-not-is_rest.branch [
      | then-not-is_rest w ↦
          let k = counts false w.if-not-is_rest.true w.numbers-is in
          record { value = k.0; few = k.1 }
      | else-not-is_rest w ↦
          let k = counts true w.if-not-is_rest.false (w.numbers-is ∙ omega arith) in
          record { value = k.0; few = omega (arith, k.1) }
    ]
