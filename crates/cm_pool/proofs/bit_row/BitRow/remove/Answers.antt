use Rattle.std.proofs.Common.{ℕ, ◌*◌, ◌/◌, ◌<◌, List, length, sym, ap, ◌∙◌, subst}
use Rattle.std.proofs.lemmas.Bool.{eqb-true, eq-eqb, both_ways}
use Rattle.cm_pool.specs.Bits.{word}
use Rattle.cm_pool.proofs.BitFacts.{row-without, row-without_group, row-without_word}
use Rattle.cm_pool.proofs.bit_row.BitRow.remove.Goals as goal
use Rattle.cm_pool.proofs.bit_row.BitRow.remove.Goals.{After-clear_bit}

within : (c : After-clear_bit) → c.args.at < 64 * length c.self.inside.words.items
within c = subst (λ (ws : List ℕ). c.args.at < 64 * length ws) (sym c.self.view_is) c.requires

pub invariant_of-self : goal.invariant_of-self
invariant_of-self c =
    let a = c.self.inside in
    let at = (goal.at.invariant_of-self c).After-clear_bit in
    rw (
      c.clear_bit.ensures.cleared,
      c.clear_bit-then-clear_bit.ensures.cleared,
      c.clear_bit-none_left.ensures.cleared,
    )
    (row-without a.words.items a.groups.items a.heads.items c.args.at c.self.invariant (within at)
    (ap (λ (ws : List ℕ). word ws (c.args.at / 64)) (sym c.clear_bit.ensures.cleared)
    ∙ eqb-true _ 0 (sym c.clear_bit.ensures.none_left ∙ c.if-clear_bit.true))
    (ap (λ (ws : List ℕ). word ws (c.args.at / 64 / 64))
    (sym c.clear_bit-then-clear_bit.ensures.cleared)
    ∙ eqb-true _ 0 (sym c.clear_bit-then-clear_bit.ensures.none_left ∙ c.if-clear_bit-2.true)))

pub invariant_of-self-else-clear_bit-2 : goal.invariant_of-self-else-clear_bit-2
invariant_of-self-else-clear_bit-2 c =
    let a = c.self.inside in
    let at = (goal.at.invariant_of-self-else-clear_bit-2 c).After-clear_bit in
    rw (c.clear_bit.ensures.cleared, c.clear_bit-then-clear_bit.ensures.cleared)
    (row-without_group a.words.items a.groups.items a.heads.items c.args.at c.self.invariant
    (within at)
    (ap (λ (ws : List ℕ). word ws (c.args.at / 64)) (sym c.clear_bit.ensures.cleared)
    ∙ eqb-true _ 0 (sym c.clear_bit.ensures.none_left ∙ c.if-clear_bit.true))
    (λ e. both_ways _ (sym c.clear_bit-then-clear_bit.ensures.none_left ∙ c.if-clear_bit-2.false)
    (eq-eqb _ 0 (ap (λ (ws : List ℕ). word ws (c.args.at / 64 / 64))
    c.clear_bit-then-clear_bit.ensures.cleared ∙ e))))

pub invariant_of-self-else-clear_bit : goal.invariant_of-self-else-clear_bit
invariant_of-self-else-clear_bit c =
    let a = c.self.inside in
    let at = (goal.at.invariant_of-self-else-clear_bit c).After-clear_bit in
    rw c.clear_bit.ensures.cleared
    (row-without_word a.words.items a.groups.items a.heads.items c.args.at c.self.invariant
    (within at)
    (λ e. both_ways _ (sym c.clear_bit.ensures.none_left ∙ c.if-clear_bit.false) (eq-eqb _ 0 (ap
    (λ (ws : List ℕ). word ws (c.args.at / 64)) c.clear_bit.ensures.cleared ∙ e))))
