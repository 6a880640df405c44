use Rattle.std.proofs.Common.{◌≡◌, ◌∙◌, ◌+◌, ◌*◌, ℕ, false, get_or, sym, subst, inl, inr, arith}
use Rattle.std.proofs.Math.Nat.{eq-or-lt_of_le}
use Rattle.cm_record_layout.specs.Packing.{second_of, third_of}
use Rattle.cm_record.specs.Members.{leads_to}
use Rattle.cm_record.proofs.member.find_member.Goals as goal

pub loop-index-preserved : goal.loop-index-preserved
loop-index-preserved c = λ d is k lt.
    let w = c.args.words.now in
    let Missed =
    λ (n : ℕ). leads_to d c.args.name.now c.args.descriptor.now
    (second_of (get_or w (c.args.at + 2 * n) 0)) (third_of (get_or w (c.args.at + 2 * n) 0))
    ≡ false in
    elim (eq-or-lt_of_le {n = k} {m = c.loop-index.index} (omega arith)) [
      | inl same ↦ subst Missed (sym same) (sym (c.in-Some.ensures d is) ∙ c.if-is_found.false)
      | inr less ↦ c.loop-index.invariant d is k less
    ]
