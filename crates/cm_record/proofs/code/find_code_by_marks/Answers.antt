use Rattle.std.proofs.Common.{◌≡◌, ◌∙◌, ◌+◌, ◌*◌, ℕ, false, get_or, sym, ap, subst, inl, inr, arith}
use Rattle.std.proofs.Math.Nat.{eq-or-lt_of_le}
use Rattle.cm_class.specs.Names.{names_utf8}
use Rattle.cm_record_layout.specs.Packing.{first_of}
use Rattle.cm_record.specs.Code.{code_name}
use Rattle.cm_record.proofs.code.find_code_by_marks.Goals as goal

pub loop-index-preserved : goal.loop-index-preserved
loop-index-preserved c = λ d is k lt.
    let w = c.args.words.now in
    let name = first_of (get_or w (c.args.at + 2 * c.loop-index.index) 0) in
    let Missed =
    λ (n : ℕ). names_utf8 d (first_of (get_or w (c.args.at + 2 * n) 0)) code_name ≡ false in
    elim (eq-or-lt_of_le {n = k} {m = c.loop-index.index} (omega arith)) [
      | inl same ↦ subst Missed (sym same) (sym (c.of-names.ensures d is name (omega arith))
          ∙ (ap (λ n. get_or c.of-names.result.leads n false) (sym c.first.ensures)
          ∙ (sym c.has.ensures ∙ c.if-has.false)))
      | inr less ↦ c.loop-index.invariant d is k less
    ]
