-- What was read of a row's record.
-- For `take_record`.
use Rattle.std.proofs.Common.{◌≡◌, ℕ, true, false, List, Option, Some, None, Ok, Err, refl, ◌∙◌}
use Rattle.std.proofs.Common.{sym, ap, is_some}
use Rattle.std.specs.Prelude.{Result, IfOk}
use Rattle.cm_class.specs.declared.class_file.ClassFile.{ClassFile}
use Rattle.cm_verdict.specs.Kept.{IsKeptRecord}
use Rattle.cm_verdict.specs.Verdict.{class_kept}
use Rattle.cm_view_index.specs.declared.row.ViewRow.{ViewRow}
use Rattle.cm_view.specs.Taking.{IsThere, HasClass, IsTaken, IsTakenFrom, row_words}

module _ (bytes : List ℕ) (row : ViewRow) (there : IsThere bytes row) (words : List ℕ)
    (same : words ≡ row_words bytes row) where
  kept_of : (o : Option (List ℕ)) → IsKeptRecord words o → IsTaken bytes row o
  kept_of None none =
      λ (c : ClassFile) (has : HasClass bytes row c).
      let kept : is_some (class_kept words) ≡ true = ap is_some (ap class_kept same ∙ has.kept) in
      absurd (cc)
  kept_of (Some made) kept = by_class (class_kept words) refl
    where
      by_class : (k : Option ClassFile) → class_kept words ≡ k → IsTakenFrom bytes row made
      by_class None e =
          let some : is_some (class_kept words) ≡ true = kept.1 in
          let none : is_some (class_kept words) ≡ false = ap is_some e in
          absurd (cc)
      by_class (Some c) e = record {
        class = c;
        has = record { there = there; kept = ap class_kept (sym same) ∙ e };
        words_are = kept.0 ∙ same;
      }

  pub taken_of : {E : Type 0} (r : Result (Option (List ℕ)) E) → IfOk r (IsKeptRecord words)
      → IfOk r (IsTaken bytes row)
  taken_of (Ok o) kept = kept_of o kept
  taken_of (Err e) kept = tt
