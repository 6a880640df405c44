-- One more row in both sets of rows, whatever is kept of a class.
-- For `SharedRows::push_class`, `SharedRows::push_loader`.
use Rattle.std.proofs.Common.{◌≡◌, ℕ, cond, [], ◌∷◌, ◌++◌, Option, None, is_none, sym, ap, ◌∙◌}
use Rattle.std.proofs.lemmas.List.{map-append}
use Rattle.cm_layout.specs.declared.entry_rule.EntryRule.{EntryRule}
use Rattle.cm_layout.specs.declared.row.Row.{Row}
use Rattle.cm_layout.specs.Rows.{rows_with, row_with}
use Rattle.cm_layout.specs.Rules.{broken_live_rule}
use Rattle.cm_rows.specs.Rows.{LiveRows}
use Rattle.cm_verdict.proofs.Passing.{live_rule-with}

abbrev pushed : {A : Type 0} → LiveRows A → Row A → LiveRows A
pushed book row = record book { rows = book.rows ++ row ∷ [] }

-- a row that keeps the rules is taken
pub is_pushed : {A : Type 0} (book new : LiveRows A) (base : ℕ) (row : Row A)
    (rule : Option EntryRule) → broken_live_rule book.sizes base book.rows row ≡ None
    → rule ≡ broken_live_rule book.sizes base book.rows row
    → new ≡ cond (is_none rule) (pushed book row) book → new ≡ pushed book row
is_pushed book new base row rule keeps told left =
    left ∙ ap (λ (r : Option EntryRule). cond (is_none r) (pushed book row) book) (told ∙ keeps)

module _ {A B : Type 0} (f : A → B) (base : ℕ) (one : LiveRows B) (two : LiveRows A)
    (sizes_same : two.sizes ≡ one.sizes) (rows_same : rows_with f two.rows ≡ one.rows)
    (words : Row B) (row : Row A) (row_is : row_with f row ≡ words)
    (keeps : broken_live_rule one.sizes base one.rows words ≡ None) where
  too : broken_live_rule two.sizes base two.rows row ≡ None
  too =
      sym (live_rule-with two.sizes base f two.rows row)
      ∙ ((λ i. broken_live_rule (sizes_same i) base (rows_same i) (row_is i)) ∙ keeps)

  pub both : (new : LiveRows B) (then : LiveRows A) (rule : Option EntryRule)
      → new ≡ pushed one words → rule ≡ broken_live_rule two.sizes base two.rows row
      → then ≡ cond (is_none rule) (pushed two row) two
      → (then.sizes ≡ new.sizes) × (rows_with f then.rows ≡ new.rows)
  both new then rule new_is told left =
      let then_is = is_pushed two then base row rule too told left in (
        ap (λ (l : LiveRows A). l.sizes) then_is
            ∙ (sizes_same ∙ sym (ap (λ (l : LiveRows B). l.sizes) new_is)),
        ap (λ (l : LiveRows A). rows_with f l.rows) then_is
            ∙ (map-append (row_with f) two.rows (row ∷ [])
            ∙ ((λ i. rows_same i ++ row_is i ∷ [])
            ∙ sym (ap (λ (l : LiveRows B). l.rows) new_is))),
      )
