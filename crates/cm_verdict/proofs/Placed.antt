-- Where a class was defined has no part in the rules, nor in what an entry does to rows.
-- For `found_is_framed`, `found_is_live` and others.
use Rattle.std.proofs.Common.{◌≡◌, ℕ, List, [], ◌∷◌, ◌++◌, refl, sym, ap, ◌∙◌}
use Rattle.cm_pool.specs.Geometry.{Sizes}
use Rattle.cm_layout.specs.declared.row.Row.{Row}
use Rattle.cm_layout.specs.declared.row.Row.TheVariants.{Loader, Class}
use Rattle.cm_layout.specs.declared.entry.Entry.TheVariants as entry
use Rattle.cm_layout.specs.Rows.{bare, rows_after}
use Rattle.cm_layout.specs.Rules.{broken_rule, broken_live_rule}
use Rattle.cm_layout.specs.Frames.{BareRow, BareEntry, bare_row, bare_entry}
use Rattle.cm_layout.proofs.{number-bare, name-bare, numbers-bare, classes-bare, slots-bare}
use Rattle.cm_layout.proofs.{more-bare, after-bare, rule-bare}
use Rattle.cm_verdict.specs.declared.defined_at.DefinedAt.{DefinedAt}
use Rattle.cm_verdict.specs.Walk.{placed_row, placed_entry}

row_bare : (n : ℕ) (row : BareRow) → bare_row (placed_row n row) ≡ row
row_bare n (Loader r) = refl
row_bare n (Class r u) = refl

entry_bare : (n : ℕ) (e : BareEntry) → bare_entry (placed_entry n e) ≡ e
entry_bare n (entry.Live (Loader r)) = refl
entry_bare n (entry.Live (Class r u)) = refl
entry_bare n (entry.Unload e) = refl
entry_bare n (entry.Move e) = refl
entry_bare n (entry.UnloadAll e) = refl

pub live_rule_bare : {A : Type 0} (sizes : Sizes) (base : ℕ) (rows : List (Row A)) (row : Row A)
    → broken_live_rule sizes base (bare rows) (bare_row row) ≡ broken_live_rule sizes base rows row
live_rule_bare sizes base rows (Loader r) =
    rw (numbers-bare rows) (rw (number-bare r.name rows) (rw (slots-bare rows) refl))
live_rule_bare sizes base rows (Class r c) =
    rw (name-bare r.loader rows) (rw (slots-bare rows) (rw (classes-bare rows) refl))

-- the same rule is broken
pub placed_live_rule : (sizes : Sizes) (base n : ℕ) (rows : List (Row DefinedAt)) (row : BareRow)
    → broken_live_rule sizes base (bare rows) row
    ≡ broken_live_rule sizes base rows (placed_row n row)
placed_live_rule sizes base n rows row =
    sym (ap (broken_live_rule sizes base (bare rows)) (row_bare n row))
    ∙ live_rule_bare sizes base rows (placed_row n row)

pub placed_rule : (sizes : Sizes) (number n : ℕ) (rows : List (Row DefinedAt)) (e : BareEntry)
    → broken_rule sizes (bare rows) number e ≡ broken_rule sizes rows number (placed_entry n e)
placed_rule sizes number n rows e =
    sym (ap (broken_rule sizes (bare rows) number) (entry_bare n e))
    ∙ rule-bare sizes rows number (placed_entry n e)

-- the same rows are live
pub placed_more : (n : ℕ) (rows : List (Row DefinedAt)) (row : BareRow)
    → bare (rows ++ placed_row n row ∷ []) ≡ bare rows ++ row ∷ []
placed_more n rows row =
    more-bare rows (placed_row n row) ∙ ap (λ (r : BareRow). bare rows ++ r ∷ []) (row_bare n row)

pub placed_after : (n : ℕ) (rows : List (Row DefinedAt)) (e : BareEntry)
    → bare (rows_after rows (placed_entry n e)) ≡ rows_after (bare rows) e
placed_after n rows e =
    after-bare rows (placed_entry n e) ∙ ap (rows_after (bare rows)) (entry_bare n e)
