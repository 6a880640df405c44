-- Entries that keep the rules, one after another.
use Rattle.std.specs.Prelude.{◌≡◌, ℕ, ◌+◌, Bool, true, ◌&&◌, is_none, List, [], ◌∷◌, drop}
use Rattle.cm_pool.specs.Geometry.{Sizes}
use Rattle.cm_layout.specs.Rows.{rows_after, rows_after_all}
use Rattle.cm_layout.specs.Rules.{broken_rule}
use Rattle.cm_layout.specs.Frames.{BareRow, BareEntry}
use Rattle.cm_rows.specs.Rows.{LiveRows, is_above}
use Rattle.cm_group.specs.Groups.{Carried, entries_in}

-- whether each entry keeps the rules on the rows that those before it leave; the first has this
-- number
abbrev pub keep_rules : Sizes → List BareRow → ℕ → List BareEntry → Bool
keep_rules sizes rows number [] = true
keep_rules sizes rows number (e ∷ entries) =
    is_none (broken_rule sizes rows number e)
    && keep_rules sizes (rows_after rows e) (number + 1) entries

-- The first `count` of some carried entries are applied, and the next one has the number `number`.
pub record AreApplied (old : LiveRows (Unit {0})) (first : ℕ) (carried : List Carried)
    (new : LiveRows (Unit {0})) (number count : ℕ) : Type 0 where
  pub sizes : new.sizes ≡ old.sizes
  pub number_is : number ≡ first + count
  pub above : is_above number new.rows ≡ true
  pub kept : keep_rules old.sizes old.rows first (entries_in carried)
      ≡ keep_rules new.sizes new.rows number (entries_in (drop count carried))
  pub rows : rows_after_all old.rows (entries_in carried)
      ≡ rows_after_all new.rows (entries_in (drop count carried))
