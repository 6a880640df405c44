-- Entries applied one after another.
-- For `add_entries`, `apply_all`.
use Rattle.std.proofs.Common.{◌≡◌, ℕ, ◌+◌, ◌-◌, ◌<◌, ◌≤◌, true, false, cond, List, [], ◌∷◌}
use Rattle.std.proofs.Common.{length, drop, get_or, Option, Some, None, refl, sym, ap, subst, ◌∙◌}
use Rattle.std.proofs.Common.{arith}
use Rattle.std.proofs.Common.{is_some, is_none}
use Rattle.std.specs.Prelude.{◌&&◌}
use Rattle.std.proofs.lemmas.List.{drop_more, length-drop}
use Rattle.cm_pool.specs.Geometry.{Sizes}
use Rattle.cm_layout.specs.declared.entry_rule.EntryRule.{EntryRule}
use Rattle.cm_layout.specs.Rows.{rows_after, rows_after_all}
use Rattle.cm_layout.specs.Rules.{broken_rule}
use Rattle.cm_layout.specs.Frames.{BareRow, BareEntry, bare_entry}
use Rattle.cm_rows.specs.Rows.{LiveRows, is_above}
use Rattle.cm_rows.proofs.{above_entry}
use Rattle.cm_group.specs.Groups.{Carried, entries_in}
use Rattle.cm_commit.specs.Keeping.{keep_rules, AreApplied}

pub none_yet : (old : LiveRows (Unit {0})) (first : ℕ) (carried : List Carried)
    → is_above first old.rows ≡ true → AreApplied old first carried old first 0
none_yet old first carried above = record {
  sizes = refl;
  number_is = omega arith;
  above = above;
  kept = refl;
  rows = refl;
}

above_next : (sizes : Sizes) (n : ℕ) (rows : List BareRow) (e : BareEntry) → 1 ≤ n
    → None ≡ broken_rule sizes rows n e → is_above n rows ≡ true
    → is_above (n + 1) (rows_after rows e) ≡ true
above_next sizes n rows e some keeps above =
    let same : n - 1 + 1 ≡ n = omega (arith, some) in
    subst (λ (m : ℕ). is_above (m + 1) (rows_after rows e) ≡ true) same
    (above_entry sizes (n - 1) rows e
    (subst (λ (m : ℕ). None ≡ broken_rule sizes rows m e) (sym same) keeps)
    (subst (λ (m : ℕ). is_above m rows ≡ true) (sym same) above))

-- the next entry
pub next_is : (carried : List Carried) (count : ℕ) (c : Carried) → count < length carried
    → c ≡ get_or carried count c → drop count carried ≡ c ∷ drop (count + 1) carried
next_is carried count c lt is =
    drop_more carried count c lt ∙ ap (λ (d : Carried). d ∷ drop (count + 1) carried) (sym is)

-- the next entry keeps the rules, and is applied
pub one_more : (old : LiveRows (Unit {0})) (first : ℕ) (carried : List Carried)
    (book : LiveRows (Unit {0})) (number count : ℕ) (c : Carried) → 1 ≤ first
    → AreApplied old first carried book number count → count < length carried
    → c ≡ get_or carried count c
    → None ≡ broken_rule book.sizes book.rows number (bare_entry c.entry)
    → AreApplied old first carried
    (record book { rows = rows_after book.rows (bare_entry c.entry) }) (number + 1) (count + 1)
one_more old first carried book number count c some are lt is keeps =
    let split = next_is carried count c lt is in
    let rest = entries_in (drop (count + 1) carried) in
    record {
      sizes = are.sizes;
      number_is = omega (arith, are.number_is);
      above = above_next book.sizes number book.rows (bare_entry c.entry)
          (omega (arith, some, are.number_is)) keeps
          are.above;
      kept = are.kept
          ∙ (ap (λ (l : List Carried). keep_rules book.sizes book.rows number (entries_in l)) split
          ∙ ap (λ (o : Option EntryRule). is_none o
          && keep_rules book.sizes (rows_after book.rows (bare_entry c.entry)) (number + 1) rest)
          (sym keeps));
      rows = are.rows
          ∙ ap (λ (l : List Carried). rows_after_all book.rows (entries_in l)) split;
    }

-- the next entry breaks a rule
pub one_breaks : (old : LiveRows (Unit {0})) (first : ℕ) (carried : List Carried)
    (book : LiveRows (Unit {0})) (number count : ℕ) (c : Carried) (rule : Option EntryRule)
    → AreApplied old first carried book number count → count < length carried
    → c ≡ get_or carried count c
    → rule ≡ broken_rule book.sizes book.rows number (bare_entry c.entry)
    → is_some rule ≡ true → false ≡ keep_rules old.sizes old.rows first (entries_in carried)
one_breaks old first carried book number count c rule are lt is broken some =
    let split = next_is carried count c lt is in
    let rest = entries_in (drop (count + 1) carried) in
    by_rule rule some
    ∙ ap (λ (o : Option EntryRule). is_none o
    && keep_rules book.sizes (rows_after book.rows (bare_entry c.entry)) (number + 1) rest) broken
    ∙ sym (are.kept
    ∙ ap (λ (l : List Carried). keep_rules book.sizes book.rows number (entries_in l)) split)
  where
    by_rule : (o : Option EntryRule) → is_some o ≡ true
        → false ≡ (is_none o
        && keep_rules book.sizes (rows_after book.rows (bare_entry c.entry)) (number + 1)
        (entries_in (drop (count + 1) carried)))
    by_rule None none = absurd (cc)
    by_rule (Some r) yes_it_is = refl

-- all are applied
pub all_behind : (carried : List Carried) (count : ℕ) → length carried ≤ count
    → drop count carried ≡ []
all_behind carried count le =
    none_left (drop count carried) (omega (arith, length-drop count carried, le))
  where
    none_left : (l : List Carried) → length l ≡ 0 → l ≡ []
    none_left [] e = refl
    none_left (c ∷ l) e = absurd (omega (arith, e))

pub all_kept : (old : LiveRows (Unit {0})) (first : ℕ) (carried : List Carried)
    (book : LiveRows (Unit {0})) (number count : ℕ) → AreApplied old first carried book number count
    → length carried ≤ count → true ≡ keep_rules old.sizes old.rows first (entries_in carried)
all_kept old first carried book number count are le =
    sym (are.kept ∙ ap (λ (l : List Carried). keep_rules book.sizes book.rows number (entries_in l))
    (all_behind carried count le))

pub all_rows : (old : LiveRows (Unit {0})) (first : ℕ) (carried : List Carried)
    (book : LiveRows (Unit {0})) (number count : ℕ) → AreApplied old first carried book number count
    → length carried ≤ count
    → book ≡ record old { rows = rows_after_all old.rows (entries_in carried) }
all_rows old first carried book number count are le =
    let rows : book.rows ≡ rows_after_all old.rows (entries_in carried) =
    sym (are.rows ∙ ap (λ (l : List Carried). rows_after_all book.rows (entries_in l))
    (all_behind carried count le)) in
    let sizes = are.sizes in
    (λ i. record { sizes = sizes i; rows = rows i })

-- ---- no rule is broken

pub none_of : (rule : Option EntryRule) → is_some rule ≡ false → rule ≡ None
none_of None h = refl
none_of (Some r) h = absurd (cc)

pub left_of : (rule : Option EntryRule) (new applied old : LiveRows (Unit {0}))
    → is_some rule ≡ false → new ≡ cond (is_none rule) applied old → new ≡ applied
left_of None new applied old h e = e
left_of (Some r) new applied old h e = absurd (cc)
