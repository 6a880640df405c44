-- Entries applied with the records that they carry.
-- For `fill_all`.
use Rattle.std.proofs.Common.{◌≡◌, ℕ, ◌+◌, ◌-◌, ◌<◌, ◌≤◌, true, cond, List, length, drop}
use Rattle.std.proofs.Common.{get_or, Option, Some, None, is_none, refl, sym, ap, subst, ◌∙◌, arith}
use Rattle.std.proofs.lemmas.Bool.{and_parts}
use Rattle.cm_layout.specs.declared.row.Row.{Row}
use Rattle.cm_layout.specs.declared.row.Row.TheVariants.{Loader, Class}
use Rattle.cm_layout.specs.declared.entry.Entry.{Entry}
use Rattle.cm_layout.specs.declared.entry.Entry.TheVariants as entry
use Rattle.cm_layout.specs.declared.entry_rule.EntryRule.{EntryRule}
use Rattle.cm_layout.specs.Rows.{bare, rows_with, entry_with, rows_after}
use Rattle.cm_layout.specs.Rules.{broken_rule}
use Rattle.cm_layout.specs.Frames.{BareRow, bare_entry}
use Rattle.cm_layout.proofs.{after-bare, rule-bare}
use Rattle.cm_rows.specs.Rows.{LiveRows, is_above}
use Rattle.cm_rows.proofs.{above_entry}
use Rattle.cm_group.specs.Groups.{Carried, entries_in}
use Rattle.cm_commit.specs.Offers.{filled, rows_after_group}
use Rattle.cm_commit.specs.Keeping.{keep_rules}
use Rattle.cm_commit.proofs.Applied.{next_is, all_behind}
use Rattle.cm_commit.proofs.With.{after-with}

pub record AreFilled {P : Type 0} (f : P → List ℕ) (old : LiveRows P) (first : ℕ)
    (carried : List Carried) (new : LiveRows P) (number count : ℕ) : Type 0 where
  pub sizes : new.sizes ≡ old.sizes
  pub number_is : number ≡ first + count
  pub above : is_above number new.rows ≡ true
  pub kept : keep_rules new.sizes (bare new.rows) number (entries_in (drop count carried)) ≡ true
  pub rows : rows_after_group (rows_with f new.rows) (drop count carried)
      ≡ rows_after_group (rows_with f old.rows) carried

bare-kept : {P : Type 0} (f : P → List ℕ) (e : Entry P) (c : Carried) → entry_with f e ≡ filled c
    → bare_entry e ≡ bare_entry c.entry
bare-kept {P} f e c same = by_entry e ∙ ap bare_entry same
  where
    by_entry : (d : Entry P) → bare_entry d ≡ bare_entry (entry_with f d)
    by_entry (entry.Live (Loader r)) = refl
    by_entry (entry.Live (Class r p)) = refl
    by_entry (entry.Unload d) = refl
    by_entry (entry.Move d) = refl
    by_entry (entry.UnloadAll d) = refl

none_from : (o : Option EntryRule) → is_none o ≡ true → o ≡ None
none_from None e = refl
none_from (Some x) e = absurd (cc)

applied_is : {P : Type 0} (o : Option EntryRule) (new applied old : LiveRows P) → o ≡ None
    → new ≡ cond (is_none o) applied old → new ≡ applied
applied_is None new applied old e left = left
applied_is (Some x) new applied old e left = absurd (cc)

pub one_filled : {P : Type 0} (f : P → List ℕ) (old : LiveRows P) (first : ℕ)
    (carried : List Carried) (book : LiveRows P) (number count : ℕ) (c : Carried) (e : Entry P)
    (result : Option EntryRule) (new : LiveRows P) → 1 ≤ first
    → AreFilled f old first carried book number count → count < length carried
    → c ≡ get_or carried count c → entry_with f e ≡ filled c
    → result ≡ broken_rule book.sizes book.rows number e
    → new ≡ cond (is_none result) (record book { rows = rows_after book.rows e }) book
    → AreFilled f old first carried new (number + 1) (count + 1)
one_filled {P} f old first carried book number count c e result new some are lt is same
    broken left =
    let rest = drop (count + 1) carried in
    let split = next_is carried count c lt is in
    let own = bare_entry c.entry in
    let kept = and_parts (is_none (broken_rule book.sizes (bare book.rows) number own))
    (keep_rules book.sizes (rows_after (bare book.rows) own) (number + 1) (entries_in rest))
    (subst (λ (l : List Carried). keep_rules book.sizes (bare book.rows) number (entries_in l)
    ≡ true) split are.kept) in
    let plain = bare-kept f e c same in
    let keeps : broken_rule book.sizes book.rows number e ≡ None =
    sym (rule-bare book.sizes book.rows number e)
    ∙ (ap (broken_rule book.sizes (bare book.rows) number) plain
    ∙ none_from (broken_rule book.sizes (bare book.rows) number (bare_entry c.entry)) kept.0) in
    let applied : new ≡ record book { rows = rows_after book.rows e } =
    applied_is result new (record book { rows = rows_after book.rows e }) book (broken ∙ keeps)
    left in
    let back : number - 1 + 1 ≡ number = omega (arith, some, are.number_is) in
    subst (λ (b : LiveRows P). AreFilled f old first carried b (number + 1) (count + 1))
    (sym applied) (record {
      sizes = are.sizes;
      number_is = omega (arith, are.number_is);
      above = subst (λ (m : ℕ). is_above (m + 1) (rows_after book.rows e) ≡ true) back
          (above_entry book.sizes (number - 1) book.rows e
          (subst (λ (m : ℕ). None ≡ broken_rule book.sizes book.rows m e) (sym back) (sym keeps))
          (subst (λ (m : ℕ). is_above m book.rows ≡ true) (sym back) are.above));
      kept = subst (λ (l : List BareRow). keep_rules book.sizes l (number + 1) (entries_in rest)
          ≡ true)
          (sym (after-bare book.rows e ∙ ap (rows_after (bare book.rows)) plain)) kept.1;
      rows = ap (λ (l : List (Row (List ℕ))). rows_after_group l rest)
          (after-with f book.rows e ∙ ap (rows_after (rows_with f book.rows)) same)
          ∙ (sym (ap (rows_after_group (rows_with f book.rows)) split) ∙ are.rows);
    })

pub all_filled : {P : Type 0} (f : P → List ℕ) (old : LiveRows P) (first : ℕ)
    (carried : List Carried) (new : LiveRows P) (number count : ℕ)
    → AreFilled f old first carried new number count → length carried ≤ count
    → rows_with f new.rows ≡ rows_after_group (rows_with f old.rows) carried
all_filled f old first carried new number count are le =
    sym (ap (rows_after_group (rows_with f new.rows)) (all_behind carried count le)) ∙ are.rows
