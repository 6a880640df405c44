-- The tests that a committer makes on its live rows decide whether a group may come.
-- For `have_one_name`, `is_absent`, `may_join`.
use Rattle.std.proofs.Common.{◌≡◌, ℕ, ◌+◌, Bool, true, false, cond, List, [], ◌∷◌}
use Rattle.std.proofs.Common.{Bor, Option, Some, None, refl, sym, ap, ◌∙◌, is_none, is_some, not}
use Rattle.std.specs.Prelude.{◌&&◌, ◌==◌, ◌↔◌, nat_le, IsTrue}
use Rattle.std.specs.Str.{bytes_eq}
use Rattle.std.specs.List.{list_all}
use Rattle.std.specs.Option.{option_copied}
use Rattle.std.proofs.lemmas.Bool.{and_parts, and_from}
use Rattle.std.proofs.lemmas.Bool.Decides.{same_from_decides}
use Rattle.std.proofs.lemmas.Slice.Eq.{bytes_eq-Decides}
use Rattle.cm_pool.specs.Geometry.{Sizes}
use Rattle.cm_pool.specs.Chunks.{chunk_size}
use Rattle.cm_class.specs.declared.class_file.ClassFile.{ClassFile}
use Rattle.cm_record_layout.specs.Layout.{IsRecord, IsRecordOf}
use Rattle.cm_record.specs.Names.{class_name_in, class_name_of}
use Rattle.cm_layout.specs.declared.entry_rule.EntryRule.{EntryRule}
use Rattle.cm_layout.specs.declared.row.Row.{Row}
use Rattle.cm_layout.specs.declared.row.Row.TheVariants.{Loader, Class}
use Rattle.cm_layout.specs.declared.entry.Entry.TheVariants as entry
use Rattle.cm_layout.specs.Rows.{bare, rows_with, rows_after, classes_in, used_words}
use Rattle.cm_layout.specs.Rules.{broken_rule, is_chunk, is_unused, is_last_chunk, is_live}
use Rattle.cm_layout.specs.Rules.{has_room, has_place, class_fits, move_fits}
use Rattle.cm_layout.specs.Frames.{BareRow, BareEntry, bare_entry}
use Rattle.cm_layout.proofs.{classes-bare}
use Rattle.cm_index.specs.Index.{class_of}
use Rattle.cm_rows.specs.Rows.{LiveRows}
use Rattle.cm_state.specs.State.{words_show, class_among}
use Rattle.cm_group.specs.Groups.{Carried, entries_in}
use Rattle.cm_commit.specs.Keeping.{keep_rules}
use Rattle.cm_commit.specs.Offers.{carries_own, writes_apart}
use Rattle.cm_commit.specs.Joining.{entry_is_inside, are_inside, entries_are_apart, are_new}
use Rattle.cm_commit.specs.Joining.{may_join}
use Rattle.cm_commit.proofs.Fitting.{rule_both}
use Rattle.cm_commit.proofs.With.{bare-with}

-- ---- chunks that entries write into

rule_one : (t : Bool) (rule : EntryRule) → cond t None (Some rule) ≡ None → t ≡ true
rule_one true rule keeps = refl
rule_one false rule keeps = absurd (cc)

inside_one : (sizes : Sizes) (rows : List BareRow) (n : ℕ) (e : BareEntry)
    → broken_rule sizes rows n e ≡ None → entry_is_inside sizes e ≡ true
inside_one sizes rows n (entry.Live (Loader r)) keeps = refl
inside_one sizes rows n (entry.Live (Class r p)) keeps =
    let fits = (rule_both (is_live r.loader rows && has_room sizes rows (Class r p))
    (class_fits sizes rows r) keeps).1 in
    let chunk = is_chunk sizes r.place.chunk in
    let some = nat_le 1 r.place.words in
    let within = nat_le (r.place.offset + r.place.words) (chunk_size r.place.chunk.order) in
    (and_parts chunk some (and_parts (chunk && some) within
    (and_parts (chunk && some && within) (has_place rows r) fits).0).0).0
inside_one sizes rows n (entry.Unload e) keeps = refl
inside_one sizes rows n (entry.UnloadAll e) keeps = refl
inside_one sizes rows n (entry.Move e) keeps =
    let fits = rule_one (move_fits sizes rows e) _ keeps in
    let last = is_last_chunk e.loader e.from rows in
    let chunk = is_chunk sizes e.to in
    let unused = is_unused e.to rows in
    let enough = nat_le (used_words e.from rows) (chunk_size e.to.order) in
    (and_parts last chunk (and_parts (last && chunk) unused
    (and_parts (last && chunk && unused) enough fits).0).0).1

none_is : {A : Type 0} (o : Option A) → is_none o ≡ true → o ≡ None
none_is None e = refl
none_is (Some a) e = absurd (cc)

pub inside_all : (sizes : Sizes) (rows : List BareRow) (n : ℕ) (carried : List Carried)
    → keep_rules sizes rows n (entries_in carried) ≡ true → are_inside sizes carried ≡ true
inside_all sizes rows n [] keep = refl
inside_all sizes rows n (c ∷ carried) keep =
    let rule = broken_rule sizes rows n (bare_entry c.entry) in
    let keeps = and_parts (is_none rule)
    (keep_rules sizes (rows_after rows (bare_entry c.entry)) (n + 1) (entries_in carried)) keep in
    and_from (entry_is_inside sizes (bare_entry c.entry)) (are_inside sizes carried)
    (inside_one sizes rows n (bare_entry c.entry) (none_is rule keeps.0))
    (inside_all sizes (rows_after rows (bare_entry c.entry)) (n + 1) carried keeps.1)

-- ---- rows that keep something else of each class

pub classes-with : {P Q : Type 0} (f : P → Q) (rows : List (Row P))
    → classes_in (rows_with f rows) ≡ classes_in rows
classes-with f rows =
    sym (classes-bare (rows_with f rows)) ∙ (ap classes_in (bare-with f rows) ∙ classes-bare rows)

apart-with : {P Q : Type 0} (f : P → Q) (rows : List (Row P)) (e : BareEntry)
    → writes_apart (rows_with f rows) e ≡ writes_apart rows e
apart-with f rows (entry.Live (Loader r)) = refl
apart-with f rows (entry.Live (Class r p)) = rw (classes-with f rows) refl
apart-with f rows (entry.Unload e) = refl
apart-with f rows (entry.UnloadAll e) = refl
apart-with f rows (entry.Move e) = rw (classes-with f rows) refl

pub apart-all : {P Q : Type 0} (f : P → Q) (rows : List (Row P)) (carried : List Carried)
    → entries_are_apart (rows_with f rows) carried ≡ entries_are_apart rows carried
apart-all f rows [] = refl
apart-all f rows (c ∷ carried) =
    λ i. apart-with f rows (bare_entry c.entry) i && apart-all f rows carried i

-- the class of a name
pub none-with : {P : Type 0} (f : P → List ℕ) (u : ℕ) (name : List ℕ) (rows : List (Row P))
    → is_none (class_of (λ (p : P). class_name_in (f p)) u name rows)
    ≡ is_none (class_among words_show u name (rows_with f rows))
none-with f u name [] = refl
none-with f u name (Loader r ∷ rows) = none-with f u name rows
none-with {P} f u name (Class r p ∷ rows) =
    by_test ((r.loader == u) && bytes_eq (class_name_in (f p)) name) (none-with f u name rows)
  where
    there : Option P
    there = class_of (λ (q : P). class_name_in (f q)) u name rows

    among : Option (List ℕ)
    among = class_among words_show u name (rows_with f rows)

    by_test : (t : Bool) → is_none there ≡ is_none among
        → is_none (cond t (Some p) there) ≡ is_none (cond t (Some (f p)) among)
    by_test true rest = refl
    by_test false rest = rest

-- what a reference to it says
pub copied_none : {A : Type 0} (o : Option (Bor A)) (none : Bool) → is_some o ≡ not none
    → none ≡ is_none (option_copied o)
copied_none None true e = refl
copied_none None false e = absurd (cc)
copied_none (Some a) true e = absurd (cc)
copied_none (Some a) false e = refl

-- ---- names of classes

pub one_name : (one other : List ℕ) (same : Bool)
    → ((c : ClassFile) (words : List ℕ) → IsRecordOf c words
    → class_name_in words ≡ class_name_of c)
    → IsRecord one → IsRecord other
    → ((c d : ClassFile) → IsRecordOf c one → IsRecordOf d other
    → IsTrue same ↔ (class_name_of c ≡ class_name_of d))
    → same ≡ bytes_eq (class_name_in one) (class_name_in other)
one_name one other same tells first second compared =
    let name = tells first.0 one first.1 in
    let other_name = tells second.0 other second.1 in
    let told = compared first.0 second.0 first.1 second.1 in
    same_from_decides same (bytes_eq (class_name_in one) (class_name_in other))
    (λ t. name ∙ (told.0 t ∙ sym other_name), λ e. told.1 (sym name ∙ (e ∙ other_name)))
    (bytes_eq-Decides (class_name_in one) (class_name_in other))

-- ---- all of it

module _ {P : Type 0} (f : P → List ℕ) (sizes : Sizes) (rows : List (Row P)) (n : ℕ)
    (carried : List Carried) (next : LiveRows (Unit {0}))
    (next_is : next ≡ record { sizes = sizes; rows = bare rows }) (kept : Bool)
    (keeps : kept ≡ keep_rules next.sizes next.rows (n + 1) (entries_in carried)) where
  abbrev new : Bool
  new = are_new (rows_with f rows) [] carried

  rules : (t : Bool) → kept ≡ t → keep_rules sizes (bare rows) (n + 1) (entries_in carried) ≡ t
  rules t e =
      sym (keeps
      ∙ ap (λ (l : LiveRows (Unit {0})). keep_rules l.sizes l.rows (n + 1) (entries_in carried))
      next_is)
      ∙ e

  may_is : may_join sizes (rows_with f rows) n carried
      ≡ (list_all carries_own carried
      && (keep_rules sizes (bare rows) (n + 1) (entries_in carried)
      && (entries_are_apart rows carried && new)))
  may_is =
      λ i. list_all carries_own carried
      && (keep_rules sizes (bare-with f rows i) (n + 1) (entries_in carried)
      && (apart-all f rows carried i && new))

  pub breaks : list_all carries_own carried ≡ true → kept ≡ false
      → false ≡ may_join sizes (rows_with f rows) n carried
  breaks own e =
      sym (may_is ∙ (λ i. own i && (rules false e i && (entries_are_apart rows carried && new))))

  pub overwrites : list_all carries_own carried ≡ true → kept ≡ true
      → entries_are_apart rows carried ≡ false → false ≡ may_join sizes (rows_with f rows) n carried
  overwrites own e apart =
      sym (may_is ∙ (λ i. own i && (rules true e i && (apart i && new))))

  -- only the names of classes are left
  pub names_left : list_all carries_own carried ≡ true → kept ≡ true
      → entries_are_apart rows carried ≡ true → new ≡ may_join sizes (rows_with f rows) n carried
  names_left own e apart =
      sym (may_is ∙ (λ i. own i && (rules true e i && (apart i && new))))

  pub inside : kept ≡ true → are_inside sizes carried ≡ true
  inside e = inside_all sizes (bare rows) (n + 1) carried (rules true e)
