-- An entry that may follow is a step of the cache.
-- For `entries_are_steps`, `rows_tell_state` and others.
use Rattle.std.proofs.Common.{◌≡◌, ℕ, ◌+◌, ◌^◌, ◌<◌, ◌≤◌, Bool, true, false, cond, List, [], ◌∷◌}
use Rattle.std.proofs.Common.{◌++◌, Option, Some, None, Ok, refl, sym, ap, subst, ◌∙◌, arith, eqb}
use Rattle.std.proofs.Common.{le-leb, is_some, is_none, append-nil, append_assoc, length, inl, inr}
use Rattle.std.specs.Prelude.{◌&&◌, ◌%◌, nat_lt, nat_le, unwrap_or}
use Rattle.std.specs.List.{list_all}
use Rattle.std.specs.Option.{option_map, option_map_or, option_and_then}
use Rattle.std.specs.Ordering.{nat_cmp}
use Rattle.std.specs.Cmp.Lexicographic.{slice_cmp}
use Rattle.std.specs.FinMap.{get, insert, remove, empty, entries, len-entries, len-empty}
use Rattle.std.proofs.lemmas.Bool.{eqb-true, leb-true, ltb-true, and_parts}
use Rattle.cm_pool.specs.Geometry.{Sizes}
use Rattle.cm_pool.specs.declared.chunk.Chunk.{Chunk}
use Rattle.cm_pool.specs.Chunks.{chunk_size, same_chunk}
use Rattle.cm_pool.specs.Lists.{Among}
use Rattle.cm_layout.specs.declared.loader_row.LoaderRow.{LoaderRow}
use Rattle.cm_layout.specs.declared.class_row.ClassRow.{ClassRow}
use Rattle.cm_layout.specs.declared.move_entry.Move.{Move}
use Rattle.cm_layout.specs.declared.row.Row.{Row}
use Rattle.cm_layout.specs.declared.row.Row.TheVariants.{Loader, Class}
use Rattle.cm_layout.specs.declared.entry.Entry.{Entry}
use Rattle.cm_layout.specs.declared.entry.Entry.TheVariants as entry
use Rattle.cm_layout.specs.declared.entry_rule.EntryRule.TheVariants.{OnRows, OnChunks}
use Rattle.cm_layout.specs.Names.{is_loader_name, slots_of_name, unload_limit}
use Rattle.cm_layout.specs.Rows.{name_of, number_of, numbers_in, classes_in, slots_of_rows}
use Rattle.cm_layout.specs.Slots.{FitsEntry}
use Rattle.cm_layout.specs.Rows.{rows_after, bare, used_words, last_chunk}
use Rattle.cm_layout.specs.Rules.{row_limit, has_room, is_live, is_new_loader, is_chunk, has_place}
use Rattle.cm_layout.specs.Rules.{class_fits, broken_of, broken_live_rule, move_fits}
use Rattle.cm_layout.specs.Rules.{is_last_chunk, is_unused, differ, are_live}
use Rattle.cm_layout.specs.Loaders.{HasOwnLoaders}
use Rattle.cm_layout.specs.Frames.{AreApart, LiveRowsKeep, bare_row, bare_entry}
use Rattle.cm_layout.specs.Laws.{EntriesStayLive, RowsGrow, LoadersAreOwn}
use Rattle.cm_layout.proofs.{number-bare, name-bare, numbers-bare, classes-bare, slots-bare}
use Rattle.cm_layout.proofs.{differ-bare, more-bare, after-bare, rule-bare}
use Rattle.cm_state.specs.State.{ByName, Loaders, Shows, NamesDiffer, class_among, class_in}
use Rattle.cm_state.specs.State.{total, classes_of, state_of, slots_of_state}
use Rattle.cm_state.specs.Step.{AddLoader, Define, Unload, Tighten, UnloadAll, step, is_full}
use Rattle.cm_state.specs.Step.{last_number, is_list, names_differ, without_all}
use Rattle.cm_state.specs.Step.{with_loader, with_class}
use Rattle.cm_state.specs.Entries.{AreCacheRows, MayFollow}
use Rattle.cm_state.specs.Laws.{SizesAgree, EntriesAreSteps}
use Rattle.cm_state.proofs.RowStates.{loader_found, class_found, is_loader_found, class_in_rows}
use Rattle.cm_state.proofs.RowStates.{state_with_loader, state_with_class, state_without}
use Rattle.cm_state.proofs.RowStates.{state_moved}
use Rattle.cm_state.proofs.Leaving.{leave}
use Rattle.cm_state.proofs.Sizes.{counted, counted_loader, counted_class}
use Rattle.cm_state.proofs.Differ.{number_found, only_name, some_name, number_among}
use Rattle.cm_state.proofs.Differ.{loader_differs, class_differs, differ_without, differ_moved}
use Rattle.cm_state.proofs.Differ.{differ_without_all}

-- ---- tests

kept : (t : Bool) → cond t None (Some OnRows) ≡ None → t ≡ true
kept true h = refl
kept false h = absurd (cc)

rows_kept : (a b : Bool) → broken_of a b ≡ None → (a ≡ true) × (b ≡ true)
rows_kept true true h = (refl, refl)
rows_kept true false h = absurd (cc)
rows_kept false b h = absurd (cc)

none_is : {X : Type 0} (o : Option X) → is_none o ≡ true → o ≡ None
none_is None h = refl
none_is (Some x) h = absurd (cc)

not_lt : (a b : ℕ) → b ≤ a → nat_lt a b ≡ false
not_lt a b le = by_test (nat_lt a b) refl
  where
    by_test : (t : Bool) → nat_lt a b ≡ t → t ≡ false
    by_test true e = absurd (omega (arith, ltb-true a b e, le))
    by_test false e = refl

not_last : (n : ℕ) → n < 2 ^ 63 → eqb n last_number ≡ false
not_last n small = by_test (eqb n last_number) refl
  where
    by_test : (t : Bool) → eqb n last_number ≡ t → t ≡ false
    by_test true e = absurd (omega (arith, eqb-true n last_number e, small))
    by_test false e = refl

-- ---- steps with no cause against them

step_loader : {A : Type 0} (shows : Shows A) (sizes : Sizes) (m : Loaders A) (n : ℕ) (x : List ℕ)
    → is_loader_name x ≡ true → eqb n last_number ≡ false → is_some (get m x) ≡ false
    → is_full sizes m (slots_of_name x) ≡ false
    → step shows sizes m n (AddLoader x) ≡ Ok (with_loader m x)
step_loader shows sizes m n x name more new room = rw name (rw more (rw new (rw room refl)))

step_class : {A : Type 0} (shows : Shows A) (sizes : Sizes) (m : Loaders A) (n : ℕ) (x : List ℕ)
    (c : A) → is_loader_name x ≡ true → eqb n last_number ≡ false → is_some (get m x) ≡ true
    → is_some (class_in m x (shows.name c)) ≡ false
    → nat_lt (chunk_size sizes.top) (shows.words c) ≡ false
    → is_full sizes m 1 ≡ false
    → step shows sizes m n (Define x c) ≡ Ok (with_class shows m x c)
step_class shows sizes m n x c name more there new short room =
    rw name (rw more (rw there (rw new (rw short (rw room refl)))))

step_unload : {A : Type 0} (shows : Shows A) (sizes : Sizes) (m : Loaders A) (n : ℕ) (x : List ℕ)
    → is_loader_name x ≡ true → eqb n last_number ≡ false → is_some (get m x) ≡ true
    → step shows sizes m n (Unload x) ≡ Ok (remove m x)
step_unload shows sizes m n x name more there = rw name (rw more (rw there refl))

step_tighten : {A : Type 0} (shows : Shows A) (sizes : Sizes) (m : Loaders A) (n : ℕ) (x : List ℕ)
    → is_loader_name x ≡ true → eqb n last_number ≡ false → is_some (get m x) ≡ true
    → step shows sizes m n (Tighten x) ≡ Ok m
step_tighten shows sizes m n x name more there = rw name (rw more (rw there refl))

step_unload_all : {A : Type 0} (shows : Shows A) (sizes : Sizes) (m : Loaders A) (n : ℕ)
    (xs : List (List ℕ)) → is_list xs ≡ true → list_all is_loader_name xs ≡ true
    → eqb n last_number ≡ false → list_all (λ x. is_some (get m x)) xs ≡ true
    → step shows sizes m n (UnloadAll xs) ≡ Ok (without_all xs m)
step_unload_all shows sizes m n xs list name more there =
    rw list (rw name (rw more (rw there refl)))

-- ---- what the rules say

record LoaderMay {A : Type 0} (sizes : Sizes) (rows : List (Row A)) (r : LoaderRow) : Type 0 where
  name : is_loader_name r.name ≡ true
  new : number_of r.name rows ≡ None
  room : slots_of_rows rows + slots_of_name r.name ≤ row_limit sizes

loader_may : {A : Type 0} (sizes : Sizes) (rows : List (Row A)) (r : LoaderRow)
    → is_new_loader sizes rows r ≡ true → LoaderMay sizes rows r
loader_may {A} sizes rows r h =
    let name = is_loader_name r.name in
    let new = is_none (number_of r.name rows) in
    let room = has_room sizes rows (Loader r) in
    let parts = and_parts (name && new) room h in
    let front = and_parts name new parts.0 in
    record {
      name = front.0;
      new = none_is (number_of r.name rows) front.1;
      room = leb-true (slots_of_rows rows + slots_of_name r.name) (row_limit sizes) parts.1;
    }

record ClassMay {A : Type 0} (sizes : Sizes) (rows : List (Row A)) (r : ClassRow) : Type 0 where
  live : is_live r.loader rows ≡ true
  room : slots_of_rows rows + 1 ≤ row_limit sizes
  short : r.place.words ≤ chunk_size sizes.top

class_may : {A : Type 0} (sizes : Sizes) (rows : List (Row A)) (r : ClassRow) (c : A)
    → broken_of (is_live r.loader rows && has_room sizes rows (Class r c)) (class_fits sizes rows r)
    ≡ None
    → ClassMay sizes rows r
class_may {A} sizes rows r c h =
    let live = is_live r.loader rows in
    let room = has_room sizes rows (Class r c) in
    let chunk = is_chunk sizes r.place.chunk in
    let words = nat_le 1 r.place.words in
    let within = nat_le (r.place.offset + r.place.words) (chunk_size r.place.chunk.order) in
    let all = rows_kept (live && room) (class_fits sizes rows r) h in
    let on_rows = and_parts live room all.0 in
    let fits = and_parts (chunk && words && within) (has_place rows r) all.1 in
    let front = and_parts (chunk && words) within fits.0 in
    let small = nat_le r.place.chunk.order sizes.top in
    let root = nat_lt r.place.chunk.root sizes.roots in
    let aligned = eqb (r.place.chunk.at % chunk_size r.place.chunk.order) 0 in
    let inside =
    nat_le (r.place.chunk.at + chunk_size r.place.chunk.order) (chunk_size sizes.top) in
    let last = and_parts (small && root && aligned) inside (and_parts chunk words front.0).0 in
    record {
      live = on_rows.0;
      room = leb-true (slots_of_rows rows + 1) (row_limit sizes) on_rows.1;
      short =
          let a = leb-true (r.place.offset + r.place.words)
          (chunk_size r.place.chunk.order) front.1 in
          let b = leb-true (r.place.chunk.at + chunk_size r.place.chunk.order)
          (chunk_size sizes.top)
          last.1 in
          omega (arith, a, b);
    }

-- ---- what exists

loader_there : {A : Type 0} (shows : Shows A) (rows : List (Row A)) (x : List ℕ) (u : ℕ)
    → number_of x rows ≡ Some u → is_some (get (state_of shows rows) x) ≡ true
loader_there shows rows x u e = is_loader_found shows rows x ∙ ap is_some e

class_absent : {A : Type 0} (shows : Shows A) (rows : List (Row A)) (x : List ℕ) (u : ℕ)
    (name : List ℕ) → number_of x rows ≡ Some u → class_among shows u name rows ≡ None
    → is_some (class_in (state_of shows rows) x name) ≡ false
class_absent {A} shows rows x u name e none =
    ap is_some (class_in_rows shows rows x name ∙ (ap
    (option_and_then (λ v. class_among shows v name rows)) e ∙ none))

own-bare : {A : Type 0} (n : ℕ) (rows : List (Row A)) → HasOwnLoaders n (bare rows)
    → HasOwnLoaders n rows
own-bare {A} n rows own = record {
  differ = differ-bare rows own.differ;
  past = λ u m. own.past u (subst (λ (l : List ℕ). Among u l) (sym (numbers-bare rows)) m);
  named = λ u x e. own.named u x (name-bare u rows ∙ e);
  owned = λ r m. sym (ap is_some (name-bare r.loader rows))
      ∙ own.owned r (subst (λ (l : List ClassRow). Among r l) (sym (classes-bare rows)) m);
}

-- no class is one of a loader whose number is above all
none_above : {A : Type 0} (n : ℕ) (rows : List (Row A)) → HasOwnLoaders n rows → (v : ℕ)
    → ((u : ℕ) → Among u (numbers_in rows) → u < v) → (s : ClassRow) → Among s (classes_in rows)
    → ¬ (s.loader ≡ v)
none_above n rows own v above s m = λ e.
    let lt = above s.loader (number_among s.loader rows (own.owned s m)) in
    absurd (omega (arith, lt, e))

-- ---- one row more

grown_loader : {A : Type 0} (shows : Shows A) (n : ℕ) (rows : List (Row A)) → HasOwnLoaders n rows
    → (r : LoaderRow) → number_of r.name rows ≡ None
    → ((u : ℕ) → Among u (numbers_in rows) → u < r.number)
    → state_of shows (rows ++ Loader r ∷ []) ≡ with_loader (state_of shows rows) r.name
grown_loader shows n rows own r new above =
    state_with_loader shows rows r new (none_above n rows own r.number above)

grown_class : {A : Type 0} (shows : Shows A) (n : ℕ) (rows : List (Row A)) → HasOwnLoaders n rows
    → (r : ClassRow) (c : A) (x : List ℕ) → name_of r.loader rows ≡ Some x
    → class_among shows r.loader (shows.name c) rows ≡ None
    → state_of shows (rows ++ Class r c ∷ []) ≡ with_class shows (state_of shows rows) x c
grown_class shows n rows own r c x named new =
    state_with_class shows rows r c x (number_found x r.loader rows own.differ named)
    (only_name x r.loader rows own.differ named) new

-- ---- sizes

size_loader : {A : Type 0} (counts : List ℕ → ℕ) (shows : Shows A) (rows : List (Row A))
    (x : List ℕ) → number_of x rows ≡ None
    → counted counts (with_loader (state_of shows rows) x)
    ≡ counted counts (state_of shows rows) + counts x
size_loader {A} counts shows rows x new =
    counted_loader counts (state_of shows rows) x
    (loader_found shows rows rows x ∙ ap (option_map (λ u. classes_of shows u rows)) new)

size_class : {A : Type 0} (counts : List ℕ → ℕ) (shows : Shows A) (rows : List (Row A))
    (x : List ℕ) (u : ℕ) (c : A)
    → number_of x rows ≡ Some u → class_among shows u (shows.name c) rows ≡ None
    → counted counts (with_class shows (state_of shows rows) x c)
    ≡ counted counts (state_of shows rows) + 1
size_class {A} counts shows rows x u c there new =
    let here : get (state_of shows rows) x ≡ Some (classes_of shows u rows) =
    loader_found shows rows rows x ∙ ap (option_map (λ v. classes_of shows v rows)) there in
    let old : unwrap_or (get (state_of shows rows) x) empty ≡ classes_of shows u rows =
    ap (λ (o : Option (ByName A)). unwrap_or o empty) here in
    ap (λ (m : ByName A). counted counts (insert (state_of shows rows) x
    (insert m (shows.name c) c))) old
    ∙ counted_class counts (state_of shows rows) x (classes_of shows u rows) (shows.name c) c here
    (class_found shows u rows (shows.name c) ∙ new)

record LiveLoaderMay (pre : List ℕ) (r : LoaderRow) (new : Bool) : Type 0 where
  above : (u : ℕ) → Among u pre → u < r.number
  is_new : new ≡ true

all_below : (m : ℕ) (numbers : List ℕ) → list_all (λ v. nat_lt v m) numbers ≡ true → (u : ℕ)
    → Among u numbers → u < m
all_below m [] h u none = absurd none
all_below m (v ∷ numbers) h u (inl e) =
    let parts = and_parts (nat_lt v m) (list_all (λ w. nat_lt w m) numbers) h in
    omega (arith, ltb-true v m parts.0, e)
all_below m (v ∷ numbers) h u (inr more) =
    let parts = and_parts (nat_lt v m) (list_all (λ w. nat_lt w m) numbers) h in
    all_below m numbers parts.1 u more

live_loader : {A : Type 0} (sizes : Sizes) (n : ℕ) (rows : List (Row A)) (r : LoaderRow)
    → broken_live_rule sizes n rows (Loader r) ≡ None
    → LiveLoaderMay (numbers_in rows) r (is_new_loader sizes rows r)
live_loader {A} sizes n rows r h =
    let from = nat_le 1 r.number in
    let to = nat_le r.number n in
    let above = list_all (λ u. nat_lt u r.number) (numbers_in rows) in
    let parts = and_parts (from && to && above) (is_new_loader sizes rows r)
    (kept (from && to && above && is_new_loader sizes rows r) h) in
    record {
      above = all_below r.number (numbers_in rows) (and_parts (from && to) above parts.0).1;
      is_new = parts.1;
    }

live-bare : {A : Type 0} (sizes : Sizes) (n : ℕ) (rows : List (Row A)) (row : Row A)
    → broken_live_rule sizes n (bare rows) (bare_row row) ≡ broken_live_rule sizes n rows row
live-bare sizes n rows (Loader r) =
    rw (numbers-bare rows) (rw (number-bare r.name rows) (rw (slots-bare rows) refl))
live-bare sizes n rows (Class r c) =
    rw (name-bare r.loader rows) (rw (slots-bare rows) (rw (classes-bare rows) refl))

-- rows are counted like their state
weighed : {A : Type 0} → (List ℕ → ℕ) → List (Row A) → ℕ
weighed counts [] = 0
weighed counts (Loader r ∷ rows) = counts r.name + weighed counts rows
weighed counts (Class r c ∷ rows) = 1 + weighed counts rows

weighed-rows : {A : Type 0} (rows : List (Row A)) → weighed (λ x. 1) rows ≡ length rows
unfolding weighed
weighed-rows [] = refl
weighed-rows (Loader r ∷ rows) = omega (arith, weighed-rows rows)
weighed-rows (Class r c ∷ rows) = omega (arith, weighed-rows rows)

weighed-slots : {A : Type 0} (rows : List (Row A))
    → weighed slots_of_name rows ≡ slots_of_rows rows
unfolding weighed
weighed-slots [] = refl
weighed-slots (Loader r ∷ rows) = omega (arith, weighed-slots rows)
weighed-slots (Class r c ∷ rows) = omega (arith, weighed-slots rows)

sizes_from : {A : Type 0} → RowsGrow → LoadersAreOwn → (counts : List ℕ → ℕ) (shows : Shows A)
    (sizes : Sizes) (n : ℕ) (pre rows : List (Row A)) → LiveRowsKeep sizes n [] (bare pre)
    → LiveRowsKeep sizes n (bare pre) (bare rows) → NamesDiffer shows pre rows
    → counted counts (state_of shows (pre ++ rows))
    ≡ counted counts (state_of shows pre) + weighed counts rows
unfolding weighed
sizes_from {A} grow own counts shows sizes n pre [] before live differ =
    (λ i. counted counts (state_of shows (append-nil pre i))) ∙ omega arith
sizes_from {A} grow own counts shows sizes n pre (Loader r ∷ rows) before live differ =
    let rule : broken_live_rule sizes n pre (Loader r) ≡ None =
    sym (live-bare sizes n pre (Loader r)) ∙ live.1 in
    let may = live_loader sizes n pre r rule in
    let new = (loader_may sizes pre r may.is_new).new in
    let mine = own-bare n pre (own sizes n (bare pre) before) in
    let one : counted counts (state_of shows (pre ++ Loader r ∷ []))
    ≡ counted counts (state_of shows pre) + counts r.name =
    ap (λ (m : Loaders A). counted counts m) (grown_loader shows n pre mine r new may.above)
    ∙ size_loader counts shows pre r.name new in
    let next = sizes_from grow own counts shows sizes n (pre ++ Loader r ∷ []) rows
    (subst (λ l. LiveRowsKeep sizes n [] l) (sym (more-bare pre (Loader r)))
    (grow sizes n (bare pre) (Loader r) before live.0 live.1))
    (subst (λ l. LiveRowsKeep sizes n l (bare rows)) (sym (more-bare pre (Loader r))) live.2)
    differ in
    (λ i. counted counts (state_of shows (sym (append_assoc pre (Loader r ∷ []) rows) i)))
    ∙ omega (arith, next, one)
sizes_from {A} grow own counts shows sizes n pre (Class r c ∷ rows) before live differ =
    let rule : broken_live_rule sizes n pre (Class r c) ≡ None =
    sym (live-bare sizes n pre (Class r c)) ∙ live.1 in
    let mine = own-bare n pre (own sizes n (bare pre) before) in
    let named = some_name r.loader pre (class_may sizes pre r c rule).live in
    let there = number_found named.0 r.loader pre mine.differ named.1 in
    let one : counted counts (state_of shows (pre ++ Class r c ∷ []))
    ≡ counted counts (state_of shows pre) + 1 =
    ap (λ (m : Loaders A). counted counts m)
    (grown_class shows n pre mine r c named.0 named.1 differ.0)
    ∙ size_class counts shows pre named.0 r.loader c there differ.0 in
    let next = sizes_from grow own counts shows sizes n (pre ++ Class r c ∷ []) rows
    (subst (λ l. LiveRowsKeep sizes n [] l) (sym (more-bare pre (Class r c)))
    (grow sizes n (bare pre) (Class r (tt {0})) before live.0 live.1))
    (subst (λ l. LiveRowsKeep sizes n l (bare rows)) (sym (more-bare pre (Class r c))) live.2)
    differ.1 in
    (λ i. counted counts (state_of shows (sym (append_assoc pre (Class r c ∷ []) rows) i)))
    ∙ omega (arith, next, one)

none-counted : (A : Type 0) (counts : List ℕ → ℕ)
    → counted counts (empty {X = ByName A} {R = slice_cmp nat_cmp}) ≡ 0
none-counted A counts = no_total (entries (empty {X = ByName A} {R = slice_cmp nat_cmp}))
    (sym (len-entries (empty {X = ByName A} {R = slice_cmp nat_cmp}))
    ∙ len-empty (slice_cmp nat_cmp) (ByName A))
  where
    no_total : (es : List (List ℕ × ByName A)) → length es ≡ 0 → total counts es ≡ 0
    no_total [] e = refl
    no_total (x ∷ es) e = absurd (omega (arith, e))

counts_agree : {A : Type 0} → RowsGrow → LoadersAreOwn → (counts : List ℕ → ℕ) (shows : Shows A)
    (sizes : Sizes) (n : ℕ) (rows : List (Row A)) → AreCacheRows shows sizes n rows
    → counted counts (state_of shows rows) ≡ weighed counts rows
counts_agree {A} grow own counts shows sizes n rows are =
    let grown : counted counts (state_of shows rows)
    ≡ counted counts (empty {X = ByName A} {R = slice_cmp nat_cmp}) + weighed counts rows =
    sizes_from grow own counts shows sizes n [] rows tt are.live are.differ in
    let none = none-counted A counts in
    omega (arith, grown, none)

pub sizes_agree : {A : Type 0} → RowsGrow → LoadersAreOwn → SizesAgree A
sizes_agree {A} grow own shows sizes n rows are = (
  counts_agree grow own (λ x. 1) shows sizes n rows are ∙ weighed-rows rows,
  counts_agree grow own slots_of_name shows sizes n rows are ∙ weighed-slots rows,
)

-- ---- entries

fits-bare : {A : Type 0} (e : Entry A) → FitsEntry e → FitsEntry (bare_entry e)
fits-bare (entry.Live (Loader r)) f = f
fits-bare (entry.Live (Class r c)) f = f
fits-bare (entry.Unload e) f = f
fits-bare (entry.Move e) f = f
fits-bare (entry.UnloadAll e) f = f

-- a loader whose last chunk is moved has a class, so the loader lives
last_of : (u : ℕ) (classes : List ClassRow) (c : Chunk) → last_chunk u classes ≡ Some c
    → (r : ClassRow) × Among r classes × (r.loader ≡ u)
last_of u [] c h = absurd (cc)
last_of u (r ∷ classes) c h = by_rest (last_chunk u classes) (last_of u classes c) h
  where
    by_first : (t : Bool) → eqb r.loader u ≡ t → cond t (Some r.place.chunk) None ≡ Some c
        → (s : ClassRow) × Among s (r ∷ classes) × (s.loader ≡ u)
    by_first true e is = (r, inl refl, eqb-true r.loader u e)
    by_first false e is = absurd (cc)

    by_rest : (o : Option Chunk)
        → (o ≡ Some c → (s : ClassRow) × Among s classes × (s.loader ≡ u))
        → elim o [ Some d ↦ Some d | None ↦ cond (eqb r.loader u) (Some r.place.chunk) None ]
        ≡ Some c
        → (s : ClassRow) × Among s (r ∷ classes) × (s.loader ≡ u)
    by_rest (Some d) later is = let found = later is in (found.0, inr found.1, found.2)
    by_rest None later is = by_first (eqb r.loader u) refl is

some_last : (u : ℕ) (classes : List ClassRow) (c : Chunk)
    → option_map_or (λ last. same_chunk last c) (last_chunk u classes) false ≡ true
    → (r : ClassRow) × Among r classes × (r.loader ≡ u)
some_last u classes c h = by_last (last_chunk u classes) refl h
  where
    by_last : (o : Option Chunk) → last_chunk u classes ≡ o
        → option_map_or (λ last. same_chunk last c) o false ≡ true
        → (r : ClassRow) × Among r classes × (r.loader ≡ u)
    by_last (Some last) e is = last_of u classes last e
    by_last None e is = absurd (cc)

all_kept : (t : Bool) → cond t None (Some OnChunks) ≡ None → t ≡ true
all_kept true h = refl
all_kept false h = absurd (cc)

mover_lives : {A : Type 0} (sizes : Sizes) (n : ℕ) (rows : List (Row A)) → HasOwnLoaders n rows
    → (e : Move) → cond (move_fits sizes rows e) None (Some OnChunks) ≡ None
    → is_live e.loader rows ≡ true
mover_lives {A} sizes n rows own e h =
    let last = is_last_chunk e.loader e.from rows in
    let lawful = is_chunk sizes e.to in
    let unused = is_unused e.to rows in
    let room = nat_le (used_words e.from rows) (chunk_size e.to.order) in
    let all = and_parts (last && lawful && unused) room (all_kept (move_fits sizes rows e) h) in
    let front = and_parts last lawful (and_parts (last && lawful) unused all.0).0 in
    let one = some_last e.loader (classes_in rows) e.from front.0 in
    subst (λ (u : ℕ). is_live u rows ≡ true) one.2 (own.owned one.0 one.1)

room_left : {A : Type 0} (sizes : Sizes) (m : Loaders A) (k need : ℕ) → slots_of_state m ≡ k
    → k + need ≤ row_limit sizes → is_full sizes m need ≡ false
room_left sizes m k need is few =
    not_lt (row_limit sizes) (slots_of_state m + need) (omega (arith, is, few))

next_rows : {A : Type 0} → EntriesStayLive → (shows : Shows A) (sizes : Sizes) (n : ℕ)
    (rows : List (Row A)) (e : Entry A) → AreCacheRows shows sizes n rows
    → MayFollow shows sizes n rows e → NamesDiffer shows [] (rows_after rows e)
    → AreCacheRows shows sizes (n + 1) (rows_after rows e)
next_rows {A} stay shows sizes n rows e are may differ =
    let after = after-bare rows e in
    let next = stay sizes (bare rows) n (bare_entry e)
    (subst AreApart (sym (classes-bare rows)) are.apart) are.live (fits-bare e may.fits)
    (rule-bare sizes rows (n + 1) e ∙ may.keeps) in
    record {
      live = subst (λ l. LiveRowsKeep sizes (n + 1) [] l) (sym after) next.1;
      apart = subst AreApart (ap classes_in (sym after) ∙ classes-bare (rows_after rows e)) next.0;
      differ = differ;
    }

-- a list that may be unloaded at once: not too many, none of them twice
list_of : (xs : List (List ℕ)) → 1 ≤ length xs → length xs ≤ unload_limit
    → names_differ xs ≡ true → is_list xs ≡ true
list_of xs some few apart =
    rw (le-leb 1 (length xs) some) (rw (le-leb (length xs) unload_limit few) apart)

pub entries_step : {A : Type 0} → EntriesStayLive → RowsGrow → LoadersAreOwn
    → EntriesAreSteps A
entries_step {A} stay grow own shows sizes n rows (entry.Live (Loader r)) are may small =
    let mine = own-bare n rows (own sizes n (bare rows) are.live) in
    let parts = and_parts (eqb r.number (n + 1)) (is_new_loader sizes rows r)
    (kept (eqb r.number (n + 1) && is_new_loader sizes rows r) may.keeps) in
    let number = eqb-true r.number (n + 1) parts.0 in
    let this = loader_may sizes rows r parts.1 in
    let room = room_left sizes (state_of shows rows) (slots_of_rows rows) (slots_of_name r.name)
    (sizes_agree grow own shows sizes n rows are).1 this.room in
    record {
      change = AddLoader r.name;
      change_is = refl;
      next = step_loader shows sizes (state_of shows rows) n r.name this.name (not_last n small)
          (is_loader_found shows rows r.name ∙ ap is_some this.new) room
          ∙ ap Ok (sym (grown_loader shows n rows mine r this.new
          (λ u m. omega (arith, mine.past u m, number))));
      rows_are = next_rows stay shows sizes n rows (entry.Live (Loader r)) are may
          (loader_differs shows [] rows r are.differ);
    }
entries_step {A} stay grow own shows sizes n rows (entry.Live (Class r c)) are may small =
    let mine = own-bare n rows (own sizes n (bare rows) are.live) in
    let this = class_may sizes rows r c may.keeps in
    let named = some_name r.loader rows this.live in
    let x = named.0 in
    let there = number_found x r.loader rows mine.differ named.1 in
    let room = room_left sizes (state_of shows rows) (slots_of_rows rows) 1
    (sizes_agree grow own shows sizes n rows are).1 this.room in
    record {
      change = Define x c;
      change_is = ap (option_map (λ y. Define y c)) named.1;
      next = step_class shows sizes (state_of shows rows) n x c (mine.named r.loader x named.1)
          (not_last n small) (loader_there shows rows x r.loader there)
          (class_absent shows rows x r.loader (shows.name c) there may.new.0)
          (not_lt (chunk_size sizes.top) (shows.words c) (omega (arith, this.short, may.new.1)))
          room
          ∙ ap Ok (sym (grown_class shows n rows mine r c x named.1 may.new.0));
      rows_are = next_rows stay shows sizes n rows (entry.Live (Class r c)) are may
          (class_differs shows [] rows r c are.differ may.new.0);
    }
entries_step {A} stay grow own shows sizes n rows (entry.Unload e) are may small =
    let mine = own-bare n rows (own sizes n (bare rows) are.live) in
    let named = some_name e.loader rows (kept (is_live e.loader rows) may.keeps) in
    let x = named.0 in
    let there = number_found x e.loader rows mine.differ named.1 in
    record {
      change = Unload x;
      change_is = ap (option_map Unload) named.1;
      next = step_unload shows sizes (state_of shows rows) n x (mine.named e.loader x named.1)
          (not_last n small) (loader_there shows rows x e.loader there)
          ∙ ap Ok (sym (state_without shows rows e.loader x there
          (only_name x e.loader rows mine.differ named.1) mine.differ));
      rows_are = next_rows stay shows sizes n rows (entry.Unload e) are may
          (differ_without shows e.loader [] rows are.differ);
    }
entries_step {A} stay grow own shows sizes n rows (entry.Move e) are may small =
    let mine = own-bare n rows (own sizes n (bare rows) are.live) in
    let named = some_name e.loader rows (mover_lives sizes n rows mine e may.keeps) in
    let x = named.0 in
    let there = number_found x e.loader rows mine.differ named.1 in
    record {
      change = Tighten x;
      change_is = ap (option_map Tighten) named.1;
      next = step_tighten shows sizes (state_of shows rows) n x (mine.named e.loader x named.1)
          (not_last n small) (loader_there shows rows x e.loader there)
          ∙ ap Ok (sym (state_moved shows e.from e.to rows));
      rows_are = next_rows stay shows sizes n rows (entry.Move e) are may
          (differ_moved shows e.from e.to [] rows are.differ);
    }
entries_step {A} stay grow own shows sizes n rows (entry.UnloadAll e) are may small =
    let without = λ (k : ℕ) (some : List (Row A)) (u : ℕ) (live : AreCacheRows shows sizes k some)
    (fits : u < 2 ^ 64) (is : is_live u some ≡ true).
    next_rows stay shows sizes k some (entry.Unload (record { loader = u })) live
    (record { fits = record { loader = fits }; keeps = rw is refl; new = tt })
    (differ_without shows u [] some live.differ) in
    let owns = λ (k : ℕ) (some : List (Row A)) (live : AreCacheRows shows sizes k some).
    own-bare k some (own sizes k (bare some) live.live) in
    let this = leave shows sizes without owns n e.loaders rows are may.fits.loaders
    (kept (differ e.loaders && are_live e.loaders rows) may.keeps) in
    record {
      change = UnloadAll this.names;
      change_is = ap (option_map UnloadAll) this.names_are;
      next = step_unload_all shows sizes (state_of shows rows) n this.names
          (list_of this.names (omega (arith, this.count, may.fits.some))
          (omega (arith, this.count, may.fits.few)) this.differ)
          this.named (not_last n small) this.there
          ∙ ap Ok this.left;
      rows_are = next_rows stay shows sizes n rows (entry.UnloadAll e) are may
          (differ_without_all shows e.loaders rows are.differ);
    }
