-- Rows after entries that keep the rules are live rows that keep theirs: what a checkpoint writes.
-- For `live_rows_go_on`, `rows_stay_live` and others.
use Rattle.std.proofs.Common.{◌≡◌, ℕ, ◌+◌, ◌≤◌, ◌⊎◌, Bool, true, false, cond, List, []}
use Rattle.std.proofs.Common.{◌∷◌, ◌++◌, length, map, Option, Some, None, inl, inr, refl, sym, ap}
use Rattle.std.proofs.Common.{subst, ◌∙◌, arith, append_assoc, append-nil, eqb, is_some, is_none}
use Rattle.std.specs.Prelude.{not, ◌&&◌, ◌||◌, nat_lt, nat_le, min, max, filter, sum}
use Rattle.std.specs.Str.{bytes_eq}
use Rattle.std.specs.List.{list_any, list_all, flat_map}
use Rattle.std.specs.Option.{option_map_or, option_map}
use Rattle.std.proofs.lemmas.Bool.{eqb-true, eq-eqb, leb-true, le-leb, lt-ltb, and_parts, or_cases}
use Rattle.std.proofs.lemmas.List.Elements.{filter-append}
use Rattle.cm_pool.specs.declared.chunk.Chunk.{Chunk}
use Rattle.cm_pool.specs.Chunks.{chunk_size, same_chunk, Meets}
use Rattle.cm_pool.specs.Geometry.{Sizes}
use Rattle.cm_pool.specs.Lists.{Among}
use Rattle.cm_pool.proofs.{same_chunk-itself, same_chunk-true, meets-itself, among-push}
use Rattle.cm_layout.specs.declared.loader_row.LoaderRow.{LoaderRow}
use Rattle.cm_layout.specs.declared.class_row.ClassRow.{ClassRow}
use Rattle.cm_layout.specs.declared.row.Row.TheVariants.{Loader, Class}
use Rattle.cm_layout.specs.declared.entry_rule.EntryRule.TheVariants.{OnRows, OnChunks}
use Rattle.cm_layout.specs.Names.{is_loader_name}
use Rattle.cm_layout.specs.Slots.{FitsRow, FitsChunk, FitsEntry}
use Rattle.cm_layout.specs.Rows.{name_of, number_of, numbers_in, classes_in, slots_of_rows}
use Rattle.cm_layout.specs.Rows.{slots_of_row, used_words, last_chunk, is_of, without_loader}
use Rattle.cm_layout.specs.Rows.{without_loaders, moved}
use Rattle.cm_layout.specs.Rows.{moved_row}
use Rattle.cm_layout.specs.Rows.{rows_after, rows_after_all}
use Rattle.cm_layout.specs.Rules.{row_limit, has_room, is_live, is_new_loader, is_chunk, meets}
use Rattle.cm_layout.specs.Rules.{is_unused, is_last_chunk, has_place, class_fits, broken_of}
use Rattle.cm_layout.specs.Rules.{broken_live_rule, broken_rule, move_fits}
use Rattle.cm_layout.specs.Frames.{BareRow, BareEntry, AreApart, LiveRowsKeep, EntriesKeep}
use Rattle.cm_layout.specs.Frames.{GroupsKeep}
use Rattle.cm_layout.specs.Laws.{RowsStayLive}
use Rattle.cm_layout.specs.declared.entry.Entry.TheVariants as entry
use Rattle.cm_layout.proofs.Apart.{chunks_kept, rule_kept, live-apart}
use Rattle.cm_layout.proofs.Apart.{classes_in-moved, moved_class}
use Rattle.cm_layout.proofs.Apart.{entry-apart, entries-apart}
use Rattle.cm_layout.proofs.Apart.{live_rows-apart, rows_after_all-append}
use Rattle.cm_layout.proofs.ClassPlaces.{meets-true, classes_in-append, is_last_chunk-among}
use Rattle.cm_layout.proofs.ClassPlaces.{used-append, begins_behind}
use Rattle.cm_layout.proofs.SlotCounts.{slots-without, slots-moved}
use Rattle.cm_layout.specs.declared.row.Row.{Row}
use Rattle.std.proofs.lemmas.List.{map-append, length-append}

-- ---- tests

and_true : (a b : Bool) → a ≡ true → b ≡ true → (a && b) ≡ true
and_true a b p q = rw p q

no_rule : (t : Bool) → t ≡ true → cond t None (Some OnRows) ≡ None
no_rule t p = rw p refl

rows_kept : (on_rows on_chunks : Bool) → broken_of on_rows on_chunks ≡ None → on_rows ≡ true
rows_kept true on_chunks h = refl
rows_kept false on_chunks h = absurd (cc)

none_broken : (on_rows on_chunks : Bool) → on_rows ≡ true → on_chunks ≡ true
    → broken_of on_rows on_chunks ≡ None
none_broken a b p q = rw p (rw q refl)

or_left : (a b : Bool) → a ≡ true → (a || b) ≡ true
or_left a b p = rw p refl

or_right : (a b : Bool) → b ≡ true → (a || b) ≡ true
or_right true b p = refl
or_right false b p = p

no_both : {t : Bool} → t ≡ true → t ≡ false → ⊥
no_both p q = absurd (cc)

not_same : (c d : Chunk) → (c ≡ d → ⊥) → same_chunk c d ≡ false
not_same c d differ = by_test (same_chunk c d) refl
  where
    by_test : (t : Bool) → same_chunk c d ≡ t → t ≡ false
    by_test true e = absurd (differ (same_chunk-true c d e))
    by_test false e = refl

-- ---- the rules in parts

pub record LoaderKeeps (sizes : Sizes) (base : ℕ) (pre : List BareRow)
    (r : LoaderRow) : Type 0 where
  pub from : nat_le 1 r.number ≡ true
  pub to : nat_le r.number base ≡ true
  pub above : list_all (λ u. nat_lt u r.number) (numbers_in pre) ≡ true
  pub name : is_loader_name r.name ≡ true
  pub new : is_none (number_of r.name pre) ≡ true
  pub room : has_room sizes pre (Loader r) ≡ true

pub loader_keeps : (sizes : Sizes) (base : ℕ) (pre : List BareRow) (r : LoaderRow)
    → broken_live_rule sizes base pre (Loader r) ≡ None → LoaderKeeps sizes base pre r
loader_keeps sizes base pre r h =
    let some = nat_le 1 r.number in
    let past = nat_le r.number base in
    let above = list_all (λ u. nat_lt u r.number) (numbers_in pre) in
    let name = is_loader_name r.name in
    let new = is_none (number_of r.name pre) in
    let room = has_room sizes pre (Loader r) in
    let all = and_parts (some && past && above) (name && new && room)
    (rule_kept (some && past && above && (name && new && room)) OnRows h) in
    let number = and_parts (some && past) above all.0 in
    let rest = and_parts (name && new) room all.1 in
    record {
      from = (and_parts some past number.0).0;
      to = (and_parts some past number.0).1;
      above = number.1;
      name = (and_parts name new rest.0).0;
      new = (and_parts name new rest.0).1;
      room = rest.1;
    }

keeps_loader : (sizes : Sizes) (base : ℕ) (pre : List BareRow) (r : LoaderRow)
    → LoaderKeeps sizes base pre r → broken_live_rule sizes base pre (Loader r) ≡ None
keeps_loader sizes base pre r k =
    let some = nat_le 1 r.number in
    let past = nat_le r.number base in
    let above = list_all (λ u. nat_lt u r.number) (numbers_in pre) in
    let name = is_loader_name r.name in
    let new = is_none (number_of r.name pre) in
    let room = has_room sizes pre (Loader r) in
    no_rule (some && past && above && (name && new && room))
    (and_true (some && past && above) (name && new && room)
    (and_true (some && past) above (and_true some past k.from k.to) k.above)
    (and_true (name && new) room (and_true name new k.name k.new) k.room))

pub record ClassKeeps (sizes : Sizes) (pre : List BareRow) (r : ClassRow) : Type 0 where
  pub live : is_live r.loader pre ≡ true
  pub room : has_room sizes pre (Class r tt) ≡ true
  pub chunk : is_chunk sizes r.place.chunk ≡ true
  pub words : nat_le 1 r.place.words ≡ true
  pub within : nat_le (r.place.offset + r.place.words) (chunk_size r.place.chunk.order) ≡ true
  pub place : has_place pre r ≡ true

pub class_keeps : (sizes : Sizes) (pre : List BareRow) (r : ClassRow)
    → broken_of (is_live r.loader pre && has_room sizes pre (Class r tt)) (class_fits sizes pre r)
    ≡ None
    → ClassKeeps sizes pre r
class_keeps sizes pre r h =
    let live = is_live r.loader pre in
    let room = has_room sizes pre (Class r tt) in
    let chunk = is_chunk sizes r.place.chunk in
    let words = nat_le 1 r.place.words in
    let within = nat_le (r.place.offset + r.place.words) (chunk_size r.place.chunk.order) in
    let rows = and_parts live room (rows_kept (live && room) (class_fits sizes pre r) h) in
    let fits = and_parts (chunk && words && within) (has_place pre r)
    (chunks_kept (live && room) (class_fits sizes pre r) h) in
    let front = and_parts (chunk && words) within fits.0 in
    record {
      live = rows.0;
      room = rows.1;
      chunk = (and_parts chunk words front.0).0;
      words = (and_parts chunk words front.0).1;
      within = front.1;
      place = fits.1;
    }

keeps_class : (sizes : Sizes) (pre : List BareRow) (r : ClassRow) → ClassKeeps sizes pre r
    → broken_of (is_live r.loader pre && has_room sizes pre (Class r tt)) (class_fits sizes pre r)
    ≡ None
keeps_class sizes pre r k =
    let live = is_live r.loader pre in
    let room = has_room sizes pre (Class r tt) in
    let chunk = is_chunk sizes r.place.chunk in
    let words = nat_le 1 r.place.words in
    let within = nat_le (r.place.offset + r.place.words) (chunk_size r.place.chunk.order) in
    none_broken (live && room) (class_fits sizes pre r) (and_true live room k.live k.room)
    (and_true (chunk && words && within) (has_place pre r)
    (and_true (chunk && words) within (and_true chunk words k.chunk k.words) k.within) k.place)

-- ---- one more row, and a higher base

pub live-append : (sizes : Sizes) (base : ℕ) (pre rows : List BareRow) (row : BareRow)
    → LiveRowsKeep sizes base pre rows → FitsRow row
    → broken_live_rule sizes base (pre ++ rows) row ≡ None
    → LiveRowsKeep sizes base pre (rows ++ row ∷ [])
live-append sizes base pre [] row k fits h = (
  fits,
  subst (λ (l : List BareRow). broken_live_rule sizes base l row ≡ None) (append-nil pre) h,
  tt,
)
live-append sizes base pre (r ∷ rows) row k fits h = (
  k.0,
  k.1,
  live-append sizes base (pre ++ r ∷ []) rows row k.2 fits
      (subst (λ (l : List BareRow). broken_live_rule sizes base l row ≡ None)
      (sym (append_assoc pre (r ∷ []) rows)) h),
)

rule-higher : (sizes : Sizes) (base more : ℕ) (pre : List BareRow) (row : BareRow) → base ≤ more
    → broken_live_rule sizes base pre row ≡ None → broken_live_rule sizes more pre row ≡ None
rule-higher sizes base more pre (Loader r) up h =
    let k = loader_keeps sizes base pre r h in
    keeps_loader sizes more pre r (record {
      from = k.from;
      to = le-leb r.number more (omega (arith, leb-true r.number base k.to, up));
      above = k.above;
      name = k.name;
      new = k.new;
      room = k.room;
    })
rule-higher sizes base more pre (Class r p) up h = h

pub live-higher : (sizes : Sizes) (base more : ℕ) (pre rows : List BareRow) → base ≤ more
    → LiveRowsKeep sizes base pre rows → LiveRowsKeep sizes more pre rows
live-higher sizes base more pre [] up k = tt
live-higher sizes base more pre (r ∷ rows) up k = (
  k.0,
  rule-higher sizes base more pre r up k.1,
  live-higher sizes base more (pre ++ r ∷ []) rows up k.2,
)

-- ---- without a loader

numbers-without : (p : ℕ → Bool) (u : ℕ) (rows : List BareRow) → list_all p (numbers_in rows) ≡ true
    → list_all p (numbers_in (without_loader u rows)) ≡ true
numbers-without p u [] h = refl
numbers-without p u (Loader r ∷ rows) h =
    let parts = and_parts (p r.number) (list_all p (numbers_in rows)) h in
    by_test (eqb r.number u) parts.0 (numbers-without p u rows parts.1)
  where
    by_test : (t : Bool) → p r.number ≡ true
        → list_all p (numbers_in (without_loader u rows)) ≡ true
        → list_all p (numbers_in
        (cond (not t) (Loader r ∷ without_loader u rows) (without_loader u rows))) ≡ true
    by_test true one rest = rest
    by_test false one rest =
        and_true (p r.number) (list_all p (numbers_in (without_loader u rows))) one rest
numbers-without p u (Class r c ∷ rows) h = by_test (eqb r.loader u) (numbers-without p u rows h)
  where
    by_test : (t : Bool) → list_all p (numbers_in (without_loader u rows)) ≡ true
        → list_all p (numbers_in
        (cond (not t) (Class r c ∷ without_loader u rows) (without_loader u rows))) ≡ true
    by_test true rest = rest
    by_test false rest = rest

new-without : (x : List ℕ) (u : ℕ) (rows : List BareRow) → is_none (number_of x rows) ≡ true
    → is_none (number_of x (without_loader u rows)) ≡ true
new-without x u [] h = refl
new-without x u (Loader r ∷ rows) h =
    by_name (λ k. new-without x u rows k) (bytes_eq r.name x) (eqb r.number u) refl h
  where
    by_name : (is_none (number_of x rows) ≡ true
        → is_none (number_of x (without_loader u rows)) ≡ true)
        → (s t : Bool) → bytes_eq r.name x ≡ s
        → is_none (cond s (Some r.number) (number_of x rows)) ≡ true
        → is_none (number_of x
        (cond (not t) (Loader r ∷ without_loader u rows) (without_loader u rows))) ≡ true
    by_name rest true t is none = absurd (cc)
    by_name rest false true is none = rest none
    by_name rest false false is none = rw is (rest none)
new-without x u (Class r c ∷ rows) h = by_test (eqb r.loader u) (new-without x u rows h)
  where
    by_test : (t : Bool) → is_none (number_of x (without_loader u rows)) ≡ true
        → is_none (number_of x
        (cond (not t) (Class r c ∷ without_loader u rows) (without_loader u rows))) ≡ true
    by_test true rest = rest
    by_test false rest = rest

room-without : (sizes : Sizes) (u : ℕ) (pre : List BareRow) (row : BareRow)
    → has_room sizes pre row ≡ true → has_room sizes (without_loader u pre) row ≡ true
room-without sizes u pre row h =
    le-leb (slots_of_rows (without_loader u pre) + slots_of_row row) (row_limit sizes)
    (omega (
      arith,
      slots-without u pre,
      leb-true (slots_of_rows pre + slots_of_row row) (row_limit sizes) h,
    ))

live-without : (v u : ℕ) (rows : List BareRow) → (v ≡ u → ⊥) → is_some (name_of v rows) ≡ true
    → is_some (name_of v (without_loader u rows)) ≡ true
live-without v u [] other h = h
live-without v u (Loader r ∷ rows) other h =
    by_number (λ k. live-without v u rows other k) (eqb r.number v) (eqb r.number u) refl refl h
  where
    by_number : (is_some (name_of v rows) ≡ true
        → is_some (name_of v (without_loader u rows)) ≡ true)
        → (s t : Bool) → eqb r.number v ≡ s → eqb r.number u ≡ t
        → is_some (cond s (Some r.name) (name_of v rows)) ≡ true
        → is_some (name_of v
        (cond (not t) (Loader r ∷ without_loader u rows) (without_loader u rows))) ≡ true
    by_number rest true true is not_is some =
        absurd (other (sym (eqb-true r.number v is) ∙ eqb-true r.number u not_is))
    by_number rest true false is not_is some = rw is refl
    by_number rest false true is not_is some = rest some
    by_number rest false false is not_is some = rw is (rest some)
live-without v u (Class r c ∷ rows) other h =
    by_test (eqb r.loader u) (live-without v u rows other h)
  where
    by_test : (t : Bool) → is_some (name_of v (without_loader u rows)) ≡ true
        → is_some (name_of v
        (cond (not t) (Class r c ∷ without_loader u rows) (without_loader u rows))) ≡ true
    by_test true rest = rest
    by_test false rest = rest

-- the last chunk of a loader, after a row of another loader
last_behind : (v : ℕ) (r : ClassRow) (o : Option Chunk) → eqb r.loader v ≡ false
    → elim o [ Some d ↦ Some d | None ↦ cond (eqb r.loader v) (Some r.place.chunk) None ] ≡ o
last_behind v r (Some d) e = refl
last_behind v r None e = rw e refl

not_eqb : (a b : ℕ) → (a ≡ b → ⊥) → eqb a b ≡ false
not_eqb a b differ = by_test (eqb a b) refl
  where
    by_test : (t : Bool) → eqb a b ≡ t → t ≡ false
    by_test true e = absurd (differ (eqb-true a b e))
    by_test false e = refl

pub last-without : (v u : ℕ) (rows : List BareRow) → (v ≡ u → ⊥)
    → last_chunk v (classes_in (without_loader u rows)) ≡ last_chunk v (classes_in rows)
last-without v u [] other = refl
last-without v u (Loader r ∷ rows) other = by_test (eqb r.number u) (last-without v u rows other)
  where
    by_test : (t : Bool)
        → last_chunk v (classes_in (without_loader u rows)) ≡ last_chunk v (classes_in rows)
        → last_chunk v (classes_in
        (cond (not t) (Loader r ∷ without_loader u rows) (without_loader u rows)))
        ≡ last_chunk v (classes_in rows)
    by_test true rest = rest
    by_test false rest = rest
last-without v u (Class r c ∷ rows) other =
    by_test (eqb r.loader u) refl (last-without v u rows other)
  where
    by_test : (t : Bool) → eqb r.loader u ≡ t
        → last_chunk v (classes_in (without_loader u rows)) ≡ last_chunk v (classes_in rows)
        → last_chunk v (classes_in
        (cond (not t) (Class r c ∷ without_loader u rows) (without_loader u rows)))
        ≡ last_chunk v (r ∷ classes_in rows)
    by_test true is rest =
        let loader : r.loader ≡ u = eqb-true r.loader u is in
        let behind = last_behind v r (last_chunk v (classes_in rows))
        (not_eqb r.loader v (λ e. other (sym e ∙ loader))) in
        rest ∙ sym behind
    by_test false is rest =
        ap (λ (o : Option Chunk). elim o [
          | Some d ↦ Some d
          | None ↦ cond (eqb r.loader v) (Some r.place.chunk) None
        ]) rest

-- rows on a chunk that has none of the loader's
on : Chunk → List ClassRow → List ClassRow
on c classes = filter (λ (r : ClassRow). same_chunk r.place.chunk c) classes

on-without : (c : Chunk) (u : ℕ) (rows : List BareRow)
    → ((s : ClassRow) → Among s (classes_in rows) → s.loader ≡ u
    → same_chunk s.place.chunk c ≡ false)
    → on c (classes_in (without_loader u rows)) ≡ on c (classes_in rows)
unfolding on
on-without c u [] none = refl
on-without c u (Loader r ∷ rows) none = by_test (eqb r.number u) (on-without c u rows none)
  where
    by_test : (t : Bool)
        → on c (classes_in (without_loader u rows)) ≡ on c (classes_in rows)
        → on c (classes_in
        (cond (not t) (Loader r ∷ without_loader u rows) (without_loader u rows)))
        ≡ on c (classes_in rows)
    by_test true rest = rest
    by_test false rest = rest
on-without c u (Class r p ∷ rows) none =
    by_test (eqb r.loader u) refl (on-without c u rows (λ s m. none s (inr m)))
  where
    by_test : (t : Bool) → eqb r.loader u ≡ t
        → filter (λ (q : ClassRow). same_chunk q.place.chunk c) (classes_in (without_loader u rows))
        ≡ filter (λ (q : ClassRow). same_chunk q.place.chunk c) (classes_in rows)
        → filter (λ (q : ClassRow). same_chunk q.place.chunk c) (classes_in
        (cond (not t) (Class r p ∷ without_loader u rows) (without_loader u rows)))
        ≡ filter (λ (q : ClassRow). same_chunk q.place.chunk c) (r ∷ classes_in rows)
    by_test true is rest = rw (none r (inl refl) (eqb-true r.loader u is)) rest
    by_test false is rest = ap
        (λ (l : List ClassRow). cond (same_chunk r.place.chunk c) (r ∷ l) l) rest

unused-without : (c : Chunk) (u : ℕ) (rows : List BareRow) → is_unused c rows ≡ true
    → is_unused c (without_loader u rows) ≡ true
unused-without c u [] h = refl
unused-without c u (Loader r ∷ rows) h = by_test (eqb r.number u) (unused-without c u rows h)
  where
    by_test : (t : Bool) → is_unused c (without_loader u rows) ≡ true
        → is_unused c
        (cond (not t) (Loader r ∷ without_loader u rows) (without_loader u rows)) ≡ true
    by_test true rest = rest
    by_test false rest = rest
unused-without c u (Class r p ∷ rows) h =
    by_test (λ k. unused-without c u rows k) (meets c r.place.chunk) refl (eqb r.loader u) h
  where
    by_test : (is_unused c rows ≡ true → is_unused c (without_loader u rows) ≡ true)
        → (s : Bool) → meets c r.place.chunk ≡ s → (t : Bool)
        → not (s || list_any (meets c) (map (λ (d : ClassRow). d.place.chunk) (classes_in rows)))
        ≡ true
        → is_unused c
        (cond (not t) (Class r p ∷ without_loader u rows) (without_loader u rows)) ≡ true
    by_test rest true is t free = absurd (cc)
    by_test rest false is true free = rest free
    by_test rest false is false free = rw is (rest free)

place-without : (u : ℕ) (pre : List BareRow) (r : ClassRow) → (r.loader ≡ u → ⊥)
    → AreApart (classes_in pre) → has_place pre r ≡ true → has_place (without_loader u pre) r ≡ true
unfolding on
place-without u pre r other apart h =
    let chunk = r.place.chunk in
    let on_last = is_last_chunk r.loader chunk pre in
    let behind = eqb r.place.offset (used_words chunk pre) in
    let front = eqb r.place.offset 0 in
    let unused = is_unused chunk pre in
    let on_last' = is_last_chunk r.loader chunk (without_loader u pre) in
    let behind' = eqb r.place.offset (used_words chunk (without_loader u pre)) in
    let unused' = is_unused chunk (without_loader u pre) in
    let last_same : on_last' ≡ on_last =
    ap (λ (o : Option Chunk). option_map_or (λ last. same_chunk last chunk) o false)
    (last-without r.loader u pre other) in
    elim (or_cases (on_last && behind) (front && unused) h) [
      | inl last ↦
          let parts = and_parts on_last behind last in
          let found = is_last_chunk-among r.loader chunk pre parts.0 in
          let none = λ (s : ClassRow) (m : Among s (classes_in pre)) (is : s.loader ≡ u).
          not_same s.place.chunk chunk (λ e. other
          (sym found.2
          ∙ sym (apart s found.0 m found.1
          (subst (λ (d : Chunk). Meets s.place.chunk d) (e ∙ sym found.3)
          (meets-itself s.place.chunk))).1 ∙ is)) in
          let used : used_words chunk (without_loader u pre) ≡ used_words chunk pre =
          ap (λ (l : List ClassRow). sum (map (λ (d : ClassRow). d.place.words) l))
          (on-without chunk u pre none) in
          or_left (on_last' && behind') (front && unused')
          (and_true on_last' behind' (last_same ∙ parts.0)
          (ap (λ (n : ℕ). eqb r.place.offset n) used ∙ parts.1))
      | inr new ↦
          let parts = and_parts front unused new in
          or_right (on_last' && behind') (front && unused')
          (and_true front unused' parts.0 (unused-without chunk u pre parts.1))
    ]

rule-without : (sizes : Sizes) (base u : ℕ) (pre : List BareRow) (row : BareRow)
    → is_of u row ≡ false → AreApart (classes_in pre) → broken_live_rule sizes base pre row ≡ None
    → broken_live_rule sizes base (without_loader u pre) row ≡ None
rule-without sizes base u pre (Loader r) other apart h =
    let k = loader_keeps sizes base pre r h in
    keeps_loader sizes base (without_loader u pre) r (record {
      from = k.from;
      to = k.to;
      above = numbers-without (λ n. nat_lt n r.number) u pre k.above;
      name = k.name;
      new = new-without r.name u pre k.new;
      room = room-without sizes u pre (Loader r) k.room;
    })
rule-without sizes base u pre (Class r p) other apart h =
    let k = class_keeps sizes pre r h in
    let differ = λ (e : r.loader ≡ u). no_both (eq-eqb r.loader u e) other in
    keeps_class sizes (without_loader u pre) r (record {
      live = live-without r.loader u pre differ k.live;
      room = room-without sizes u pre (Class r tt) k.room;
      chunk = k.chunk;
      words = k.words;
      within = k.within;
      place = place-without u pre r differ apart k.place;
    })

pub stay-without : (sizes : Sizes) (base u : ℕ) (pre rows : List BareRow)
    → AreApart (classes_in pre) → LiveRowsKeep sizes base pre rows
    → LiveRowsKeep sizes base (without_loader u pre) (without_loader u rows)
stay-without sizes base u pre [] apart k = tt
stay-without sizes base u pre (row ∷ rows) apart k =
    by_test (is_of u row) refl
    (stay-without sizes base u (pre ++ row ∷ []) rows (live-apart sizes base pre row apart k.1) k.2)
  where
    by_test : (t : Bool) → is_of u row ≡ t
        → LiveRowsKeep sizes base (without_loader u (pre ++ row ∷ [])) (without_loader u rows)
        → LiveRowsKeep sizes base (without_loader u pre)
        (cond (not t) (row ∷ without_loader u rows) (without_loader u rows))
    by_test true is rest =
        subst (λ (l : List BareRow). LiveRowsKeep sizes base l (without_loader u rows))
        (filter-append (λ (x : BareRow). not (is_of u x)) pre (row ∷ [])
        ∙ ap (λ (l : List BareRow). without_loader u pre ++ l) (rw is refl)
        ∙ append-nil (without_loader u pre)) rest
    by_test false is rest = (
      k.0,
      rule-without sizes base u pre row is apart k.1,
      subst (λ (l : List BareRow). LiveRowsKeep sizes base l (without_loader u rows))
          (filter-append (λ (x : BareRow). not (is_of u x)) pre (row ∷ [])
          ∙ ap (λ (l : List BareRow). without_loader u pre ++ l) (rw is refl)) rest,
    )

-- ---- a move

-- the chunk that takes a chunk's place
pub there : Chunk → Chunk → Chunk → Chunk
there from to c = cond (same_chunk c from) to c

class_there : (from to : Chunk) (r : ClassRow)
    → (moved_class from to r).place.chunk ≡ there from to r.place.chunk
unfolding moved_class there
class_there from to r = by_test (same_chunk r.place.chunk from)
  where
    by_test : (t : Bool)
        → (cond t (record r { place = record r.place { chunk = to } }) r).place.chunk
        ≡ cond t to r.place.chunk
    by_test true = refl
    by_test false = refl

class_loader : (from to : Chunk) (r : ClassRow) → (moved_class from to r).loader ≡ r.loader
unfolding moved_class
class_loader from to r = by_test (same_chunk r.place.chunk from)
  where
    by_test : (t : Bool)
        → (cond t (record r { place = record r.place { chunk = to } }) r).loader ≡ r.loader
    by_test true = refl
    by_test false = refl

class_words : (from to : Chunk) (r : ClassRow)
    → (moved_class from to r).place.words ≡ r.place.words
unfolding moved_class
class_words from to r = by_test (same_chunk r.place.chunk from)
  where
    by_test : (t : Bool)
        → (cond t (record r { place = record r.place { chunk = to } }) r).place.words
        ≡ r.place.words
    by_test true = refl
    by_test false = refl

pub numbers-moved : {A : Type 0} (from to : Chunk) (rows : List (Row A))
    → numbers_in (moved from to rows) ≡ numbers_in rows
numbers-moved from to [] = refl
numbers-moved from to (Loader r ∷ rows) = ap (λ l. r.number ∷ l) (numbers-moved from to rows)
numbers-moved from to (Class r p ∷ rows) =
    by_test (same_chunk r.place.chunk from) (numbers-moved from to rows)
  where
    by_test : (t : Bool) → numbers_in (moved from to rows) ≡ numbers_in rows
        → numbers_in (cond t (Class (record r { place = record r.place { chunk = to } }) p)
        (Class r p)
        ∷ moved from to rows) ≡ numbers_in rows
    by_test true rest = rest
    by_test false rest = rest

pub number-moved : {A : Type 0} (x : List ℕ) (from to : Chunk) (rows : List (Row A))
    → number_of x (moved from to rows) ≡ number_of x rows
number-moved x from to [] = refl
number-moved x from to (Loader r ∷ rows) =
    ap (λ (o : Option ℕ). cond (bytes_eq r.name x) (Some r.number) o) (number-moved x from to rows)
number-moved x from to (Class r p ∷ rows) =
    by_test (same_chunk r.place.chunk from) (number-moved x from to rows)
  where
    by_test : (t : Bool) → number_of x (moved from to rows) ≡ number_of x rows
        → number_of x (cond t (Class (record r { place = record r.place { chunk = to } }) p)
        (Class r p)
        ∷ moved from to rows) ≡ number_of x rows
    by_test true rest = rest
    by_test false rest = rest

pub name-moved : (u : ℕ) (from to : Chunk) (rows : List BareRow)
    → name_of u (moved from to rows) ≡ name_of u rows
name-moved u from to [] = refl
name-moved u from to (Loader r ∷ rows) =
    ap (λ (o : Option (List ℕ)). cond (eqb r.number u) (Some r.name) o) (name-moved u from to rows)
name-moved u from to (Class r p ∷ rows) =
    by_test (same_chunk r.place.chunk from) (name-moved u from to rows)
  where
    by_test : (t : Bool) → name_of u (moved from to rows) ≡ name_of u rows
        → name_of u (cond t (Class (record r { place = record r.place { chunk = to } }) p)
        (Class r p)
        ∷ moved from to rows) ≡ name_of u rows
    by_test true rest = rest
    by_test false rest = rest

last-moved : (v : ℕ) (from to : Chunk) (classes : List ClassRow)
    → last_chunk v (map (moved_class from to) classes)
    ≡ option_map (there from to) (last_chunk v classes)
last-moved v from to [] = refl
last-moved v from to (r ∷ classes) =
    by_rest (last_chunk v (map (moved_class from to) classes)) (last_chunk v classes)
    (last-moved v from to classes)
  where
    by_rest : (p o : Option Chunk) → p ≡ option_map (there from to) o
        → elim p [
          | Some d ↦ Some d
          | None ↦ cond (eqb (moved_class from to r).loader v)
              (Some (moved_class from to r).place.chunk) None
        ]
        ≡ option_map (there from to)
        (elim o [ Some d ↦ Some d | None ↦ cond (eqb r.loader v) (Some r.place.chunk) None ])
    by_rest p (Some d) e = rw e refl
    by_rest p None e =
        rw e (rw (class_loader from to r) (rw (class_there from to r) (by_test (eqb r.loader v))))
      where
        by_test : (t : Bool) → cond t (Some (there from to r.place.chunk)) None
            ≡ option_map (there from to) (cond t (Some r.place.chunk) None)
        by_test true = refl
        by_test false = refl

-- the words of records on a chunk
words_on : Chunk → List ClassRow → List ℕ
words_on c classes = map (λ (r : ClassRow). r.place.words) (filter
    (λ (r : ClassRow). same_chunk r.place.chunk c) classes)

-- the words on a chunk that isn't one of the move's, and on the new one, which had none
words-elsewhere : (c from to : Chunk) (classes : List ClassRow) → same_chunk from c ≡ false
    → same_chunk to c ≡ false → words_on c (map (moved_class from to) classes) ≡ words_on c classes
unfolding words_on moved_class
words-elsewhere c from to [] f t = refl
words-elsewhere c from to (r ∷ classes) f t =
    by_test (same_chunk r.place.chunk from) refl (words-elsewhere c from to classes f t)
  where
    by_test : (s : Bool) → same_chunk r.place.chunk from ≡ s
        → words_on c (map (moved_class from to) classes) ≡ words_on c classes
        → words_on c (cond s (record r { place = record r.place { chunk = to } }) r
        ∷ map (moved_class from to) classes)
        ≡ words_on c (r ∷ classes)
    by_test true is rest =
        let here : same_chunk r.place.chunk c ≡ false =
        subst (λ (d : Chunk). same_chunk d c ≡ false)
        (sym (same_chunk-true r.place.chunk from is)) f in
        rw t (rw here rest)
    by_test false is rest =
        by_chunk (same_chunk r.place.chunk c)
      where
        by_chunk : (q : Bool)
            → map (λ (d : ClassRow). d.place.words) (cond q (r ∷ filter
            (λ (d : ClassRow). same_chunk d.place.chunk c) (map (moved_class from to) classes))
            (filter (λ (d : ClassRow). same_chunk d.place.chunk c)
            (map (moved_class from to) classes)))
            ≡ map (λ (d : ClassRow). d.place.words) (cond q (r ∷ filter
            (λ (d : ClassRow). same_chunk d.place.chunk c) classes) (filter
            (λ (d : ClassRow). same_chunk d.place.chunk c) classes))
        by_chunk true = ap (λ (l : List ℕ). r.place.words ∷ l) rest
        by_chunk false = rest

words-onto : (from to : Chunk) (classes : List ClassRow)
    → ((s : ClassRow) → Among s classes → same_chunk s.place.chunk to ≡ false)
    → words_on to (map (moved_class from to) classes) ≡ words_on from classes
unfolding words_on moved_class
words-onto from to [] none = refl
words-onto from to (r ∷ classes) none =
    by_test (same_chunk r.place.chunk from) (words-onto from to classes (λ s m. none s (inr m)))
  where
    by_test : (s : Bool)
        → words_on to (map (moved_class from to) classes) ≡ words_on from classes
        → map (λ (d : ClassRow). d.place.words) (filter
        (λ (d : ClassRow). same_chunk d.place.chunk to)
        (cond s (record r { place = record r.place { chunk = to } }) r
        ∷ map (moved_class from to) classes))
        ≡ map (λ (d : ClassRow). d.place.words) (cond s (r ∷ filter
        (λ (d : ClassRow). same_chunk d.place.chunk from) classes) (filter
        (λ (d : ClassRow). same_chunk d.place.chunk from) classes))
    by_test true rest = rw (same_chunk-itself to) (ap (λ (l : List ℕ). r.place.words ∷ l) rest)
    by_test false rest = rw (none r (inl refl)) rest

unused-moved : (c from to : Chunk) (classes : List ClassRow) → meets c to ≡ false
    → not (list_any (meets c) (map (λ (r : ClassRow). r.place.chunk) classes)) ≡ true
    → not (list_any (meets c) (map
    (λ (r : ClassRow). r.place.chunk) (map (moved_class from to) classes))) ≡ true
unfolding moved_class
unused-moved c from to [] apart h = refl
unused-moved c from to (r ∷ classes) apart h =
    by_test (λ k. unused-moved c from to classes apart k) (same_chunk r.place.chunk from)
    (meets c r.place.chunk) refl h
  where
    by_test : (not (list_any (meets c) (map (λ (d : ClassRow). d.place.chunk) classes)) ≡ true
        → not (list_any (meets c) (map
        (λ (d : ClassRow). d.place.chunk) (map (moved_class from to) classes))) ≡ true)
        → (s q : Bool) → meets c r.place.chunk ≡ q
        → not (q || list_any (meets c) (map (λ (d : ClassRow). d.place.chunk) classes)) ≡ true
        → not (meets c (cond s (record r { place = record r.place { chunk = to } }) r).place.chunk
        || list_any (meets c) (map
        (λ (d : ClassRow). d.place.chunk) (map (moved_class from to) classes))) ≡ true
    by_test rest s true is free = absurd (cc)
    by_test rest true false is free = rw apart (rest free)
    by_test rest false false is free = rw is (rest free)

-- if nothing is on a chunk, nothing moves
none_moved : (from to : Chunk) (classes : List ClassRow)
    → not (list_any (meets from) (map (λ (r : ClassRow). r.place.chunk) classes)) ≡ true
    → map (moved_class from to) classes ≡ classes
unfolding moved_class
none_moved from to [] h = refl
none_moved from to (r ∷ classes) h =
    by_test (λ k. none_moved from to classes k) (same_chunk r.place.chunk from)
    (meets from r.place.chunk) refl refl h
  where
    by_test : (not (list_any (meets from) (map (λ (d : ClassRow). d.place.chunk) classes)) ≡ true
        → map (moved_class from to) classes ≡ classes)
        → (s q : Bool) → same_chunk r.place.chunk from ≡ s → meets from r.place.chunk ≡ q
        → not (q || list_any (meets from) (map (λ (d : ClassRow). d.place.chunk) classes)) ≡ true
        → cond s (record r { place = record r.place { chunk = to } }) r
        ∷ map (moved_class from to) classes
        ≡ r ∷ classes
    by_test rest s true is met free = absurd (cc)
    by_test rest true false is met free =
        let itself : meets from r.place.chunk ≡ true =
        subst (λ (d : Chunk). meets from d ≡ true) (sym (same_chunk-true r.place.chunk from is))
        (meets-true from from (meets-itself from)) in
        absurd (no_both itself met)
    by_test rest false false is met free = ap (λ (l : List ClassRow). r ∷ l) (rest free)

-- a chunk that no row uses, one row at a time
NoneMeets : Chunk → List ClassRow → Type 0
NoneMeets c classes = (s : ClassRow) → Among s classes → meets c s.place.chunk ≡ false

none_meets : (c : Chunk) (classes : List ClassRow)
    → not (list_any (meets c) (map (λ (r : ClassRow). r.place.chunk) classes)) ≡ true
    → NoneMeets c classes
unfolding NoneMeets
none_meets c [] h s none = absurd none
none_meets c (r ∷ classes) h s m =
    by_test (λ k j. none_meets c classes k s j) (meets c r.place.chunk) refl h m
  where
    by_test : (not (list_any (meets c) (map (λ (d : ClassRow). d.place.chunk) classes)) ≡ true
        → Among s classes → meets c s.place.chunk ≡ false)
        → (q : Bool) → meets c r.place.chunk ≡ q
        → not (q || list_any (meets c) (map (λ (d : ClassRow). d.place.chunk) classes)) ≡ true
        → Among s (r ∷ classes) → meets c s.place.chunk ≡ false
    by_test rest true is free m = absurd (cc)
    by_test rest false is free (inl e) =
        subst (λ (d : ClassRow). meets c d.place.chunk ≡ false) (sym e) is
    by_test rest false is free (inr later) = rest free later

none-of : (c : Chunk) (classes : List ClassRow) → NoneMeets c classes → (s : ClassRow)
    → Among s classes → meets c s.place.chunk ≡ false
unfolding NoneMeets
none-of c classes none s m = none s m

all_unused : (c : Chunk) (classes : List ClassRow) → NoneMeets c classes
    → not (list_any (meets c) (map (λ (r : ClassRow). r.place.chunk) classes)) ≡ true
unfolding NoneMeets
all_unused c [] none = refl
all_unused c (r ∷ classes) none =
    rw (none r (inl refl)) (all_unused c classes (λ s m. none s (inr m)))

eqb-turned : (a b : ℕ) → eqb a b ≡ eqb b a
eqb-turned a b = by_test (eqb a b) (eqb b a) refl refl
  where
    by_test : (s t : Bool) → eqb a b ≡ s → eqb b a ≡ t → s ≡ t
    by_test true true p q = refl
    by_test false false p q = refl
    by_test true false p q = absurd (no_both (eq-eqb b a (sym (eqb-true a b p))) q)
    by_test false true p q = absurd (no_both (eq-eqb a b (sym (eqb-true b a q))) p)

meets-turned-test : (a b : Chunk) → meets a b ≡ meets b a
meets-turned-test a b =
    let low : max a.at b.at ≡ max b.at a.at = omega arith in
    let high : min (a.at + chunk_size a.order) (b.at + chunk_size b.order)
    ≡ min (b.at + chunk_size b.order) (a.at + chunk_size a.order) = omega arith in
    (λ i. eqb-turned a.root b.root i && nat_lt (low i) (high i))

not_met-differs : (c d : Chunk) → meets c d ≡ false → same_chunk d c ≡ false
not_met-differs c d apart = not_same d c (λ e. no_both
    (subst (λ (x : Chunk). meets c x ≡ true) (sym e) (meets-true c c (meets-itself c))) apart)

same-turned : (c d : Chunk) → same_chunk c d ≡ false → same_chunk d c ≡ false
same-turned c d differ = not_same d c (λ e. no_both
    (subst (λ (x : Chunk). same_chunk c x ≡ true) (sym e) (same_chunk-itself c)) differ)

used-words : (c : Chunk) (rows : List BareRow)
    → used_words c rows ≡ sum (words_on c (classes_in rows))
unfolding words_on
used-words c rows = refl

last_kept : (c from to : Chunk) (o : Option Chunk) → same_chunk c from ≡ false
    → option_map_or (λ last. same_chunk last c) o false ≡ true
    → option_map_or (λ last. same_chunk last c) (option_map (there from to) o) false ≡ true
unfolding there
last_kept c from to None differ h = h
last_kept c from to (Some l) differ h =
    let e : l ≡ c = same_chunk-true l c h in
    let stays : same_chunk l from ≡ false =
    subst (λ (d : Chunk). same_chunk d from ≡ false) (sym e) differ in
    rw stays h

last_there : (from to : Chunk) (o : Option Chunk)
    → option_map_or (λ last. same_chunk last from) o false ≡ true
    → option_map_or (λ last. same_chunk last to) (option_map (there from to) o) false ≡ true
unfolding there
last_there from to None h = absurd (cc)
last_there from to (Some l) h = rw h (same_chunk-itself to)

pub last_chunk-moved : (v : ℕ) (from to : Chunk) (rows : List BareRow)
    → last_chunk v (classes_in (moved from to rows))
    ≡ option_map (there from to) (last_chunk v (classes_in rows))
last_chunk-moved v from to rows =
    ap (last_chunk v) (classes_in-moved from to rows) ∙ last-moved v from to (classes_in rows)

-- a row that stays where it is keeps its place among the rows that moved
place-kept : (from to : Chunk) (pre : List BareRow) (r : ClassRow)
    → same_chunk r.place.chunk from ≡ false → meets to r.place.chunk ≡ false
    → has_place pre r ≡ true → has_place (moved from to pre) r ≡ true
place-kept from to pre r differ apart h =
    let chunk = r.place.chunk in
    let on_last = is_last_chunk r.loader chunk pre in
    let behind = eqb r.place.offset (used_words chunk pre) in
    let front = eqb r.place.offset 0 in
    let unused = is_unused chunk pre in
    let on_last' = is_last_chunk r.loader chunk (moved from to pre) in
    let behind' = eqb r.place.offset (used_words chunk (moved from to pre)) in
    let unused' = is_unused chunk (moved from to pre) in
    elim (or_cases (on_last && behind) (front && unused) h) [
      | inl last ↦
          let parts = and_parts on_last behind last in
          let stays =
          last_kept chunk from to (last_chunk r.loader (classes_in pre)) differ parts.0 in
          let last' : on_last' ≡ true =
          subst (λ (o : Option Chunk). option_map_or (λ d. same_chunk d chunk) o false ≡ true)
          (sym (last_chunk-moved r.loader from to pre)) stays in
          let used : used_words chunk (moved from to pre) ≡ used_words chunk pre =
          used-words chunk (moved from to pre)
          ∙ ap (λ (l : List ClassRow). sum (words_on chunk l)) (classes_in-moved from to pre)
          ∙ ap sum (words-elsewhere chunk from to (classes_in pre)
          (same-turned chunk from differ) (same-turned chunk to (not_met-differs to chunk apart)))
          ∙ sym (used-words chunk pre) in
          or_left (on_last' && behind') (front && unused')
          (and_true on_last' behind' last'
          (ap (λ (n : ℕ). eqb r.place.offset n) used ∙ parts.1))
      | inr new ↦
          let parts = and_parts front unused new in
          let free = unused-moved chunk from to (classes_in pre)
          (meets-turned-test chunk to ∙ apart) parts.1 in
          let free' : unused' ≡ true =
          subst (λ (l : List ClassRow). not (list_any (meets chunk) (map
          (λ (d : ClassRow). d.place.chunk) l)) ≡ true)
          (sym (classes_in-moved from to pre)) free in
          or_right (on_last' && behind') (front && unused') (and_true front unused' parts.0 free')
    ]

-- a row that moves
onto : Chunk → ClassRow → ClassRow
onto to r = record r { place = record r.place { chunk = to } }

place-onto : (from to : Chunk) (pre : List BareRow) (r : ClassRow) → r.place.chunk ≡ from
    → NoneMeets to (classes_in pre) → has_place pre r ≡ true
    → has_place (moved from to pre) (onto to r) ≡ true
unfolding onto
place-onto from to pre r is none h =
    let on_last = is_last_chunk r.loader from pre in
    let behind = eqb r.place.offset (used_words from pre) in
    let front = eqb r.place.offset 0 in
    let unused = is_unused from pre in
    let on_last' = is_last_chunk r.loader to (moved from to pre) in
    let behind' = eqb r.place.offset (used_words to (moved from to pre)) in
    let unused' = is_unused to (moved from to pre) in
    let here : ((on_last && behind) || (front && unused)) ≡ true =
    subst (λ (c : Chunk). ((is_last_chunk r.loader c pre && eqb r.place.offset (used_words c pre))
    || (front && is_unused c pre)) ≡ true) is h in
    elim (or_cases (on_last && behind) (front && unused) here) [
      | inl last ↦
          let parts = and_parts on_last behind last in
          let goes = last_there from to (last_chunk r.loader (classes_in pre)) parts.0 in
          let last' : on_last' ≡ true =
          subst (λ (o : Option Chunk). option_map_or (λ d. same_chunk d to) o false ≡ true)
          (sym (last_chunk-moved r.loader from to pre)) goes in
          let used : used_words to (moved from to pre) ≡ used_words from pre =
          used-words to (moved from to pre)
          ∙ ap (λ (l : List ClassRow). sum (words_on to l)) (classes_in-moved from to pre)
          ∙ ap sum (words-onto from to (classes_in pre)
          (λ s m. not_met-differs to s.place.chunk (none-of to (classes_in pre) none s m)))
          ∙ sym (used-words from pre) in
          or_left (on_last' && behind') (front && unused')
          (and_true on_last' behind' last'
          (ap (λ (n : ℕ). eqb r.place.offset n) used ∙ parts.1))
      | inr new ↦
          let parts = and_parts front unused new in
          let same = classes_in-moved from to pre ∙ none_moved from to (classes_in pre) parts.1 in
          let free' : unused' ≡ true =
          subst (λ (l : List ClassRow). not (list_any (meets to) (map
          (λ (d : ClassRow). d.place.chunk) l)) ≡ true)
          (sym same) (all_unused to (classes_in pre) none) in
          or_right (on_last' && behind') (front && unused') (and_true front unused' parts.0 free')
    ]

-- ---- a row after a move keeps the rules

used_first : (r : ClassRow) (rows : List BareRow)
    → r.place.words ≤ used_words r.place.chunk (Class r (tt {0}) ∷ rows)
used_first r rows =
    let split = used-append r.place.chunk (Class r (tt {0}) ∷ []) rows in
    let one : used_words r.place.chunk (Class r (tt {0}) ∷ []) ≡ r.place.words =
    rw (same_chunk-itself r.place.chunk) (omega arith) in
    omega (arith, split, one)

room-moved : (sizes : Sizes) (from to : Chunk) (pre : List BareRow) (row : BareRow)
    → has_room sizes pre row ≡ true → has_room sizes (moved from to pre) row ≡ true
room-moved sizes from to pre row h =
    ap (λ (n : ℕ). nat_le (n + slots_of_row row) (row_limit sizes)) (slots-moved from to pre) ∙ h

loader-moved : (sizes : Sizes) (base : ℕ) (from to : Chunk) (pre : List BareRow) (r : LoaderRow)
    → broken_live_rule sizes base pre (Loader r) ≡ None
    → broken_live_rule sizes base (moved from to pre) (Loader r) ≡ None
loader-moved sizes base from to pre r h =
    let k = loader_keeps sizes base pre r h in
    keeps_loader sizes base (moved from to pre) r (record {
      from = k.from;
      to = k.to;
      above = ap (list_all (λ u. nat_lt u r.number)) (numbers-moved from to pre) ∙ k.above;
      name = k.name;
      new = ap is_none (number-moved r.name from to pre) ∙ k.new;
      room = room-moved sizes from to pre (Loader r) k.room;
    })

class-kept : (sizes : Sizes) (base : ℕ) (from to : Chunk) (pre : List BareRow) (r : ClassRow)
    → same_chunk r.place.chunk from ≡ false → meets to r.place.chunk ≡ false
    → broken_live_rule sizes base pre (Class r tt) ≡ None
    → broken_live_rule sizes base (moved from to pre) (Class r tt) ≡ None
class-kept sizes base from to pre r differ apart h =
    let k = class_keeps sizes pre r h in
    keeps_class sizes (moved from to pre) r (record {
      live = ap is_some (name-moved r.loader from to pre) ∙ k.live;
      room = room-moved sizes from to pre (Class r tt) k.room;
      chunk = k.chunk;
      words = k.words;
      within = k.within;
      place = place-kept from to pre r differ apart k.place;
    })

class-onto : (sizes : Sizes) (base : ℕ) (from to : Chunk) (pre rows : List BareRow) (r : ClassRow)
    → r.place.chunk ≡ from → NoneMeets to (classes_in pre) → is_chunk sizes to ≡ true
    → used_words from (pre ++ Class r tt ∷ rows) ≤ chunk_size to.order
    → broken_live_rule sizes base pre (Class r tt) ≡ None
    → broken_live_rule sizes base (moved from to pre) (Class (onto to r) tt) ≡ None
unfolding onto
class-onto sizes base from to pre rows r is none lawful small h =
    let k = class_keeps sizes pre r h in
    let begins = begins_behind pre r k.place in
    let first = used_first r rows in
    let all = used-append from pre (Class r tt ∷ rows) in
    let begins_here : r.place.offset ≤ used_words from pre =
    subst (λ (c : Chunk). r.place.offset ≤ used_words c pre) is begins in
    let first_here : r.place.words ≤ used_words from (Class r tt ∷ rows) =
    subst (λ (c : Chunk). r.place.words ≤ used_words c (Class r tt ∷ rows)) is first in
    keeps_class sizes (moved from to pre) (onto to r) (record {
      live = ap is_some (name-moved r.loader from to pre) ∙ k.live;
      room = room-moved sizes from to pre (Class r tt) k.room;
      chunk = lawful;
      words = k.words;
      within = le-leb (r.place.offset + r.place.words) (chunk_size to.order)
          (omega (arith, begins_here, first_here, all, small));
      place = place-onto from to pre r is none k.place;
    })

class-onto' : (sizes : Sizes) (base : ℕ) (from to : Chunk) (pre rows : List BareRow) (r : ClassRow)
    → r.place.chunk ≡ from → NoneMeets to (classes_in pre) → is_chunk sizes to ≡ true
    → used_words from (pre ++ Class r (tt {0}) ∷ rows) ≤ chunk_size to.order
    → broken_live_rule sizes base pre (Class r (tt {0})) ≡ None
    → broken_live_rule sizes base (moved from to pre)
    (Class (record r { place = record r.place { chunk = to } }) (tt {0})) ≡ None
unfolding onto
class-onto' sizes base from to pre rows r is none lawful small h =
    class-onto sizes base from to pre rows r is none lawful small h

meets-none : (to : Chunk) (pre : List BareRow) (r : ClassRow) → NoneMeets to (classes_in pre)
    → meets to r.place.chunk ≡ false → NoneMeets to (classes_in (pre ++ Class r (tt {0}) ∷ []))
unfolding NoneMeets
meets-none to pre r none one s m =
    by_place (among-push s r (classes_in pre)
    (subst (λ (l : List ClassRow). Among s l) (classes_in-append pre (Class r (tt {0}) ∷ [])) m))
  where
    by_place : Among s (classes_in pre) ⊎ (s ≡ r) → meets to s.place.chunk ≡ false
    by_place (inl there_it_is) = none s there_it_is
    by_place (inr e) = subst (λ (d : ClassRow). meets to d.place.chunk ≡ false) (sym e) one

loader-none : (to : Chunk) (pre : List BareRow) (r : LoaderRow) → NoneMeets to (classes_in pre)
    → NoneMeets to (classes_in (pre ++ Loader r ∷ []))
loader-none to pre r none =
    subst (NoneMeets to) (sym (classes_in-append pre (Loader r ∷ []) ∙ append-nil (classes_in pre)))
    none

later-none : (to : Chunk) (r : ClassRow) (classes : List ClassRow) → NoneMeets to (r ∷ classes)
    → NoneMeets to classes
unfolding NoneMeets
later-none to r classes none s m = none s (inr m)

stay-moved : (sizes : Sizes) (base : ℕ) (from to : Chunk) (pre rows : List BareRow)
    → FitsChunk to → is_chunk sizes to ≡ true → NoneMeets to (classes_in pre)
    → NoneMeets to (classes_in rows) → used_words from (pre ++ rows) ≤ chunk_size to.order
    → LiveRowsKeep sizes base pre rows
    → LiveRowsKeep sizes base (moved from to pre) (moved from to rows)
stay-moved sizes base from to pre [] fits lawful none later small k = tt
stay-moved sizes base from to pre (Loader r ∷ rows) fits lawful none later small k =
    let rest = stay-moved sizes base from to (pre ++ Loader r ∷ []) rows fits lawful
    (loader-none to pre r none) later
    (subst (λ (l : List BareRow). used_words from l ≤ chunk_size to.order)
    (sym (append_assoc pre (Loader r ∷ []) rows)) small) k.2 in (
      k.0,
      loader-moved sizes base from to pre r k.1,
      subst (λ (l : List BareRow). LiveRowsKeep sizes base l (moved from to rows))
          (map-append (moved_row from to) pre (Loader r ∷ [])) rest,
    )
stay-moved sizes base from to pre (Class r p ∷ rows) fits lawful none later small k =
    by_test (same_chunk r.place.chunk from) refl
    (subst (λ (l : List BareRow). LiveRowsKeep sizes base l (moved from to rows))
    (map-append (moved_row from to) pre (Class r (tt {0}) ∷ []))
    (stay-moved sizes base from to (pre ++ Class r (tt {0}) ∷ []) rows fits lawful
    (meets-none to pre r none (none-of to (r ∷ classes_in rows) later r (inl refl)))
    (later-none to r (classes_in rows) later)
    (subst (λ (l : List BareRow). used_words from l ≤ chunk_size to.order)
    (sym (append_assoc pre (Class r (tt {0}) ∷ []) rows)) small) k.2))
  where
    class-onto-row : same_chunk r.place.chunk from ≡ true
        → broken_live_rule sizes base (moved from to pre)
        (Class (record r { place = record r.place { chunk = to } }) (tt {0})) ≡ None
    class-onto-row is =
        class-onto' sizes base from to pre rows r (same_chunk-true r.place.chunk from is)
        none lawful small k.1

    by_test : (t : Bool) → same_chunk r.place.chunk from ≡ t
        → LiveRowsKeep sizes base (moved from to pre ++ moved_row from to (Class r (tt {0})) ∷ [])
        (moved from to rows)
        → LiveRowsKeep sizes base (moved from to pre)
        (cond t (Class (record r { place = record r.place { chunk = to } }) (tt {0}))
        (Class r (tt {0}))
        ∷ moved from to rows)
    by_test true is rest = (
      record { words = k.0.words; loader = k.0.loader; chunk = fits; offset = k.0.offset },
      class-onto-row is,
      subst (λ (x : BareRow). LiveRowsKeep sizes base (moved from to pre ++ x ∷ [])
          (moved from to rows))
          (rw is refl) rest,
    )
    by_test false is rest = (
      k.0,
      class-kept sizes base from to pre r is
          (none-of to (r ∷ classes_in rows) later r (inl refl)) k.1,
      subst (λ (x : BareRow). LiveRowsKeep sizes base (moved from to pre ++ x ∷ [])
          (moved from to rows))
          (rw is refl) rest,
    )

-- ---- entries and groups

none_apart : AreApart (classes_in {P = Unit {0}} [])
none_apart x y mx my m = absurd mx

none_at_all : (c : Chunk) → NoneMeets c []
unfolding NoneMeets
none_at_all c s m = absurd m

-- loaders' numbers are those of past commands
AreBelow : ℕ → List ℕ → Type 0
AreBelow n [] = Unit {0}
AreBelow n (u ∷ numbers) = (u ≤ n) × AreBelow n numbers

numbers-past : (sizes : Sizes) (n : ℕ) (pre rows : List BareRow) → LiveRowsKeep sizes n pre rows
    → AreBelow n (numbers_in rows)
unfolding AreBelow
numbers-past sizes n pre [] k = tt
numbers-past sizes n pre (Loader r ∷ rows) k = (
  leb-true r.number n (loader_keeps sizes n pre r k.1).to,
  numbers-past sizes n (pre ++ Loader r ∷ []) rows k.2,
)
numbers-past sizes n pre (Class r p ∷ rows) k =
    numbers-past sizes n (pre ++ Class r p ∷ []) rows k.2

below_all : (n : ℕ) (numbers : List ℕ) → AreBelow n numbers
    → list_all (λ u. nat_lt u (n + 1)) numbers ≡ true
unfolding AreBelow
below_all n [] h = refl
below_all n (u ∷ numbers) h =
    and_true (nat_lt u (n + 1)) (list_all (λ v. nat_lt v (n + 1)) numbers)
    (lt-ltb u (n + 1) (omega (arith, h.0))) (below_all n numbers h.1)

stay-without_all : (sizes : Sizes) (base : ℕ) (us : List ℕ) (rows : List BareRow)
    → LiveRowsKeep sizes base [] rows → LiveRowsKeep sizes base [] (without_loaders us rows)
stay-without_all sizes base [] rows k = k
stay-without_all sizes base (u ∷ us) rows k =
    stay-without_all sizes base us (without_loader u rows)
    (stay-without sizes base u [] rows none_apart k)

loader-live : (sizes : Sizes) (n : ℕ) (rows : List BareRow) (r : LoaderRow)
    → LiveRowsKeep sizes n [] rows → broken_rule sizes rows (n + 1) (entry.Live (Loader r)) ≡ None
    → broken_live_rule sizes (n + 1) rows (Loader r) ≡ None
loader-live sizes n rows r k h =
    let own = eqb r.number (n + 1) in
    let fresh = is_new_loader sizes rows r in
    let parts = and_parts own fresh (rule_kept (own && fresh) OnRows h) in
    let name = is_loader_name r.name in
    let new = is_none (number_of r.name rows) in
    let room = has_room sizes rows (Loader r) in
    let rest = and_parts (name && new) room parts.1 in
    let number : r.number ≡ n + 1 = eqb-true r.number (n + 1) parts.0 in
    keeps_loader sizes (n + 1) rows r (record {
      from = le-leb 1 r.number (omega (arith, number));
      to = le-leb r.number (n + 1) (omega (arith, number));
      above = subst (λ (m : ℕ). list_all (λ u. nat_lt u m) (numbers_in rows) ≡ true) (sym number)
          (below_all n (numbers_in rows) (numbers-past sizes n [] rows k));
      name = (and_parts name new rest.0).0;
      new = (and_parts name new rest.0).1;
      room = rest.1;
    })

pub entry-live : (sizes : Sizes) (rows : List BareRow) (n : ℕ) (e : BareEntry)
    → AreApart (classes_in rows) → LiveRowsKeep sizes n [] rows → FitsEntry e
    → broken_rule sizes rows (n + 1) e ≡ None → LiveRowsKeep sizes (n + 1) [] (rows_after rows e)
entry-live sizes rows n (entry.Live (Loader r)) apart k fits h =
    live-append sizes (n + 1) [] rows (Loader r)
    (live-higher sizes n (n + 1) [] rows (omega arith) k)
    fits (loader-live sizes n rows r k h)
entry-live sizes rows n (entry.Live (Class r p)) apart k fits h =
    live-append sizes (n + 1) [] rows (Class r p)
    (live-higher sizes n (n + 1) [] rows (omega arith) k)
    fits h
entry-live sizes rows n (entry.Unload e) apart k fits h =
    stay-without sizes (n + 1) e.loader [] rows none_apart
    (live-higher sizes n (n + 1) [] rows (omega arith) k)
entry-live sizes rows n (entry.Move e) apart k fits h =
    let last = is_last_chunk e.loader e.from rows in
    let lawful = is_chunk sizes e.to in
    let unused = is_unused e.to rows in
    let room = nat_le (used_words e.from rows) (chunk_size e.to.order) in
    let parts =
    and_parts (last && lawful && unused) room (rule_kept (move_fits sizes rows e) OnChunks h) in
    let front = and_parts (last && lawful) unused parts.0 in
    stay-moved sizes (n + 1) e.from e.to [] rows fits.to (and_parts last lawful front.0).1
    (none_at_all e.to)
    (none_meets e.to (classes_in rows) front.1)
    (leb-true (used_words e.from rows) (chunk_size e.to.order) parts.1)
    (live-higher sizes n (n + 1) [] rows (omega arith) k)
entry-live sizes rows n (entry.UnloadAll e) apart k fits h =
    stay-without_all sizes (n + 1) e.loaders rows
    (live-higher sizes n (n + 1) [] rows (omega arith) k)

entries-live : (sizes : Sizes) (rows : List BareRow) (n : ℕ) (entries : List BareEntry)
    → AreApart (classes_in rows) → LiveRowsKeep sizes n [] rows → EntriesKeep sizes rows n entries
    → LiveRowsKeep sizes (n + length entries) [] (rows_after_all rows entries)
entries-live sizes rows n [] apart k keep =
    subst (λ (m : ℕ). LiveRowsKeep sizes m [] rows) (omega arith) k
entries-live sizes rows n (e ∷ entries) apart k keep =
    subst (λ (m : ℕ). LiveRowsKeep sizes m [] (rows_after_all (rows_after rows e) entries))
    (omega arith)
    (entries-live sizes (rows_after rows e) (n + 1) entries
    (entry-apart sizes rows (n + 1) e apart keep.1)
    (entry-live sizes rows n e apart k keep.0 keep.1)
    keep.2)

groups-live : (sizes : Sizes) (rows : List BareRow) (n : ℕ) (groups : List (List BareEntry))
    → AreApart (classes_in rows) → LiveRowsKeep sizes n [] rows → GroupsKeep sizes rows n groups
    → LiveRowsKeep sizes (n + length (flat_map (λ g. g) groups)) []
    (rows_after_all rows (flat_map (λ g. g) groups))
groups-live sizes rows n [] apart k keep =
    subst (λ (m : ℕ). LiveRowsKeep sizes m [] rows) (omega arith) k
groups-live sizes rows n (group ∷ groups) apart k keep =
    let more = flat_map (λ (g : List BareEntry). g) groups in
    let here = groups-live sizes (rows_after_all rows group) (n + length group) groups
    (entries-apart sizes rows n group apart keep.0.entries)
    (entries-live sizes rows n group apart k keep.0.entries) keep.1 in
    subst (λ (l : List BareRow). LiveRowsKeep sizes (n + length (group ++ more)) [] l)
    (sym (rows_after_all-append rows group more))
    (subst (λ (m : ℕ). LiveRowsKeep sizes m [] (rows_after_all (rows_after_all rows group) more))
    (omega (arith, length-append group more)) here)

pub live_rows_stay : RowsStayLive
live_rows_stay sizes h good =
    groups-live sizes h.live h.head.base h.groups
    (live_rows-apart sizes h.head.base [] h.live none_apart good.live) good.live good.groups
