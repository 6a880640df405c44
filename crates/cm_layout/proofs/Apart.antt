-- Chunks of rows that keep the rules share no word, except those with records of one loader on one
-- chunk.
-- For `live_rows_go_on` and others.
use Rattle.std.proofs.Common.{◌≡◌, ℕ, ◌+◌, ◌⊎◌, Bool, true, false, cond, List, [], ◌∷◌}
use Rattle.std.proofs.Common.{◌++◌, length, map, Some, None, inl, inr, refl, sym, ap, subst}
use Rattle.std.proofs.Common.{◌∙◌, append_assoc, append-nil, eqb}
use Rattle.std.specs.Prelude.{not, ◌&&◌, nat_le}
use Rattle.std.specs.List.{flat_map}
use Rattle.std.proofs.lemmas.Bool.{and_parts, or_cases}
use Rattle.cm_pool.specs.declared.chunk.Chunk.{Chunk}
use Rattle.cm_pool.specs.Chunks.{chunk_size, same_chunk, Meets}
use Rattle.cm_pool.specs.Geometry.{Sizes}
use Rattle.cm_pool.specs.Lists.{Among}
use Rattle.cm_pool.proofs.{same_chunk-true, meets-turned, meets-itself, among-push}
use Rattle.cm_layout.specs.declared.class_row.ClassRow.{ClassRow}
use Rattle.cm_layout.specs.declared.row.Row.TheVariants.{Loader, Class}
use Rattle.cm_layout.specs.declared.entry.Entry.TheVariants as entry
use Rattle.cm_layout.specs.declared.entry_rule.EntryRule.{EntryRule}
use Rattle.cm_layout.specs.declared.entry_rule.EntryRule.TheVariants.{OnChunks}
use Rattle.cm_layout.specs.Rows.{classes_in, used_words, without_loader, without_loaders}
use Rattle.cm_layout.specs.Rows.{moved}
use Rattle.cm_layout.specs.Rows.{rows_after, rows_after_all}
use Rattle.cm_layout.specs.Rules.{is_chunk, is_unused, is_last_chunk, has_place, class_fits}
use Rattle.cm_layout.specs.Rules.{move_fits, broken_of, broken_rule, broken_live_rule, is_live}
use Rattle.cm_layout.specs.Rules.{has_room}
use Rattle.cm_layout.specs.Frames.{BareRow, BareEntry, AreApart, LiveRowsKeep, EntriesKeep}
use Rattle.cm_layout.specs.Frames.{GroupsKeep}
use Rattle.cm_layout.specs.Laws.{RowsAreApart}
use Rattle.cm_layout.proofs.ClassPlaces.{classes_in-append, is_unused-apart}
use Rattle.cm_layout.proofs.ClassPlaces.{is_last_chunk-among}

-- ---- chunks

-- ---- rows of classes

-- ---- one more entry

-- the row's chunk meets a chunk of the others only if it is the same chunk, with the same loader
abbrev Joins : ClassRow → List ClassRow → Type 0
Joins r classes =
    (s : ClassRow) → Among s classes → Meets r.place.chunk s.place.chunk
    → (r.place.chunk ≡ s.place.chunk) × (r.loader ≡ s.loader)

apart-append : (classes : List ClassRow) (r : ClassRow) → AreApart classes → Joins r classes
    → AreApart (classes ++ r ∷ [])
apart-append classes r apart joins x y mx my m =
    by_x (among-push x r classes mx) (among-push y r classes my)
  where
    by_x : Among x classes ⊎ (x ≡ r) → Among y classes ⊎ (y ≡ r)
        → (x.place.chunk ≡ y.place.chunk) × (x.loader ≡ y.loader)
    by_x (inl a) (inl b) = apart x y a b m
    by_x (inl a) (inr e) =
        let j = joins x a
        (meets-turned x.place.chunk r.place.chunk
        (subst (λ (d : ClassRow). Meets x.place.chunk d.place.chunk) e m)) in (
          sym j.0 ∙ ap (λ (d : ClassRow). d.place.chunk) (sym e),
          sym j.1 ∙ ap (λ (d : ClassRow). d.loader) (sym e),
        )
    by_x (inr e) (inl b) =
        let j = joins y b (subst (λ (d : ClassRow). Meets d.place.chunk y.place.chunk) e m) in
        (ap (λ (d : ClassRow). d.place.chunk) e ∙ j.0, ap (λ (d : ClassRow). d.loader) e ∙ j.1)
    by_x (inr e) (inr f) = (
      ap (λ (d : ClassRow). d.place.chunk) (e ∙ sym f),
      ap (λ (d : ClassRow). d.loader) (e ∙ sym f),
    )

-- a class in its place joins the rows before it
place-joins : (rows : List BareRow) (r : ClassRow) → AreApart (classes_in rows)
    → has_place rows r ≡ true → Joins r (classes_in rows)
place-joins rows r apart h s m meet =
    let on_last = is_last_chunk r.loader r.place.chunk rows in
    let behind = eqb r.place.offset (used_words r.place.chunk rows) in
    let front = eqb r.place.offset 0 in
    let unused = is_unused r.place.chunk rows in
    elim (or_cases (on_last && behind) (front && unused) h) [
      | inl last ↦
          let found = is_last_chunk-among r.loader r.place.chunk rows (and_parts on_last behind
          last).0
          in
          let t = found.0 in
          let same = apart t s found.1 m
          (subst (λ (c : Chunk). Meets c s.place.chunk) (sym found.3) meet) in
          (sym found.3 ∙ same.0, sym found.2 ∙ same.1)
      | inr new ↦ absurd
          (is_unused-apart r.place.chunk (classes_in rows) s (and_parts front unused new).1 m meet)
    ]

pub chunks_kept : (on_rows on_chunks : Bool) → broken_of on_rows on_chunks ≡ None → on_chunks ≡ true
chunks_kept true true h = refl
chunks_kept true false h = absurd (cc)
chunks_kept false on_chunks h = absurd (cc)

fits-place : (sizes : Sizes) (rows : List BareRow) (r : ClassRow) → class_fits sizes rows r ≡ true
    → has_place rows r ≡ true
fits-place sizes rows r h =
    let front = is_chunk sizes r.place.chunk && nat_le 1 r.place.words
    && nat_le (r.place.offset + r.place.words) (chunk_size r.place.chunk.order) in
    (and_parts front (has_place rows r) h).1

class-apart : (rows : List BareRow) (r : ClassRow) → AreApart (classes_in rows)
    → has_place rows r ≡ true → AreApart (classes_in (rows ++ Class r tt ∷ []))
class-apart rows r apart h =
    subst AreApart (sym (classes_in-append rows (Class r tt ∷ [])))
    (apart-append (classes_in rows) r apart (place-joins rows r apart h))

loader-apart : (rows : List BareRow) (row : BareRow) → classes_in (row ∷ []) ≡ []
    → AreApart (classes_in rows) → AreApart (classes_in (rows ++ row ∷ []))
loader-apart rows row none apart =
    subst AreApart
    (sym (classes_in-append rows (row ∷ []) ∙ ap (λ l. classes_in rows ++ l) none ∙ append-nil
    (classes_in rows))) apart

-- some of these rows are apart too
fewer-apart : (classes fewer : List ClassRow) → ((x : ClassRow) → Among x fewer → Among x classes)
    → AreApart classes → AreApart fewer
fewer-apart classes fewer among apart x y mx my m = apart x y (among x mx) (among y my) m

unload-among : (u : ℕ) (rows : List BareRow) (x : ClassRow)
    → Among x (classes_in (without_loader u rows)) → Among x (classes_in rows)
unload-among u [] x m = m
unload-among u (Loader r ∷ rows) x m = by_test (λ k. unload-among u rows x k) (eqb r.number u) m
  where
    by_test : (Among x (classes_in (without_loader u rows)) → Among x (classes_in rows))
        → (t : Bool)
        → Among x (classes_in
        (cond (not t) (Loader r ∷ without_loader u rows) (without_loader u rows)))
        → Among x (classes_in rows)
    by_test behind true m = behind m
    by_test behind false m = behind m
unload-among u (Class r p ∷ rows) x m = by_test (λ k. unload-among u rows x k) (eqb r.loader u) m
  where
    by_test : (Among x (classes_in (without_loader u rows)) → Among x (classes_in rows))
        → (t : Bool)
        → Among x (classes_in
        (cond (not t) (Class r p ∷ without_loader u rows) (without_loader u rows)))
        → Among x (r ∷ classes_in rows)
    by_test behind true m = inr (behind m)
    by_test behind false (inl e) = inl e
    by_test behind false (inr m) = inr (behind m)

unload_all-among : (us : List ℕ) (rows : List BareRow) (x : ClassRow)
    → Among x (classes_in (without_loaders us rows)) → Among x (classes_in rows)
unload_all-among [] rows x m = m
unload_all-among (u ∷ us) rows x m =
    unload-among u rows x (unload_all-among us (without_loader u rows) x m)

-- ---- a move

-- the row of a class after a move
unfoldable pub moved_class : Chunk → Chunk → ClassRow → ClassRow
moved_class from to r =
    cond (same_chunk r.place.chunk from) (record r { place = record r.place { chunk = to } }) r

pub classes_in-moved : (from to : Chunk) (rows : List BareRow)
    → classes_in (moved from to rows) ≡ map (moved_class from to) (classes_in rows)
unfolding moved_class
classes_in-moved from to [] = refl
classes_in-moved from to (Loader r ∷ rows) = classes_in-moved from to rows
classes_in-moved from to (Class r p ∷ rows) =
    by_test (same_chunk r.place.chunk from) (classes_in-moved from to rows)
  where
    by_test : (t : Bool)
        → classes_in (moved from to rows) ≡ map (moved_class from to) (classes_in rows)
        → classes_in
        (cond t (Class (record r { place = record r.place { chunk = to } }) p) (Class r p)
        ∷ moved from to rows)
        ≡ cond t (record r { place = record r.place { chunk = to } }) r
        ∷ map (moved_class from to) (classes_in rows)
    by_test true behind = ap (λ l. record r { place = record r.place { chunk = to } } ∷ l) behind
    by_test false behind = ap (λ l. r ∷ l) behind

-- a row after a move is the move of a row before it
moved-among : (from to : Chunk) (classes : List ClassRow) (x : ClassRow)
    → Among x (map (moved_class from to) classes)
    → (r : ClassRow) × Among r classes × (x ≡ moved_class from to r)
moved-among from to [] x none = absurd none
moved-among from to (r ∷ classes) x (inl e) = (r, inl refl, e)
moved-among from to (r ∷ classes) x (inr m) =
    let found = moved-among from to classes x m in (found.0, inr found.1, found.2)

-- where a class is after a move: on the new chunk, if it was on the old one; else where it was
WasMoved : Chunk → Chunk → ClassRow → ClassRow → Type 0
WasMoved from to r x =
    (x.loader ≡ r.loader)
    × (((r.place.chunk ≡ from) × (x.place.chunk ≡ to)) ⊎ (x.place.chunk ≡ r.place.chunk))

was_moved : (from to : Chunk) (r x : ClassRow) → x ≡ moved_class from to r → WasMoved from to r x
unfolding moved_class WasMoved
was_moved from to r x e = by_test (same_chunk r.place.chunk from) refl e
  where
    by_test : (t : Bool) → same_chunk r.place.chunk from ≡ t
        → x ≡ cond t (record r { place = record r.place { chunk = to } }) r
        → (x.loader ≡ r.loader)
        × (((r.place.chunk ≡ from) × (x.place.chunk ≡ to)) ⊎ (x.place.chunk ≡ r.place.chunk))
    by_test true same e = (
      ap (λ (d : ClassRow). d.loader) e,
      inl (same_chunk-true r.place.chunk from same, ap (λ (d : ClassRow). d.place.chunk) e),
    )
    by_test false same e =
        (ap (λ (d : ClassRow). d.loader) e, inr (ap (λ (d : ClassRow). d.place.chunk) e))

move-apart : (from to : Chunk) (classes : List ClassRow) → AreApart classes
    → ((s : ClassRow) → Among s classes → ¬ Meets to s.place.chunk)
    → AreApart (map (moved_class from to) classes)
unfolding WasMoved
move-apart from to classes apart unused x y mx my meet =
    let r = moved-among from to classes x mx in
    let s = moved-among from to classes y my in
    let at_r = was_moved from to r.0 x r.2 in
    let at_s = was_moved from to s.0 y s.2 in
    elim at_r.1 [
      | inl moved_x ↦ elim at_s.1 [
        | inl moved_y ↦
            let both_there : r.0.place.chunk ≡ s.0.place.chunk = moved_x.0 ∙ sym moved_y.0 in
            let same = apart r.0 s.0 r.1 s.1
            (subst (λ (c : Chunk). Meets r.0.place.chunk c) both_there
            (meets-itself r.0.place.chunk)) in
            (moved_x.1 ∙ sym moved_y.1, at_r.0 ∙ same.1 ∙ sym at_s.0)
        | inr stays_y ↦ absurd
            (unused s.0 s.1
            (subst (λ (c : Chunk). Meets to c) stays_y
            (subst (λ (c : Chunk). Meets c y.place.chunk) moved_x.1 meet)))
      ]
      | inr stays_x ↦ elim at_s.1 [
        | inl moved_y ↦ absurd
            (unused r.0 r.1
            (meets-turned r.0.place.chunk to
            (subst (λ (c : Chunk). Meets r.0.place.chunk c) moved_y.1
            (subst (λ (c : Chunk). Meets c y.place.chunk) stays_x meet))))
        | inr stays_y ↦
            let same = apart r.0 s.0 r.1 s.1
            (subst (λ (c : Chunk). Meets r.0.place.chunk c) stays_y
            (subst (λ (c : Chunk). Meets c y.place.chunk) stays_x meet)) in
            (stays_x ∙ same.0 ∙ sym stays_y, at_r.0 ∙ same.1 ∙ sym at_s.0)
      ]
    ]

-- ---- entries one after another

pub rule_kept : (t : Bool) (rule : EntryRule) → cond t None (Some rule) ≡ None → t ≡ true
rule_kept true rule h = refl
rule_kept false rule h = absurd (cc)

pub live-apart : (sizes : Sizes) (base : ℕ) (rows : List BareRow) (row : BareRow)
    → AreApart (classes_in rows) → broken_live_rule sizes base rows row ≡ None
    → AreApart (classes_in (rows ++ row ∷ []))
live-apart sizes base rows (Loader r) apart h = loader-apart rows (Loader r) refl apart
live-apart sizes base rows (Class r p) apart h =
    class-apart rows r apart
    (fits-place sizes rows r
    (chunks_kept (is_live r.loader rows && has_room sizes rows (Class r p))
    (class_fits sizes rows r) h))

pub entry-apart : (sizes : Sizes) (rows : List BareRow) (n : ℕ) (e : BareEntry)
    → AreApart (classes_in rows) → broken_rule sizes rows n e ≡ None
    → AreApart (classes_in (rows_after rows e))
entry-apart sizes rows n (entry.Live (Loader r)) apart h = loader-apart rows (Loader r) refl apart
entry-apart sizes rows n (entry.Live (Class r p)) apart h =
    class-apart rows r apart
    (fits-place sizes rows r
    (chunks_kept (is_live r.loader rows && has_room sizes rows (Class r p))
    (class_fits sizes rows r) h))
entry-apart sizes rows n (entry.Unload e) apart h =
    fewer-apart (classes_in rows) (classes_in (without_loader e.loader rows))
    (unload-among e.loader rows) apart
entry-apart sizes rows n (entry.UnloadAll e) apart h =
    fewer-apart (classes_in rows) (classes_in (without_loaders e.loaders rows))
    (unload_all-among e.loaders rows) apart
entry-apart sizes rows n (entry.Move e) apart h =
    let last = is_last_chunk e.loader e.from rows in
    let lawful = is_chunk sizes e.to in
    let unused = is_unused e.to rows in
    let room = nat_le (used_words e.from rows) (chunk_size e.to.order) in
    let fits : ((last && lawful && unused) && room) ≡ true =
    rule_kept (move_fits sizes rows e) OnChunks h in
    let free : unused ≡ true =
    (and_parts (last && lawful) unused (and_parts (last && lawful && unused) room fits).0).1 in
    subst AreApart (sym (classes_in-moved e.from e.to rows))
    (move-apart e.from e.to (classes_in rows) apart
    (λ s m. is_unused-apart e.to (classes_in rows) s free m))

pub live_rows-apart : (sizes : Sizes) (base : ℕ) (rows live : List BareRow)
    → AreApart (classes_in rows)
    → LiveRowsKeep sizes base rows live → AreApart (classes_in (rows ++ live))
live_rows-apart sizes base rows [] apart keep =
    subst (λ (l : List BareRow). AreApart (classes_in l)) (sym (append-nil rows)) apart
live_rows-apart sizes base rows (row ∷ live) apart keep =
    subst (λ (l : List BareRow). AreApart (classes_in l)) (append_assoc rows (row ∷ []) live)
    (live_rows-apart sizes base (rows ++ row ∷ []) live
    (live-apart sizes base rows row apart keep.1) keep.2)

pub entries-apart : (sizes : Sizes) (rows : List BareRow) (n : ℕ) (entries : List BareEntry)
    → AreApart (classes_in rows) → EntriesKeep sizes rows n entries
    → AreApart (classes_in (rows_after_all rows entries))
entries-apart sizes rows n [] apart keep = apart
entries-apart sizes rows n (e ∷ entries) apart keep =
    entries-apart sizes (rows_after rows e) (n + 1) entries
    (entry-apart sizes rows (n + 1) e apart keep.1) keep.2

pub rows_after_all-append : (rows : List BareRow) (entries more : List BareEntry)
    → rows_after_all rows (entries ++ more) ≡ rows_after_all (rows_after_all rows entries) more
rows_after_all-append rows [] more = refl
rows_after_all-append rows (e ∷ entries) more =
    rows_after_all-append (rows_after rows e) entries more

groups-apart : (sizes : Sizes) (rows : List BareRow) (n : ℕ) (groups : List (List BareEntry))
    → AreApart (classes_in rows) → GroupsKeep sizes rows n groups
    → AreApart (classes_in (rows_after_all rows (flat_map (λ group. group) groups)))
groups-apart sizes rows n [] apart keep = apart
groups-apart sizes rows n (group ∷ groups) apart keep =
    subst (λ (l : List BareRow). AreApart (classes_in l))
    (sym (rows_after_all-append rows group (flat_map (λ g. g) groups)))
    (groups-apart sizes (rows_after_all rows group) (n + length group) groups
    (entries-apart sizes rows n group apart keep.0.entries) keep.1)

none-apart : AreApart (classes_in {P = Unit {0}} [])
none-apart x y mx my m = absurd mx

pub are_apart : RowsAreApart
are_apart sizes h good =
    groups-apart sizes h.live h.head.base h.groups
    (live_rows-apart sizes h.head.base [] h.live none-apart good.live) good.groups
