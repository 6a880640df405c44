-- The records on a loader's last chunk, by what is committed and by the entries before.
-- For `take_group`.
use Rattle.std.proofs.Common.{◌≡◌, ℕ, ◌+◌, ◌≤◌, Bool, true, false, cond, List, [], ◌∷◌, ◌++◌, inl}
use Rattle.std.proofs.Common.{inr, Option, Some, None, refl, sym, ap, subst, ◌∙◌, arith, eqb}
use Rattle.std.proofs.Common.{append-nil, ◌⊎◌}
use Rattle.std.specs.Prelude.{not, ◌&&◌}
use Rattle.std.specs.Option.{option_map, option_map_or}
use Rattle.std.proofs.lemmas.Bool.{eqb-true, eq-eqb, leb-true, and_parts, or_cases}
use Rattle.cm_pool.specs.declared.chunk.Chunk.{Chunk}
use Rattle.cm_pool.specs.Chunks.{same_chunk, Meets}
use Rattle.cm_pool.specs.Geometry.{Sizes}
use Rattle.cm_pool.specs.Lists.{Among}
use Rattle.cm_pool.proofs.{same_chunk-true, same_chunk-itself, meets-itself}
use Rattle.cm_layout.specs.declared.class_row.ClassRow.{ClassRow}
use Rattle.cm_layout.specs.declared.move_entry.Move.{Move}
use Rattle.cm_layout.specs.declared.row.Row.{Row}
use Rattle.cm_layout.specs.declared.row.Row.TheVariants.{Loader, Class}
use Rattle.cm_layout.specs.declared.entry.Entry.{Entry}
use Rattle.cm_layout.specs.declared.entry.Entry.TheVariants as entry
use Rattle.cm_layout.specs.Rows.{bare, classes_in, last_chunk, used_words, kept_on, rows_after}
use Rattle.cm_layout.specs.Rows.{without_loader, without_loaders, moved}
use Rattle.cm_layout.specs.Rules.{broken_rule, is_last_chunk, is_unused, has_place, is_live}
use Rattle.cm_layout.specs.Rules.{are_live, differ}
use Rattle.cm_layout.specs.Frames.{BareRow, LiveRowsKeep, AreApart, bare_entry}
use Rattle.cm_layout.proofs.{class_keeps, classes-bare, classes_in-append, used-append, kept-append}
use Rattle.cm_layout.proofs.{kept-without, kept-elsewhere, kept-onto, unused-none, begins-at}
use Rattle.cm_layout.proofs.{is_last_chunk-among, after-bare, last-without, live-in-turn}
use Rattle.cm_layout.proofs.{entry-apart}
use Rattle.cm_group.specs.Groups.{Carried}
use Rattle.cm_commit.specs.Joining.{records_then, records_after, committed_on, records_on}
use Rattle.cm_commit.specs.Joining.{MovesThem}
use Rattle.cm_commit.specs.Offers.{HasRecords}
use Rattle.cm_commit.proofs.Fitting.{MovesRight, rule_rows}
use Rattle.cm_commit.proofs.MovedRecords.{MoveKeeps, move-keeps}
use Rattle.cm_commit.proofs.Rights.{AreKept}

-- ---- lists

no_both : {t : Bool} → t ≡ true → t ≡ false → ⊥
no_both p q = absurd (cc)

pub turned : (c d : Chunk) → same_chunk c d ≡ false → same_chunk d c ≡ false
turned c d differ = by_test (same_chunk d c) refl
  where
    by_test : (t : Bool) → same_chunk d c ≡ t → t ≡ false
    by_test true e =
        absurd (no_both (subst (λ (x : Chunk). same_chunk c x ≡ true)
        (sym (same_chunk-true d c e)) (same_chunk-itself c)) differ)
    by_test false e = refl

-- what one more entry does to the records
pub after-one : (c : Chunk) (records : List (List ℕ)) (before : List Carried) (k : Carried)
    → records_after c records (before ++ k ∷ [])
    ≡ records_then c (records_after c records before) k.entry k.moved
after-one c records [] k = refl
after-one c records (b ∷ before) k = after-one c (records_then c records b.entry b.moved) before k

-- ---- last chunks

last-push : (u : ℕ) (classes : List ClassRow) (r : ClassRow)
    → last_chunk u (classes ++ r ∷ [])
    ≡ cond (eqb r.loader u) (Some r.place.chunk) (last_chunk u classes)
last-push u [] r = refl
last-push u (s ∷ classes) r =
    ap (λ (o : Option Chunk). elim o [
      | Some d ↦ Some d
      | None ↦ cond (eqb s.loader u) (Some s.place.chunk) None
    ]) (last-push u classes r)
    ∙ by_test (eqb r.loader u) (last_chunk u classes)
  where
    by_test : (t : Bool) (o : Option Chunk)
        → elim (cond t (Some r.place.chunk) o) [
          | Some d ↦ Some d
          | None ↦ cond (eqb s.loader u) (Some s.place.chunk) None
        ]
        ≡ cond t (Some r.place.chunk) (elim o [
          | Some d ↦ Some d
          | None ↦ cond (eqb s.loader u) (Some s.place.chunk) None
        ])
    by_test true o = refl
    by_test false o = refl

-- where a chunk lies after a move
abbrev goes_to : Chunk → Chunk → Chunk → Chunk
goes_to from to d = cond (same_chunk d from) to d

over-one : (f : Chunk → Chunk) (a o : Option Chunk) (t : Bool) (x y : Chunk)
    → a ≡ option_map f o → f x ≡ y
    → elim a [ Some d ↦ Some d | None ↦ cond t (Some y) None ]
    ≡ option_map f (elim o [ Some d ↦ Some d | None ↦ cond t (Some x) None ])
over-one f a (Some d) t x y e is = rw e refl
over-one f a None true x y e is = rw e (ap Some (sym is))
over-one f a None false x y e is = rw e refl

module _ {P : Type 0} where
  last-moves : (u : ℕ) (from to : Chunk) (rows : List (Row P))
      → last_chunk u (classes_in (moved from to rows))
      ≡ option_map (goes_to from to) (last_chunk u (classes_in rows))
  last-moves u from to [] = refl
  last-moves u from to (Loader r ∷ rows) = last-moves u from to rows
  last-moves u from to (Class r p ∷ rows) =
      by_test (last-moves u from to rows) (same_chunk r.place.chunk from) refl
    where
      by_test : last_chunk u (classes_in (moved from to rows))
          ≡ option_map (goes_to from to) (last_chunk u (classes_in rows))
          → (t : Bool) → same_chunk r.place.chunk from ≡ t
          → last_chunk u (classes_in
          (cond t (Class (record r { place = record r.place { chunk = to } }) p) (Class r p)
          ∷ moved from to rows))
          ≡ option_map (goes_to from to) (last_chunk u (r ∷ classes_in rows))
      by_test rest true e =
          over-one (goes_to from to) (last_chunk u (classes_in (moved from to rows)))
          (last_chunk u (classes_in rows)) (eqb r.loader u) r.place.chunk to rest
          (ap (λ (s : Bool). cond s to r.place.chunk) e)
      by_test rest false e =
          over-one (goes_to from to) (last_chunk u (classes_in (moved from to rows)))
          (last_chunk u (classes_in rows)) (eqb r.loader u) r.place.chunk r.place.chunk rest
          (ap (λ (s : Bool). cond s to r.place.chunk) e)

  -- the last chunk after a move is the new one, or it was the last before
  pub record Stayed (u : ℕ) (c from : Chunk) (rows : List (Row P)) : Type 0 where
    pub last : is_last_chunk u c rows ≡ true
    pub other : same_chunk from c ≡ false

  pub last-before : (u : ℕ) (c from to : Chunk) (rows : List (Row P))
      → is_last_chunk u c (moved from to rows) ≡ true → (to ≡ c) ⊎ Stayed u c from rows
  last-before u c from to rows h =
      by_last (last_chunk u (classes_in rows)) refl
      (ap (λ (o : Option Chunk). option_map_or (λ last. same_chunk last c) o false)
      (sym (last-moves u from to rows)) ∙ h)
    where
      by_last : (o : Option Chunk) → last_chunk u (classes_in rows) ≡ o
          → option_map_or (λ last. same_chunk last c) (option_map (goes_to from to) o) false ≡ true
          → (to ≡ c) ⊎ Stayed u c from rows
      by_last None is same = absurd (cc)
      by_last (Some d) is same = by_test (same_chunk d from) refl same
        where
          by_test : (t : Bool) → same_chunk d from ≡ t → same_chunk (cond t to d) c ≡ true
              → (to ≡ c) ⊎ Stayed u c from rows
          by_test true e same = inl (same_chunk-true to c same)
          by_test false e same =
              let on : d ≡ c = same_chunk-true d c same in
              inr (record {
                last = ap (λ (o : Option Chunk). option_map_or (λ last. same_chunk last c) o false)
                    is ∙ same;
                other = turned c from (subst (λ (x : Chunk). same_chunk x from ≡ false) on e);
              })

-- the rows without a loader, and without their records
bare-without : (u : ℕ) (rows : List (Row (List ℕ)))
    → bare (without_loader u rows) ≡ without_loader u (bare rows)
bare-without u rows = after-bare rows (entry.Unload (record { loader = u }))

-- the last chunk of another loader than one that is unloaded
last-stays : (v u : ℕ) (rows : List (Row (List ℕ))) → (v ≡ u → ⊥)
    → last_chunk v (classes_in (without_loader u rows)) ≡ last_chunk v (classes_in rows)
last-stays v u rows other =
    ap (last_chunk v) (sym (classes-bare (without_loader u rows))
    ∙ ap (λ (l : List BareRow). classes_in l) (bare-without u rows))
    ∙ last-without v u (bare rows) other
    ∙ ap (last_chunk v) (classes-bare rows)

-- rows whose records are apart stay so without a loader
apart-without : (sizes : Sizes) (n u : ℕ) (rows : List (Row (List ℕ)))
    → AreApart (classes_in (bare rows)) → is_live u (bare rows) ≡ true
    → AreApart (classes_in (bare (without_loader u rows)))
apart-without sizes n u rows apart live =
    subst (λ (l : List BareRow). AreApart (classes_in l)) (sym (bare-without u rows))
    (entry-apart sizes (bare rows) n (entry.Unload (record { loader = u })) apart (rw live refl))

-- ---- which loader a chunk belongs to

module _ (rows : List (Row (List ℕ))) (apart : AreApart (classes_in (bare rows))) where
  -- a chunk belongs to one loader
  one-owner : (r s : ClassRow) → Among r (classes_in rows) → Among s (classes_in rows)
      → r.place.chunk ≡ s.place.chunk → r.loader ≡ s.loader
  one-owner r s m k same =
      (apart r s (subst (λ (l : List ClassRow). Among r l) (sym (classes-bare rows)) m)
      (subst (λ (l : List ClassRow). Among s l) (sym (classes-bare rows)) k)
      (subst (λ (d : Chunk). Meets r.place.chunk d) same (meets-itself r.place.chunk))).1

  -- it is the loader of the chunk's last class
  owner-of : (u : ℕ) (c : Chunk) (s : ClassRow) → is_last_chunk u c rows ≡ true
      → Among s (classes_in rows) → s.place.chunk ≡ c → s.loader ≡ u
  owner-of u c s last m on =
      let found = is_last_chunk-among u c rows last in
      one-owner s found.0 m found.1 (on ∙ sym found.3) ∙ found.2

module _ (sizes : Sizes) (n : ℕ) (rows : List (Row (List ℕ))) (kept : AreKept sizes n rows) where
  -- each record has words
  some-words : (s : ClassRow) → Among s (classes_in rows) → 1 ≤ s.place.words
  some-words s m =
      each [] (bare rows) kept.live s
      (subst (λ (l : List ClassRow). Among s l) (sym (classes-bare rows)) m)
    where
      each : (pre live : List BareRow) → LiveRowsKeep sizes n pre live → (s : ClassRow)
          → Among s (classes_in live) → 1 ≤ s.place.words
      each pre [] k s m = absurd m
      each pre (Loader r ∷ live) k s m = each (pre ++ Loader r ∷ []) live k.2 s m
      each pre (Class r p ∷ live) k s (inl e) =
          subst (λ (d : ClassRow). 1 ≤ d.place.words) (sym e)
          (leb-true 1 r.place.words (class_keeps sizes pre r k.1).words)
      each pre (Class r p ∷ live) k s (inr m) = each (pre ++ Class r p ∷ []) live k.2 s m

nothing-on : (c : Chunk) (rows : List (Row (List ℕ)))
    → ((s : ClassRow) → Among s (classes_in rows) → 1 ≤ s.place.words) → used_words c rows ≡ 0
    → kept_on c rows ≡ []
nothing-on c [] some none = refl
nothing-on c (Loader r ∷ rows) some none = nothing-on c rows some none
nothing-on c (Class r words ∷ rows) some none =
    by_test (same_chunk r.place.chunk c) refl
    (λ fewer. nothing-on c rows (λ s m. some s (inr m)) fewer)
  where
    by_test : (t : Bool) → same_chunk r.place.chunk c ≡ t
        → (used_words c rows ≡ 0 → kept_on c rows ≡ [])
        → cond t (words ∷ kept_on c rows) (kept_on c rows) ≡ []
    by_test true e rest =
        let one : used_words c (Class r words ∷ []) ≡ r.place.words = rw e (omega arith) in
        absurd (omega (
          arith,
          used-append c (Class r words ∷ []) rows,
          one,
          none,
          some r (inl refl),
        ))
    by_test false e rest =
        let one : used_words c (Class r words ∷ []) ≡ 0 = rw e refl in
        rest (omega (arith, used-append c (Class r words ∷ []) rows, one, none))

-- no class of a loader is left once it is unloaded
none-left : {P : Type 0} (u : ℕ) (rows : List (Row P)) (s : ClassRow)
    → Among s (classes_in (without_loader u rows)) → s.loader ≡ u → ⊥
none-left u [] s m own = m
none-left u (Loader r ∷ rows) s m own =
    by_test (eqb r.number u) (λ later. none-left u rows s later own) m
  where
    by_test : (t : Bool) → (Among s (classes_in (without_loader u rows)) → ⊥)
        → Among s (classes_in
        (cond (not t) (Loader r ∷ without_loader u rows) (without_loader u rows))) → ⊥
    by_test true rest m = rest m
    by_test false rest m = rest m
none-left u (Class r p ∷ rows) s m own =
    by_test (eqb r.loader u) refl (λ later. none-left u rows s later own) m
  where
    by_test : (t : Bool) → eqb r.loader u ≡ t
        → (Among s (classes_in (without_loader u rows)) → ⊥)
        → Among s (classes_in
        (cond (not t) (Class r p ∷ without_loader u rows) (without_loader u rows))) → ⊥
    by_test true e rest m = rest m
    by_test false e rest (inl is) =
        no_both (eq-eqb r.loader u (sym (ap (λ (d : ClassRow). d.loader) is) ∙ own)) e
    by_test false e rest (inr m) = rest m

-- ---- what follows from the entries

-- The records on the last chunks of loaders follow from what is committed and the entries before.
pub record TellsRecords (committed : List (Row (List ℕ))) (before : List Carried)
    (rows : List (Row (List ℕ))) : Type 0 where
  pub each : (u : ℕ) (c : Chunk) → is_last_chunk u c rows ≡ true
      → records_on committed before u c ≡ kept_on c rows

pub records_first : (rows : List (Row (List ℕ))) → TellsRecords rows [] rows
records_first rows = record {
  each = λ u c last. ap (λ (t : Bool). cond t (kept_on c rows) []) last;
}

-- They still do once a loader is unloaded,
without-tells : (committed : List (Row (List ℕ))) (before : List Carried)
    (rows : List (Row (List ℕ))) (u : ℕ) → AreApart (classes_in (bare rows))
    → TellsRecords committed before rows → TellsRecords committed before (without_loader u rows)
without-tells committed before rows u apart tells =
    record { each = λ v c last. by_own v c (eqb v u) refl last }
  where
    by_own : (v : ℕ) (c : Chunk) (t : Bool) → eqb v u ≡ t
        → is_last_chunk v c (without_loader u rows) ≡ true
        → records_on committed before v c ≡ kept_on c (without_loader u rows)
    by_own v c true e last =
        let found = is_last_chunk-among v c (without_loader u rows) last in
        absurd (none-left u rows found.0 found.1 (found.2 ∙ eqb-true v u e))
    by_own v c false e last =
        tells.each v c was
        ∙ sym (kept-without c u rows
        (λ s m own. by_chunk s m own (same_chunk s.place.chunk c) refl))
      where
        was : is_last_chunk v c rows ≡ true
        was =
            sym (ap (λ (o : Option Chunk). option_map_or (λ l. same_chunk l c) o false)
            (last-stays v u rows (λ is. no_both (eq-eqb v u is) e))) ∙ last

        by_chunk : (s : ClassRow) → Among s (classes_in rows) → s.loader ≡ u → (t : Bool)
            → same_chunk s.place.chunk c ≡ t → t ≡ false
        by_chunk s m own false on = refl
        by_chunk s m own true on =
            let mine = owner-of rows apart v c s was m (same_chunk-true s.place.chunk c on) in
            absurd (no_both (eq-eqb v u (sym mine ∙ own)) e)

-- and once several are, one after another.
without-all-tells : (sizes : Sizes) (n : ℕ) (committed : List (Row (List ℕ)))
    (before : List Carried) (us : List ℕ) (rows : List (Row (List ℕ)))
    → AreApart (classes_in (bare rows)) → (differ us && are_live us (bare rows)) ≡ true
    → TellsRecords committed before rows
    → TellsRecords committed before (without_loaders us rows)
without-all-tells sizes n committed before [] rows apart live tells = tells
without-all-tells sizes n committed before (u ∷ us) rows apart live tells =
    let turn = live-in-turn u us (bare rows) live in
    without-all-tells sizes n committed before us (without_loader u rows)
    (apart-without sizes n u rows apart turn.0)
    (subst (λ (l : List BareRow). (differ us && are_live us l) ≡ true) (sym (bare-without u rows))
    turn.1)
    (without-tells committed before rows u apart tells)

module _ (sizes : Sizes) (n : ℕ) (committed : List (Row (List ℕ))) (before : List Carried)
    (rows : List (Row (List ℕ))) (kept : AreKept sizes n rows)
    (tells : TellsRecords committed before rows) where
  -- entries that leave the chunk and its records
  leaves-them : (k : Carried) (u : ℕ) (c : Chunk) (after : List (Row (List ℕ)))
      → ((records : List (List ℕ)) → records_then c records k.entry k.moved ≡ records)
      → is_last_chunk u c rows ≡ true → kept_on c after ≡ kept_on c rows
      → records_on committed (before ++ k ∷ []) u c ≡ kept_on c after
  leaves-them k u c after same last is =
      after-one c (committed_on u c committed) before k
      ∙ same (records_on committed before u c) ∙ tells.each u c last ∙ sym is

  -- entries that leave all records
  still-tells : (k : Carried)
      → ((c : Chunk) (records : List (List ℕ)) → records_then c records k.entry k.moved ≡ records)
      → TellsRecords committed (before ++ k ∷ []) rows
  still-tells k same = record {
    each = λ u c last. leaves-them k u c rows (same c) last refl;
  }

  -- a class of another loader lies on another chunk
  lies-elsewhere : (u : ℕ) (c : Chunk) (r : ClassRow) → has_place rows r ≡ true
      → is_last_chunk u c rows ≡ true → eqb r.loader u ≡ false
      → same_chunk r.place.chunk c ≡ false
  lies-elsewhere u c r place last other = by_test (same_chunk r.place.chunk c) refl
    where
      by_test : (t : Bool) → same_chunk r.place.chunk c ≡ t → t ≡ false
      by_test false e = refl
      by_test true e =
          let on : r.place.chunk ≡ c = same_chunk-true r.place.chunk c e in
          let own = is_last_chunk r.loader r.place.chunk rows in
          let behind = eqb r.place.offset (used_words r.place.chunk rows) in
          let front = eqb r.place.offset 0 in
          let unused = is_unused r.place.chunk rows in
          elim (or_cases (own && behind) (front && unused) place) [
            | inl top ↦
                let found = is_last_chunk-among r.loader r.place.chunk rows
                (and_parts own behind top).0 in
                let mine = owner-of rows kept.apart u c found.0 last found.1 (found.3 ∙ on) in
                absurd (no_both (eq-eqb r.loader u (sym found.2 ∙ mine)) other)
            | inr new ↦
                let found = is_last_chunk-among u c rows last in
                let none = unused-none r.place.chunk rows (and_parts front unused new).1 found.0
                found.1 in
                absurd (no_both (subst (λ (d : Chunk). same_chunk found.0.place.chunk d ≡ true)
                (found.3 ∙ sym on) (same_chunk-itself found.0.place.chunk)) none)
          ]

  -- one more class on the chunk
  adds-one : (u : ℕ) (c : Chunk) (r : ClassRow) (words : List ℕ) (moved : List (List ℕ))
      → has_place rows r ≡ true → same_chunk r.place.chunk c ≡ true → eqb r.loader u ≡ true
      → records_then c (records_on committed before u c) (entry.Live (Class r words)) moved
      ≡ kept_on c rows ++ words ∷ []
  adds-one u c r words moved place same mine =
      ap (λ (t : Bool). cond t (cond (eqb r.place.offset 0) (words ∷ [])
      (records_on committed before u c ++ words ∷ [])) (records_on committed before u c)) same
      ∙ by_front (eqb r.place.offset 0) refl
    where
      on : r.place.chunk ≡ c
      on = same_chunk-true r.place.chunk c same

      by_front : (t : Bool) → eqb r.place.offset 0 ≡ t
          → cond t (words ∷ []) (records_on committed before u c ++ words ∷ [])
          ≡ kept_on c rows ++ words ∷ []
      by_front true e =
          let used : used_words c rows ≡ 0 =
          sym (ap (λ (d : Chunk). used_words d rows) on)
          ∙ sym (begins-at rows r place) ∙ eqb-true r.place.offset 0 e in
          ap (λ (l : List (List ℕ)). l ++ words ∷ [])
          (sym (nothing-on c rows (some-words sizes n rows kept) used))
      by_front false e =
          let own = is_last_chunk r.loader r.place.chunk rows in
          let behind = eqb r.place.offset (used_words r.place.chunk rows) in
          let front = eqb r.place.offset 0 in
          let unused = is_unused r.place.chunk rows in
          let last : is_last_chunk u c rows ≡ true =
          elim (or_cases (own && behind) (front && unused) place) [
            | inl top ↦
                subst (λ (v : ℕ). is_last_chunk v c rows ≡ true) (eqb-true r.loader u mine)
                (subst (λ (d : Chunk). is_last_chunk r.loader d rows ≡ true) on
                (and_parts own behind top).0)
            | inr new ↦ absurd (no_both (and_parts front unused new).0 e)
          ] in
          ap (λ (l : List (List ℕ)). l ++ words ∷ []) (tells.each u c last)

  push-kept : (c : Chunk) (r : ClassRow) (words : List ℕ) (t : Bool)
      → same_chunk r.place.chunk c ≡ t
      → kept_on c (rows ++ Class r words ∷ []) ≡ kept_on c rows ++ cond t (words ∷ []) []
  push-kept c r words t e =
      kept-append c rows (Class r words ∷ [])
      ∙ ap (λ (s : Bool). kept_on c rows ++ cond s (words ∷ []) []) e

  class-tells : (r : ClassRow) (words : List ℕ) (moved : List (List ℕ))
      → has_place rows r ≡ true
      → TellsRecords committed
      (before ++ record { entry = entry.Live (Class r words); moved = moved } ∷ [])
      (rows ++ Class r words ∷ [])
  class-tells r words moved place = record {
    each = λ u c last. by_own u c (eqb r.loader u) refl
        (ap (λ (o : Option Chunk). option_map_or (λ l. same_chunk l c) o false)
        (sym (ap (last_chunk u) (classes_in-append rows (Class r words ∷ []))
        ∙ last-push u (classes_in rows) r)) ∙ last);
  }
    where
      k : Carried
      k = record { entry = entry.Live (Class r words); moved = moved }

      by_own : (u : ℕ) (c : Chunk) (t : Bool) → eqb r.loader u ≡ t
          → option_map_or (λ l. same_chunk l c)
          (cond (eqb r.loader u) (Some r.place.chunk) (last_chunk u (classes_in rows))) false ≡ true
          → records_on committed
          (before ++ record { entry = entry.Live (Class r words); moved = moved } ∷ []) u c
          ≡ kept_on c (rows ++ Class r words ∷ [])
      by_own u c true e last =
          let same : same_chunk r.place.chunk c ≡ true =
          sym (ap (λ (t : Bool). option_map_or (λ l. same_chunk l c)
          (cond t (Some r.place.chunk) (last_chunk u (classes_in rows))) false) e) ∙ last in
          after-one c (committed_on u c committed) before
          (record { entry = entry.Live (Class r words); moved = moved })
          ∙ adds-one u c r words moved place same e
          ∙ sym (push-kept c r words true same)
      by_own u c false e last =
          let was : is_last_chunk u c rows ≡ true =
          sym (ap (λ (t : Bool). option_map_or (λ l. same_chunk l c)
          (cond t (Some r.place.chunk) (last_chunk u (classes_in rows))) false) e) ∙ last in
          let other = lies-elsewhere u c r place was e in
          leaves-them (record { entry = entry.Live (Class r words); moved = moved }) u c
          (rows ++ Class r words ∷ [])
          (λ records. ap (λ (t : Bool). cond t (cond (eqb r.place.offset 0) (words ∷ [])
          (records ++ words ∷ [])) records) other) was
          (push-kept c r words false other ∙ append-nil (kept_on c rows))

  move-tells : (e : Move) (moved_records : List (List ℕ)) → MoveKeeps sizes rows e
      → moved_records ≡ kept_on e.from rows
      → TellsRecords committed
      (before ++ record { entry = entry.Move e; moved = moved_records } ∷ [])
      (moved e.from e.to rows)
  move-tells e moved_records keeps is = record {
    each = λ u c last. elim (last-before u c e.from e.to rows last) [
      | inl to ↦
          let same : same_chunk e.to c ≡ true =
          subst (λ (d : Chunk). same_chunk e.to d ≡ true) to (same_chunk-itself e.to) in
          after-one c (committed_on u c committed) before
          (record { entry = entry.Move e; moved = moved_records })
          ∙ ap (λ (t : Bool). cond t moved_records (records_on committed before u c)) same
          ∙ is
          ∙ sym (kept-onto e.from e.to rows (unused-none e.to rows keeps.unused))
          ∙ ap (λ (d : Chunk). kept_on d (moved e.from e.to rows)) to
      | inr stayed ↦
          let found = is_last_chunk-among u c rows stayed.last in
          let apart : same_chunk e.to c ≡ false =
          turned c e.to (subst (λ (d : Chunk). same_chunk d e.to ≡ false) found.3
          (unused-none e.to rows keeps.unused found.0 found.1)) in
          leaves-them (record { entry = entry.Move e; moved = moved_records }) u c
          (moved e.from e.to rows)
          (λ records. ap (λ (t : Bool). cond t moved_records records) apart) stayed.last
          (kept-elsewhere c e.from e.to rows stayed.other apart)
    ];
  }

-- ---- after one entry

pub records_next : (sizes : Sizes) (n : ℕ) (committed : List (Row (List ℕ)))
    (before : List Carried) (rows : List (Row (List ℕ))) (e : Entry (List ℕ))
    (moved_records : List (List ℕ)) → AreKept sizes n rows
    → broken_rule sizes (bare rows) (n + 1) (bare_entry e) ≡ None
    → HasRecords rows e moved_records → TellsRecords committed before rows
    → TellsRecords committed (before ++ record { entry = e; moved = moved_records } ∷ [])
    (rows_after rows e)
records_next sizes n committed before rows (entry.Live (Loader r)) moved_records kept keeps has
    tells = record {
      each = λ u c last.
          let same : classes_in (rows ++ Loader r ∷ []) ≡ classes_in rows =
          classes_in-append rows (Loader r ∷ []) ∙ append-nil (classes_in rows) in
          leaves-them sizes n committed before rows kept tells
          (record { entry = entry.Live (Loader r); moved = moved_records }) u c
          (rows ++ Loader r ∷ []) (λ records. refl)
          (sym (ap (λ (l : List ClassRow). option_map_or (λ d. same_chunk d c) (last_chunk u l)
          false) same) ∙ last)
          (kept-append c rows (Loader r ∷ []) ∙ append-nil (kept_on c rows));
    }
records_next sizes n committed before rows (entry.Live (Class r words)) moved_records kept keeps
    has tells =
    let place : has_place rows r ≡ true =
    rw (sym (classes-bare rows)) (class_keeps sizes (bare rows) r keeps).place in
    class-tells sizes n committed before rows kept tells r words moved_records place
records_next sizes n committed before rows (entry.Unload e) moved_records kept keeps has tells =
    let k : Carried = record { entry = entry.Unload e; moved = moved_records } in
    without-tells committed (before ++ k ∷ []) rows e.loader kept.apart
    (still-tells sizes n committed before rows kept tells k (λ c records. refl))
records_next sizes n committed before rows (entry.UnloadAll e) moved_records kept keeps has tells =
    let k : Carried = record { entry = entry.UnloadAll e; moved = moved_records } in
    without-all-tells sizes n committed (before ++ k ∷ []) e.loaders rows kept.apart
    (rule_rows (differ e.loaders && are_live e.loaders (bare rows)) keeps)
    (still-tells sizes n committed before rows kept tells k (λ c records. refl))
records_next sizes n committed before rows (entry.Move e) moved_records kept keeps has tells =
    move-tells sizes n committed before rows kept tells e moved_records
    (move-keeps sizes rows (n + 1) e keeps) has.1

-- ---- the records that a move carries

-- the records that a move carries, by what is committed and the entries before, or by the rows
pub moves-right : (sizes : Sizes) (n : ℕ) (committed : List (Row (List ℕ)))
    (before : List Carried) (rows : List (Row (List ℕ))) (e : Entry (List ℕ))
    (moved_records : List (List ℕ))
    → broken_rule sizes (bare rows) (n + 1) (bare_entry e) ≡ None
    → TellsRecords committed before rows → MovesThem committed before e moved_records
    → MovesRight rows e moved_records
moves-right sizes n committed before rows (entry.Live row) moved_records keeps tells them = tt
moves-right sizes n committed before rows (entry.Unload e) moved_records keeps tells them = tt
moves-right sizes n committed before rows (entry.UnloadAll e) moved_records keeps tells them = tt
moves-right sizes n committed before rows (entry.Move e) moved_records keeps tells them =
    them ∙ tells.each e.loader e.from (move-keeps sizes rows (n + 1) e keeps).last

pub moves-them : (sizes : Sizes) (n : ℕ) (committed : List (Row (List ℕ)))
    (before : List Carried) (rows : List (Row (List ℕ))) (e : Entry (List ℕ))
    (moved_records : List (List ℕ))
    → broken_rule sizes (bare rows) (n + 1) (bare_entry e) ≡ None
    → TellsRecords committed before rows → HasRecords rows e moved_records
    → MovesThem committed before e moved_records
moves-them sizes n committed before rows (entry.Live row) moved_records keeps tells has = tt
moves-them sizes n committed before rows (entry.Unload e) moved_records keeps tells has = tt
moves-them sizes n committed before rows (entry.UnloadAll e) moved_records keeps tells has = tt
moves-them sizes n committed before rows (entry.Move e) moved_records keeps tells has =
    has.1 ∙ sym (tells.each e.loader e.from (move-keeps sizes rows (n + 1) e keeps).last)
