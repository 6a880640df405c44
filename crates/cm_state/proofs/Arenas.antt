-- Arenas by loaders' names: their chunks share no word, and each record is in its loader's.
-- For `arenas_are_apart`.
use Rattle.std.proofs.Common.{◌≡◌, ℕ, ◌+◌, ◌≤◌, Bool, true, false, cond, List, [], ◌∷◌, ◌++◌}
use Rattle.std.proofs.Common.{map, Option, Some, None, inl, inr, refl, sym, ap, subst, ◌∙◌, arith}
use Rattle.std.proofs.Common.{append_assoc, append-nil, eqb, is_some}
use Rattle.std.specs.Prelude.{◌&&◌, sum, filter}
use Rattle.std.specs.List.{AllByRecursion}
use Rattle.std.specs.Option.{option_map}
use Rattle.std.specs.Ordering.{nat_cmp}
use Rattle.std.specs.Str.{bytes_eq}
use Rattle.std.specs.Cmp.Lexicographic.{slice_cmp}
use Rattle.std.specs.FinMap.{get, get-empty}
use Rattle.std.proofs.lemmas.Bool.{eqb-true, eq-eqb, leb-true, and_parts, or_cases}
use Rattle.std.proofs.lemmas.List.{map-append}
use Rattle.std.proofs.lemmas.List.Sums.{sum_by-cons}
use Rattle.std.proofs.lemmas.List.Elements.{filter-append}
use Rattle.cm_class.specs.declared.class_file.ClassFile.{ClassFile}
use Rattle.cm_record.specs.Layout.{lay}
use Rattle.cm_pool.specs.Geometry.{Sizes}
use Rattle.cm_pool.specs.declared.chunk.Chunk.{Chunk}
use Rattle.cm_pool.specs.Chunks.{same_chunk, Meets}
use Rattle.cm_pool.specs.Lists.{Among, Pairwise}
use Rattle.cm_pool.proofs.{meets-turned, same_chunk-itself, among-push}
use Rattle.cm_layout.specs.declared.class_row.ClassRow.{ClassRow}
use Rattle.cm_layout.specs.declared.row.Row.{Row}
use Rattle.cm_layout.specs.declared.row.Row.TheVariants.{Loader, Class}
use Rattle.cm_layout.specs.Rows.{name_of, number_of, classes_in, rows_with, bare, used_words}
use Rattle.cm_layout.specs.Rules.{has_place, is_last_chunk, is_unused, is_live}
use Rattle.cm_layout.specs.Loaders.{LoadersDiffer, HasOwnLoaders}
use Rattle.cm_layout.specs.Frames.{BareRow, OpenHalf, IsGoodHalf, AreApart, LiveRowsKeep, Counts}
use Rattle.cm_layout.specs.Frames.{rows_of, number_at_end}
use Rattle.cm_layout.specs.Laws.{RowsStayLive, LoadersAreOwn}
use Rattle.cm_layout.proofs.{class_keeps, bare-with, name-bare, classes-bare, differ-bare}
use Rattle.cm_layout.proofs.{classes_in-append, is_unused-apart, is_last_chunk-among}
use Rattle.cm_state.specs.State.{CacheState}
use Rattle.cm_state.specs.Stands.{Arenas, Stands, arenas_among, chunks_of}
use Rattle.cm_state.specs.Laws.{ArenasAreApart, EachRecordIsInItsArena}
use Rattle.cm_state.proofs.Maps.{got-insert}
use Rattle.cm_state.proofs.Differ.{name_found, number_found, some_name}

-- ---- lists

among_front : {X : Type 0} (x : X) (xs more : List X) → Among x xs → Among x (xs ++ more)
among_front x [] more none = absurd none
among_front x (y ∷ xs) more (inl e) = inl e
among_front x (y ∷ xs) more (inr m) = inr (among_front x xs more m)

among_last : {X : Type 0} (x : X) (xs : List X) → Among x (xs ++ x ∷ [])
among_last x [] = inl refl
among_last x (y ∷ xs) = inr (among_last x xs)

each_more : {X : Type 0} (P : X → Type 0) (xs : List X) (x : X) → AllByRecursion P xs → P x
    → AllByRecursion P (xs ++ x ∷ [])
each_more P [] x all last = (last, tt)
each_more P (y ∷ xs) x all last = (all.0, each_more P xs x all.1 last)

pairs_more : (cs : List Chunk) (c : Chunk) → Pairwise (λ a b. ¬ Meets a b) cs
    → ((d : Chunk) → Among d cs → ¬ Meets d c)
    → Pairwise (λ a b. ¬ Meets a b) (cs ++ c ∷ [])
pairs_more [] c apart new = (tt, tt)
pairs_more (d ∷ cs) c apart new = (
  each_more (λ (b : Chunk). ¬ Meets d b) cs c apart.0 (new d (inl refl)),
  pairs_more cs c apart.1 (λ b m. new b (inr m)),
)

-- ---- a loader's chunks

chosen_more : (test : ClassRow → Bool) (classes : List ClassRow) (r : ClassRow)
    → map (λ (s : ClassRow). s.place.chunk) (filter test (classes ++ r ∷ []))
    ≡ map (λ (s : ClassRow). s.place.chunk) (filter test classes)
    ++ map (λ (s : ClassRow). s.place.chunk) (filter test (r ∷ []))
chosen_more test classes r =
    ap (map (λ (s : ClassRow). s.place.chunk)) (filter-append test classes (r ∷ []))
    ∙ map-append (λ (s : ClassRow). s.place.chunk) (filter test classes) (filter test (r ∷ []))

chunks_more : (u : ℕ) (classes : List ClassRow) (r : ClassRow)
    → chunks_of u (classes ++ r ∷ []) ≡ chunks_of u classes ++ chunks_of u (r ∷ [])
chunks_more u classes r = chosen_more _ classes r

-- each of the chunks has a record of the loader
record IsOf (u : ℕ) (classes : List ClassRow) (c : Chunk) : Type 0 where
  row : ClassRow
  among : Among row classes
  own : row.loader ≡ u
  on : row.place.chunk ≡ c

chunk_is_of : (u : ℕ) (classes : List ClassRow) (c : Chunk) → Among c (chunks_of u classes)
    → IsOf u classes c
chunk_is_of u [] c none = absurd none
chunk_is_of u (r ∷ classes) c m =
    by_tests (eqb r.loader u) refl (eqb r.place.offset 0) (λ k. later (chunk_is_of u classes c k)) m
  where
    later : IsOf u classes c → IsOf u (r ∷ classes) c
    later found = record {
      row = found.row;
      among = inr found.among;
      own = found.own;
      on = found.on;
    }

    by_tests : (s : Bool) → eqb r.loader u ≡ s → (t : Bool)
        → (Among c (chunks_of u classes) → IsOf u (r ∷ classes) c)
        → Among c (map (λ (d : ClassRow). d.place.chunk)
        (cond (s && t) (r ∷ filter
        (λ (d : ClassRow). eqb d.loader u && eqb d.place.offset 0) classes)
        (filter (λ (d : ClassRow). eqb d.loader u && eqb d.place.offset 0) classes)))
        → IsOf u (r ∷ classes) c
    by_tests true e true rest (inl is) =
        record { row = r; among = inl refl; own = eqb-true r.loader u e; on = sym is }
    by_tests true e true rest (inr k) = rest k
    by_tests true e false rest k = rest k
    by_tests false e t rest k = rest k

-- ---- the words of a record are among those of its chunk

first_in : (a b : ℕ) (ns : List ℕ) → a ≡ b → a ≤ sum (b ∷ ns)
first_in a b ns e =
    let cons : sum (b ∷ ns) ≡ b + sum ns = sum_by-cons (λ (n : ℕ). n) b ns in
    omega (arith, e, cons)

later_in : (a b : ℕ) (ns : List ℕ) → a ≤ sum ns → a ≤ sum (b ∷ ns)
later_in a b ns le =
    let cons : sum (b ∷ ns) ≡ b + sum ns = sum_by-cons (λ (n : ℕ). n) b ns in
    omega (arith, le, cons)

used_some : (c : Chunk) (classes : List ClassRow) (s : ClassRow) → Among s classes
    → same_chunk s.place.chunk c ≡ true
    → s.place.words ≤ sum (map (λ (r : ClassRow). r.place.words)
    (filter (λ (r : ClassRow). same_chunk r.place.chunk c) classes))
used_some c [] s none on = absurd none
used_some c (r ∷ classes) s m on =
    by_place m (same_chunk r.place.chunk c) refl (λ k. used_some c classes s k on)
  where
    by_place : Among s (r ∷ classes) → (t : Bool) → same_chunk r.place.chunk c ≡ t
        → (Among s classes → s.place.words ≤ sum (map (λ (d : ClassRow). d.place.words)
        (filter (λ (d : ClassRow). same_chunk d.place.chunk c) classes)))
        → s.place.words ≤ sum (map (λ (d : ClassRow). d.place.words)
        (cond t (r ∷ filter (λ (d : ClassRow). same_chunk d.place.chunk c) classes)
        (filter (λ (d : ClassRow). same_chunk d.place.chunk c) classes)))
    by_place (inl e) true is later =
        first_in s.place.words r.place.words
        (map (λ (d : ClassRow). d.place.words)
        (filter (λ (d : ClassRow). same_chunk d.place.chunk c) classes))
        (ap (λ (d : ClassRow). d.place.words) e)
    by_place (inl e) false is later =
        let yes : same_chunk r.place.chunk c ≡ true =
        subst (λ (d : ClassRow). same_chunk d.place.chunk c ≡ true) e on in
        absurd (cc)
    by_place (inr k) true is later =
        later_in s.place.words r.place.words
        (map (λ (d : ClassRow). d.place.words)
        (filter (λ (d : ClassRow). same_chunk d.place.chunk c) classes)) (later k)
    by_place (inr k) false is later = later k

-- ---- rows that keep the rules

-- each record has words and is in a chunk of its loader, and no two chunks of a loader share a word
record AreTold (classes : List ClassRow) : Type 0 where
  words : (r : ClassRow) → Among r classes → 1 ≤ r.place.words
  held : (r : ClassRow) → Among r classes → Among r.place.chunk (chunks_of r.loader classes)
  apart : (u : ℕ) → Pairwise (λ a b. ¬ Meets a b) (chunks_of u classes)

none_told : AreTold []
none_told = record { words = λ r m. absurd m; held = λ r m. absurd m; apart = λ u. tt }

-- a record is in the chunk of its loader's last one, or first in a chunk
held_now : (pre : List BareRow) (r : ClassRow) → AreTold (classes_in pre) → has_place pre r ≡ true
    → Among r.place.chunk (chunks_of r.loader (classes_in pre ++ r ∷ []))
held_now pre r told h =
    let on_last = is_last_chunk r.loader r.place.chunk pre in
    let behind = eqb r.place.offset (used_words r.place.chunk pre) in
    let front = eqb r.place.offset 0 in
    let unused = is_unused r.place.chunk pre in
    subst (λ cs. Among r.place.chunk cs) (sym (chunks_more r.loader (classes_in pre) r))
    (elim (or_cases (on_last && behind) (front && unused) h) [
      | inl last ↦
          let t = is_last_chunk-among r.loader r.place.chunk pre (and_parts on_last behind last).0
          in
          among_front r.place.chunk (chunks_of r.loader (classes_in pre))
          (chunks_of r.loader (r ∷ []))
          (subst (λ (c : Chunk). Among c (chunks_of r.loader (classes_in pre))) t.3
          (subst (λ (u : ℕ). Among t.0.place.chunk (chunks_of u (classes_in pre))) t.2
          (told.held t.0 t.1)))
      | inr new ↦ by_tests (eqb r.loader r.loader) (eq-eqb r.loader r.loader refl)
          (eqb r.place.offset 0) (and_parts front unused new).0
    ])
  where
    by_tests : (s : Bool) → s ≡ true → (t : Bool) → t ≡ true
        → Among r.place.chunk (chunks_of r.loader (classes_in pre)
        ++ map (λ (d : ClassRow). d.place.chunk) (cond (s && t) (r ∷ []) []))
    by_tests true e true f = among_last r.place.chunk (chunks_of r.loader (classes_in pre))
    by_tests true e false f = absurd (cc)
    by_tests false e t f = absurd (cc)

-- the first record in a chunk is apart from those before it
first_apart : (pre : List BareRow) (r : ClassRow) → AreTold (classes_in pre)
    → has_place pre r ≡ true
    → eqb r.place.offset 0 ≡ true → (s : ClassRow) → Among s (classes_in pre)
    → ¬ Meets s.place.chunk r.place.chunk
first_apart pre r told h first s m shared =
    let on_last = is_last_chunk r.loader r.place.chunk pre in
    let behind = eqb r.place.offset (used_words r.place.chunk pre) in
    let front = eqb r.place.offset 0 in
    let unused = is_unused r.place.chunk pre in
    elim (or_cases (on_last && behind) (front && unused) h) [
      | inl last ↦
          let parts = and_parts on_last behind last in
          let t = is_last_chunk-among r.loader r.place.chunk pre parts.0 in
          let some = told.words t.0 t.1 in
          let used = used_some r.place.chunk (classes_in pre) t.0 t.1
          (ap (λ (c : Chunk). same_chunk c r.place.chunk) t.3 ∙ same_chunk-itself r.place.chunk) in
          let at_0 = eqb-true r.place.offset 0 first in
          let at_used = eqb-true r.place.offset (used_words r.place.chunk pre) parts.1 in
          absurd (omega (arith, some, used, at_0, at_used))
      | inr new ↦ absurd (is_unused-apart r.place.chunk (classes_in pre) s
          (and_parts front unused new).1 m
          (meets-turned s.place.chunk r.place.chunk shared))
    ]

apart_now : (pre : List BareRow) (r : ClassRow) → AreTold (classes_in pre) → has_place pre r ≡ true
    → (u : ℕ) → Pairwise (λ a b. ¬ Meets a b) (chunks_of u (classes_in pre ++ r ∷ []))
apart_now pre r told h u =
    subst (λ (cs : List Chunk). Pairwise (λ a b. ¬ Meets a b) cs)
    (sym (chunks_more u (classes_in pre) r)) (by_tests (eqb r.loader u) (eqb r.place.offset 0) refl)
  where
    own : List Chunk
    own = chunks_of u (classes_in pre)

    new : eqb r.place.offset 0 ≡ true → (d : Chunk) → Among d (chunks_of u (classes_in pre))
        → ¬ Meets d r.place.chunk
    new first d m =
        let is = chunk_is_of u (classes_in pre) d m in
        subst (λ (c : Chunk). ¬ Meets c r.place.chunk) is.on
        (first_apart pre r told h first is.row is.among)

    by_tests : (s t : Bool) → eqb r.place.offset 0 ≡ t
        → Pairwise (λ a b. ¬ Meets a b) (chunks_of u (classes_in pre)
        ++ map (λ (d : ClassRow). d.place.chunk) (cond (s && t) (r ∷ []) []))
    by_tests true true e = pairs_more own r.place.chunk (told.apart u) (new e)
    by_tests true false e =
        subst (λ (cs : List Chunk). Pairwise (λ a b. ¬ Meets a b) cs) (sym (append-nil own))
        (told.apart u)
    by_tests false t e =
        subst (λ (cs : List Chunk). Pairwise (λ a b. ¬ Meets a b) cs) (sym (append-nil own))
        (told.apart u)

more_told : (pre : List BareRow) (r : ClassRow) → AreTold (classes_in pre) → has_place pre r ≡ true
    → 1 ≤ r.place.words → AreTold (classes_in pre ++ r ∷ [])
more_told pre r told h some = record {
  words = λ s m. elim (among-push s r (classes_in pre) m) [
    | inl before ↦ told.words s before
    | inr e ↦ subst (λ (d : ClassRow). 1 ≤ d.place.words) (sym e) some
  ];
  held = λ s m. elim (among-push s r (classes_in pre) m) [
    | inl before ↦
        subst (λ (cs : List Chunk). Among s.place.chunk cs)
        (sym (chunks_more s.loader (classes_in pre) r))
        (among_front s.place.chunk (chunks_of s.loader (classes_in pre))
        (chunks_of s.loader (r ∷ []))
        (told.held s before))
    | inr e ↦
        subst (λ (d : ClassRow). Among d.place.chunk
        (chunks_of d.loader (classes_in pre ++ r ∷ [])))
        (sym e) (held_now pre r told h)
  ];
  apart = apart_now pre r told h;
}

rows_told : (sizes : Sizes) (base : ℕ) (pre rows : List BareRow) → AreTold (classes_in pre)
    → LiveRowsKeep sizes base pre rows → AreTold (classes_in (pre ++ rows))
rows_told sizes base pre [] told keep =
    subst (λ (l : List BareRow). AreTold (classes_in l)) (sym (append-nil pre)) told
rows_told sizes base pre (Loader r ∷ rows) told keep =
    subst (λ (l : List BareRow). AreTold (classes_in l)) (append_assoc pre (Loader r ∷ []) rows)
    (rows_told sizes base (pre ++ Loader r ∷ []) rows
    (subst AreTold (sym (classes_in-append pre (Loader r ∷ []) ∙ append-nil (classes_in pre))) told)
    keep.2)
rows_told sizes base pre (Class r p ∷ rows) told keep =
    let k = class_keeps sizes pre r keep.1 in
    subst (λ (l : List BareRow). AreTold (classes_in l)) (append_assoc pre (Class r p ∷ []) rows)
    (rows_told sizes base (pre ++ Class r p ∷ []) rows
    (subst AreTold (sym (classes_in-append pre (Class r p ∷ [])))
    (more_told pre r told k.place (leb-true 1 r.place.words k.words)))
    keep.2)

-- ---- arenas by name

arena_found : (classes : List ClassRow) (rows : List (Row ClassFile)) (x : List ℕ)
    → get (arenas_among classes rows) x ≡ option_map (λ u. chunks_of u classes) (number_of x rows)
arena_found classes [] x = get-empty (slice_cmp nat_cmp) x
arena_found classes (Loader r ∷ rows) x =
    got-insert (arenas_among classes rows) r.name (chunks_of r.number classes) x
    ∙ by_test (bytes_eq r.name x) (arena_found classes rows x)
  where
    by_test : (t : Bool)
        → get (arenas_among classes rows) x
        ≡ option_map (λ u. chunks_of u classes) (number_of x rows)
        → cond t (Some (chunks_of r.number classes)) (get (arenas_among classes rows) x)
        ≡ option_map (λ u. chunks_of u classes) (cond t (Some r.number) (number_of x rows))
    by_test true rest = refl
    by_test false rest = rest
arena_found classes (Class r c ∷ rows) x = arena_found classes rows x

-- the list of chunks under a name is that of the loader with the name
record IsListed (rows : List (Row ClassFile)) (x : List ℕ) (cs : List Chunk) : Type 0 where
  number : ℕ
  there : number_of x rows ≡ Some number
  own : chunks_of number (classes_in rows) ≡ cs

same_some : {X : Type 0} (x y : X) → Some x ≡ Some y → x ≡ y
same_some x y e = cc

listed : (rows : List (Row ClassFile)) (x : List ℕ) (cs : List Chunk)
    → get (arenas_among (classes_in rows) rows) x ≡ Some cs → IsListed rows x cs
listed rows x cs got =
    by_number (number_of x rows) refl (sym (arena_found (classes_in rows) rows x) ∙ got)
  where
    by_number : (o : Option ℕ) → number_of x rows ≡ o
        → option_map (λ u. chunks_of u (classes_in rows)) o ≡ Some cs → IsListed rows x cs
    by_number (Some u) is e = record {
      number = u;
      there = is;
      own = same_some (chunks_of u (classes_in rows)) cs e;
    }
    by_number None is e = absurd (cc)

-- ---- contents that stand for a cache

-- what is used about the rows of such contents
record StandApart (rows : List (Row ClassFile)) : Type 0 where
  told : AreTold (classes_in rows)
  differ : LoadersDiffer rows
  owned : (r : ClassRow) → Among r (classes_in rows) → is_live r.loader rows ≡ true
  apart : AreApart (classes_in rows)

rows_of_half : RowsStayLive → LoadersAreOwn → (sizes : Sizes) (h : OpenHalf) → IsGoodHalf sizes h
    → (rows : List (Row ClassFile)) → bare rows ≡ rows_of h → AreApart (classes_in rows)
    → StandApart rows
rows_of_half stay own sizes h good rows are apart =
    let live : LiveRowsKeep sizes (number_at_end h) [] (bare rows) =
    subst (λ l. LiveRowsKeep sizes (number_at_end h) [] l) (sym are) (stay sizes h good) in
    let mine : HasOwnLoaders (number_at_end h) (bare rows) =
    own sizes (number_at_end h) (bare rows) live in
    record {
      told = subst AreTold (classes-bare rows)
          (rows_told sizes (number_at_end h) [] (bare rows) none_told live);
      differ = differ-bare rows mine.differ;
      owned = λ r m.
          subst (λ (o : Option (List ℕ)). is_some o ≡ true) (name-bare r.loader rows)
          (mine.owned r (subst (λ (l : List ClassRow). Among r l) (sym (classes-bare rows)) m));
      apart = apart;
    }

stand_apart : RowsStayLive → LoadersAreOwn → (sizes : Sizes) (contents : List ℕ) (m : CacheState)
    (arenas : Arenas) (n : ℕ) (s : Stands sizes contents m arenas n) → StandApart s.rows
stand_apart stay own sizes contents m arenas n s =
    elim s.framed.counts [ inl zero ↦ by_half zero | inr one ↦ by_half one ]
  where
    bare_is : bare (rows_with lay s.rows) ≡ bare s.rows
    bare_is = bare-with lay s.rows

    apart : AreApart (classes_in s.rows)
    apart = subst AreApart
        (sym (classes-bare (rows_with lay s.rows)) ∙ ap classes_in bare_is ∙ classes-bare s.rows)
        s.framed.apart

    by_half : {counting other : List ℕ}
        → Counts sizes counting other (bare (rows_with lay s.rows)) n → StandApart s.rows
    by_half c =
        rows_of_half stay own sizes c.half c.good s.rows (sym bare_is ∙ c.rows_are) apart

pub arenas_apart : RowsStayLive → LoadersAreOwn → ArenasAreApart
arenas_apart stay own sizes contents m arenas n s = record {
  between = λ x y cs ds differ at_x at_y c d among_c among_d shared.
      let a = listed rows x cs (its x cs at_x) in
      let b = listed rows y ds (its y ds at_y) in
      let r = chunk_is_of a.number (classes_in rows) c
      (subst (λ (l : List Chunk). Among c l) (sym a.own) among_c) in
      let t = chunk_is_of b.number (classes_in rows) d
      (subst (λ (l : List Chunk). Among d l) (sym b.own) among_d) in
      let same = now.apart r.row t.row r.among t.among
      (subst (λ (e : Chunk). Meets e t.row.place.chunk) (sym r.on)
      (subst (λ (e : Chunk). Meets c e) (sym t.on) shared)) in
      let numbers : a.number ≡ b.number = sym r.own ∙ (same.1 ∙ t.own) in
      let name_x = name_found x a.number rows now.differ a.there in
      let name_y = name_found y b.number rows now.differ b.there in
      differ (same_some x y (sym name_x ∙ (ap (λ (u : ℕ). name_of u rows) numbers ∙ name_y)));
  within = λ x cs at_x.
      let a = listed rows x cs (its x cs at_x) in
      subst (λ (l : List Chunk). Pairwise (λ a b. ¬ Meets a b) l) a.own (now.told.apart a.number);
}
  where
    rows : List (Row ClassFile)
    rows = s.rows

    now : StandApart s.rows
    now = stand_apart stay own sizes contents m arenas n s

    its : (x : List ℕ) (cs : List Chunk) → get arenas x ≡ Some cs
        → get (arenas_among (classes_in s.rows) s.rows) x ≡ Some cs
    its x cs at_x = subst (λ (a : Arenas). get a x ≡ Some cs) s.arenas_are at_x

pub records_in_arenas : RowsStayLive → LoadersAreOwn → EachRecordIsInItsArena
records_in_arenas stay own sizes contents m arenas n s r among =
    let now = stand_apart stay own sizes contents m arenas n s in
    let name = some_name r.loader s.rows (now.owned r among) in
    let number = number_found name.0 r.loader s.rows now.differ name.1 in
    record {
      name = name.0;
      chunks = chunks_of r.loader (classes_in s.rows);
      named = name.1;
      arena =
          subst (λ (a : Arenas). get a name.0 ≡ Some (chunks_of r.loader (classes_in s.rows)))
          (sym s.arenas_are)
          (arena_found (classes_in s.rows) s.rows name.0
          ∙ ap (option_map (λ u. chunks_of u (classes_in s.rows))) number);
      held = now.told.held r among;
    }
