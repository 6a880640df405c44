-- The last chunk of a loader, at some number and later: as long as entries are apart from the rows
-- before, a chunk that is a loader's last either isn't used by these rows, or was its last one then
-- too.
-- For `ahead_stays_ahead`, `commands_follow_the_machine`, `committed_rows_are_the_machines`.
use Rattle.std.proofs.Common.{◌≡◌, ℕ, ◌+◌, ◌^◌, ◌≤◌, ◌⊎◌, Bool, true, false, cond, List, [], ◌∷◌}
use Rattle.std.proofs.Common.{◌++◌}
use Rattle.std.proofs.Common.{length, map, Option, Some, None, inl, inr, refl, sym, ap, subst, ◌∙◌}
use Rattle.std.proofs.Common.{arith, eqb, append-nil}
use Rattle.std.specs.Prelude.{◌&&◌, ◌||◌, not, filter, sum, nat_le}
use Rattle.std.specs.List.{AllByRecursion}
use Rattle.std.specs.Option.{option_map_or}
use Rattle.std.proofs.lemmas.Bool.{eqb-true, eq-eqb, leb-true, le-leb, and_parts, or_cases}
use Rattle.std.proofs.lemmas.List.{map-append}
use Rattle.std.proofs.lemmas.List.Sums.{sum_by-append}
use Rattle.std.proofs.lemmas.List.Elements.{filter-append}
use Rattle.cm_pool.specs.Geometry.{Sizes}
use Rattle.cm_pool.specs.declared.chunk.Chunk.{Chunk}
use Rattle.cm_pool.specs.Chunks.{chunk_size, same_chunk, Meets}
use Rattle.cm_pool.specs.Lists.{Among}
use Rattle.cm_pool.proofs.{same_chunk-true, same_chunk-itself, meets-itself, among-filter_from}
use Rattle.cm_layout.specs.declared.class_row.ClassRow.{ClassRow}
use Rattle.cm_layout.specs.declared.row.Row.TheVariants.{Loader, Class}
use Rattle.cm_layout.specs.declared.entry.Entry.{Entry}
use Rattle.cm_layout.specs.declared.entry.Entry.TheVariants as entry
use Rattle.cm_layout.specs.declared.move_entry.Move.{Move}
use Rattle.cm_layout.specs.Rows.{classes_in, last_chunk, used_words, rows_after, without_loader}
use Rattle.cm_layout.specs.Rows.{without_loaders, moved}
use Rattle.cm_layout.specs.Rules.{is_unused, is_last_chunk, has_place, class_fits, is_chunk}
use Rattle.cm_layout.specs.Rules.{broken_of}
use Rattle.cm_layout.specs.Rules.{is_live, has_room}
use Rattle.cm_layout.specs.Frames.{AreApart}
use Rattle.cm_layout.proofs.{begins_behind, classes_in-append, used-append, unused-none}
use Rattle.cm_group.specs.Groups.{Carried}
use Rattle.cm_state.specs.State.{words_show}
use Rattle.cm_state.specs.Entries.{AreCacheRows, MayFollow}
use Rattle.cm_state.specs.Laws.{EntriesAreSteps}
use Rattle.cm_commit.specs.Offers.{filled, writes_apart, rows_after_group}
use Rattle.cm_commit.proofs.{MoveKeeps, last-before, keeps-move, turned}
use Rattle.cm_front.proofs.{classes_left}
use Rattle.cm_handover.specs.Ahead.{AllFollow, AtEach, AllApart}
use Rattle.cm_handover.proofs.Following.{WordRows}

-- ---- by the rows of classes only

abbrev pub used_in : Chunk → List ClassRow → ℕ
used_in c classes =
    sum (map (λ (r : ClassRow). r.place.words)
    (filter (λ (r : ClassRow). same_chunk r.place.chunk c) classes))

abbrev is_last_in : ℕ → Chunk → List ClassRow → Bool
is_last_in u c classes =
    option_map_or (λ (last : Chunk). same_chunk last c) (last_chunk u classes) false

used_more : (c : Chunk) (a b : List ClassRow) → used_in c (a ++ b) ≡ used_in c a + used_in c b
used_more c a b =
    let test = λ (r : ClassRow). same_chunk r.place.chunk c in
    let words = λ (r : ClassRow). r.place.words in
    ap (λ (l : List ClassRow). sum (map words l)) (filter-append test a b)
    ∙ (ap sum (map-append words (filter test a) (filter test b))
    ∙ sum_by-append (λ (n : ℕ). n) (map words (filter test a)) (map words (filter test b)))

used_here : (r : ClassRow) → used_in r.place.chunk (r ∷ []) ≡ r.place.words
used_here r = rw (same_chunk-itself r.place.chunk) (omega arith)

last_more : (u : ℕ) (classes : List ClassRow) (r : ClassRow)
    → last_chunk u (classes ++ r ∷ [])
    ≡ cond (eqb r.loader u) (Some r.place.chunk) (last_chunk u classes)
last_more u [] r = refl
last_more u (s ∷ classes) r =
    ap (λ (o : Option Chunk).
    elim o [ Some c ↦ Some c | None ↦ cond (eqb s.loader u) (Some s.place.chunk) None ])
    (last_more u classes r)
    ∙ by_test (eqb r.loader u)
  where
    by_test : (t : Bool)
        → elim (cond t (Some r.place.chunk) (last_chunk u classes))
        [ Some c ↦ Some c | None ↦ cond (eqb s.loader u) (Some s.place.chunk) None ]
        ≡ cond t (Some r.place.chunk)
        (elim (last_chunk u classes)
        [ Some c ↦ Some c | None ↦ cond (eqb s.loader u) (Some s.place.chunk) None ])
    by_test true = refl
    by_test false = refl

-- ---- without a loader

abbrev others : ℕ → List ClassRow → List ClassRow
others u classes = filter (λ (r : ClassRow). not (eqb r.loader u)) classes

true_not : {X : Type 0} → true ≡ false → X
true_not e = absurd (cc)

last_left : (v u : ℕ) (classes : List ClassRow) → eqb v u ≡ false
    → last_chunk v (others u classes) ≡ last_chunk v classes
last_left v u [] d = refl
last_left v u (r ∷ classes) d = by_test (last_left v u classes d) (eqb r.loader u) refl
  where
    not_mine : eqb r.loader u ≡ true → eqb r.loader v ≡ false
    not_mine e = by_v (eqb r.loader v) refl
      where
        by_v : (t : Bool) → eqb r.loader v ≡ t → t ≡ false
        by_v true f =
            let same : v ≡ u = sym (eqb-true r.loader v f) ∙ eqb-true r.loader u e in
            true_not (sym (eq-eqb v u same) ∙ d)
        by_v false f = refl

    passed : (t : Bool) → t ≡ false → (o : Option Chunk)
        → o ≡ elim o [ Some c ↦ Some c | None ↦ cond t (Some r.place.chunk) None ]
    passed true h o = true_not h
    passed false h (Some c) = refl
    passed false h None = refl

    by_test : last_chunk v (others u classes) ≡ last_chunk v classes
        → (t : Bool) → eqb r.loader u ≡ t
        → last_chunk v (cond (not t) (r ∷ others u classes) (others u classes))
        ≡ elim (last_chunk v classes)
        [ Some c ↦ Some c | None ↦ cond (eqb r.loader v) (Some r.place.chunk) None ]
    by_test rest true e = rest ∙ passed (eqb r.loader v) (not_mine e) (last_chunk v classes)
    by_test rest false e =
        ap (λ (o : Option Chunk).
        elim o [ Some c ↦ Some c | None ↦ cond (eqb r.loader v) (Some r.place.chunk) None ]) rest

last_gone : (u : ℕ) (classes : List ClassRow) → last_chunk u (others u classes) ≡ None
last_gone u [] = refl
last_gone u (r ∷ classes) = by_test (last_gone u classes) (eqb r.loader u) refl
  where
    by_test : last_chunk u (others u classes) ≡ None → (t : Bool) → eqb r.loader u ≡ t
        → last_chunk u (cond (not t) (r ∷ others u classes) (others u classes)) ≡ None
    by_test rest true e = rest
    by_test rest false e =
        ap (λ (o : Option Chunk).
        elim o [ Some c ↦ Some c | None ↦ cond (eqb r.loader u) (Some r.place.chunk) None ]) rest
        ∙ ap (λ t. cond t (Some r.place.chunk) None) e

-- the words of a chunk stay if no row of the loader is on it
used_left : (c : Chunk) (u : ℕ) (classes : List ClassRow)
    → ((r : ClassRow) → Among r classes → same_chunk r.place.chunk c ≡ true → eqb r.loader u ≡
    false)
    → used_in c (others u classes) ≡ used_in c classes
used_left c u [] h = refl
used_left c u (r ∷ classes) h =
    by_test (used_left c u classes (λ s m. h s (inr m))) (eqb r.loader u) refl
    (same_chunk r.place.chunk c) refl
  where
    words : List ClassRow → List ℕ
    words l =
        map (λ (s : ClassRow). s.place.words)
        (filter (λ (s : ClassRow). same_chunk s.place.chunk c) l)

    by_test : used_in c (others u classes) ≡ used_in c classes
        → (t : Bool) → eqb r.loader u ≡ t → (on : Bool) → same_chunk r.place.chunk c ≡ on
        → used_in c (cond (not t) (r ∷ others u classes) (others u classes))
        ≡ used_in c (r ∷ classes)
    by_test rest true e true on = true_not (sym e ∙ h r (inl refl) on)
    by_test rest true e false on = rest ∙ sym (used_more c (r ∷ []) classes ∙ off)
      where
        off : used_in c (r ∷ []) + used_in c classes ≡ used_in c classes
        off = rw on (omega arith)
    by_test rest false e t on =
        used_more c (r ∷ []) (others u classes)
        ∙ (ap (λ n. used_in c (r ∷ []) + n) rest ∙ sym (used_more c (r ∷ []) classes))

-- ---- now and before

-- a chunk that is a loader's last now isn't used by the old rows, or was its last one then too,
-- with no more words
pub record IsGrown (old now : WordRows) : Type 0 where
  pub each : (u : ℕ) (c : Chunk) → is_last_chunk u c now ≡ true
      → (is_unused c old ≡ true)
      ⊎ ((is_last_chunk u c old ≡ true) × (used_words c old ≤ used_words c now))

pub grown_first : (rows : WordRows) → IsGrown rows rows
grown_first rows = record { each = λ u c h. inr (h, omega arith) }

-- this depends only on the rows of classes
by_classes : (old now next : WordRows) → classes_in next ≡ classes_in now → IsGrown old now
    → IsGrown old next
by_classes old now next same g = record {
  each = λ u c h.
      elim (g.each u c (subst (λ l. is_last_in u c l ≡ true) same h)) [
        | inl unused ↦ inl unused
        | inr last ↦ inr (last.0, subst (λ l. used_words c old ≤ used_in c l) (sym same) last.1)
      ];
}

-- where an entry's class is put that is apart from the old rows
abbrev MayGo : WordRows → ClassRow → Type 0
MayGo old r =
    (is_unused r.place.chunk old ≡ true)
    ⊎ ((is_last_chunk r.loader r.place.chunk old ≡ true)
    × (used_words r.place.chunk old ≤ r.place.offset))

may_go : (old : WordRows) (r : ClassRow)
    → (is_unused r.place.chunk old
    || (is_last_chunk r.loader r.place.chunk old
    && nat_le (used_words r.place.chunk old) r.place.offset)) ≡ true → MayGo old r
may_go old r h =
    elim (or_cases (is_unused r.place.chunk old)
    (is_last_chunk r.loader r.place.chunk old
    && nat_le (used_words r.place.chunk old) r.place.offset) h) [
      | inl unused ↦ inl unused
      | inr last ↦
          let parts =
          and_parts (is_last_chunk r.loader r.place.chunk old)
          (nat_le (used_words r.place.chunk old) r.place.offset) last
          in
          inr (parts.0, leb-true (used_words r.place.chunk old) r.place.offset parts.1)
    ]

same_last : (c d : Chunk) → option_map_or (λ (last : Chunk). same_chunk last c) (Some d) false ≡
    true
    → c ≡ d
same_last c d h = sym (same_chunk-true d c h)

-- what holds of a loader's last chunk
abbrev WasLast : WordRows → WordRows → ℕ → Chunk → Type 0
WasLast old now u c =
    (is_unused c old ≡ true)
    ⊎ ((is_last_chunk u c old ≡ true) × (used_words c old ≤ used_words c now))

grown_class : (old now : WordRows) (r : ClassRow) (words : List ℕ) → IsGrown old now
    → has_place now r ≡ true → MayGo old r → IsGrown old (now ++ Class r words ∷ [])
grown_class old now r words g place go = record {
  each = λ u c h. by_loader u c (eqb r.loader u) refl (last_is u c h);
}
  where
    next : classes_in (now ++ Class r words ∷ []) ≡ classes_in now ++ r ∷ []
    next = classes_in-append now (Class r words ∷ [])

    more : (c : Chunk)
        → used_words c (now ++ Class r words ∷ []) ≡ used_words c now + used_in c (r ∷ [])
    more c = ap (used_in c) next ∙ used_more c (classes_in now) (r ∷ [])

    last_is : (u : ℕ) (c : Chunk) → is_last_chunk u c (now ++ Class r words ∷ []) ≡ true
        → option_map_or (λ (last : Chunk). same_chunk last c)
        (cond (eqb r.loader u) (Some r.place.chunk) (last_chunk u (classes_in now))) false ≡ true
    last_is u c h =
        sym (ap (λ (o : Option Chunk). option_map_or (λ (last : Chunk). same_chunk last c) o false)
        (ap (last_chunk u) next ∙ last_more u (classes_in now) r)) ∙ h

    here : (u : ℕ) (c : Chunk) → r.loader ≡ u → c ≡ r.place.chunk → WasLast old (now ++ Class r
        words ∷ []) u c
    here u c mine is =
        subst (λ d. WasLast old (now ++ Class r words ∷ []) u d) (sym is) (subst (λ v. WasLast old
        (now ++ Class r words ∷ []) v r.place.chunk) mine
        (elim go [
          | inl unused ↦ inl unused
          | inr last ↦
              let from = begins_behind now r place in
              let behind = last.1 in
              let all = more r.place.chunk in
              inr (last.0, omega (arith, from, behind, all))
        ]))

    there : (u : ℕ) (c : Chunk) → is_last_chunk u c now ≡ true → WasLast old (now ++ Class r words
        ∷ []) u c
    there u c h =
        elim (g.each u c h) [
          | inl unused ↦ inl unused
          | inr last ↦
              let to = last.1 in
              let all = more c in
              inr (last.0, omega (arith, to, all))
        ]

    by_loader : (u : ℕ) (c : Chunk) (t : Bool) → eqb r.loader u ≡ t
        → option_map_or (λ (last : Chunk). same_chunk last c)
        (cond t (Some r.place.chunk) (last_chunk u (classes_in now))) false ≡ true
        → WasLast old (now ++ Class r words ∷ []) u c
    by_loader u c true e h = here u c (eqb-true r.loader u e) (same_last c r.place.chunk h)
    by_loader u c false e h = there u c h

-- a row of the chunk that is a loader's last
abbrev HasOn : ℕ → Chunk → List ClassRow → Type 0
HasOn u c l = (s : ClassRow) × Among s l × (s.loader ≡ u) × (s.place.chunk ≡ c)

last_among : (u : ℕ) (c : Chunk) (classes : List ClassRow) → is_last_in u c classes ≡ true
    → HasOn u c classes
last_among u c [] h = absurd (cc)
last_among u c (r ∷ classes) h =
    by_rest (λ k. last_among u c classes k) (last_chunk u classes) refl h
  where
    by_mine : (t : Bool) → eqb r.loader u ≡ t
        → option_map_or (λ (last : Chunk). same_chunk last c)
        (cond t (Some r.place.chunk) None) false ≡ true → HasOn u c (r ∷ classes)
    by_mine true e k =
        (r, inl refl, eqb-true r.loader u e, same_chunk-true r.place.chunk c k)
    by_mine false e k = absurd (cc)

    by_rest : (is_last_in u c classes ≡ true → HasOn u c classes)
        → (o : Option Chunk) → last_chunk u classes ≡ o
        → option_map_or (λ (last : Chunk). same_chunk last c)
        (elim o [ Some d ↦ Some d | None ↦ cond (eqb r.loader u) (Some r.place.chunk) None ]) false
        ≡ true
        → HasOn u c (r ∷ classes)
    by_rest rest (Some d) e k =
        let found = rest
        (ap (λ (o : Option Chunk). option_map_or (λ (last : Chunk). same_chunk last c) o false) e ∙
        k)
        in
        (found.0, inr found.1, found.2, found.3)
    by_rest rest None e k = by_mine (eqb r.loader u) refl k

grown_unload : (old now : WordRows) (u : ℕ) → IsGrown old now → AreApart (classes_in now)
    → IsGrown old (without_loader u now)
grown_unload old now u g apart = record {
  each = λ v c h.
      by_loader v c (eqb v u) refl (subst (λ l. is_last_in v c l ≡ true) (classes_left u now) h);
}
  where
    none_last : (c : Chunk) → is_last_in u c (others u (classes_in now)) ≡ true → true ≡ false
    none_last c h =
        sym h
        ∙ ap (λ (o : Option Chunk). option_map_or (λ (last : Chunk). same_chunk last c) o false)
        (last_gone u (classes_in now))

    -- no row of the unloaded loader is on another's last chunk
    not_on : (v : ℕ) (c : Chunk) → eqb v u ≡ false → is_last_chunk v c now ≡ true
        → (r : ClassRow) → Among r (classes_in now) → same_chunk r.place.chunk c ≡ true
        → eqb r.loader u ≡ false
    not_on v c d h r m on =
        let found = last_among v c (classes_in now) h in
        let chunks : r.place.chunk ≡ found.0.place.chunk =
        same_chunk-true r.place.chunk c on ∙ sym found.3 in
        let one = apart r found.0 m found.1
        (subst (λ k. Meets r.place.chunk k) chunks (meets-itself r.place.chunk)) in
        ap (λ k. eqb k u) (one.1 ∙ found.2) ∙ d

    others_stay : (v : ℕ) (c : Chunk) → eqb v u ≡ false
        → is_last_in v c (others u (classes_in now)) ≡ true → is_last_chunk v c now ≡ true
    others_stay v c d h =
        sym (ap (λ (o : Option Chunk). option_map_or (λ (last : Chunk). same_chunk last c) o false)
        (last_left v u (classes_in now) d)) ∙ h

    by_loader : (v : ℕ) (c : Chunk) (t : Bool) → eqb v u ≡ t
        → is_last_in v c (others u (classes_in now)) ≡ true → WasLast old (without_loader u now) v c
    by_loader v c true e h =
        true_not (none_last c (subst (λ k. is_last_in k c (others u (classes_in now)) ≡ true)
        (eqb-true v u e) h))
    by_loader v c false e h =
        let then = others_stay v c e h in
        let stay : used_words c (without_loader u now) ≡ used_words c now =
        ap (used_in c) (classes_left u now)
        ∙ used_left c u (classes_in now) (not_on v c e then) in
        elim (g.each v c then) [
          | inl unused ↦ inl unused
          | inr last ↦ let to = last.1 in inr (last.0, omega (arith, to, stay))
        ]

-- without a loader chunks stay apart
apart_left : (u : ℕ) (now : WordRows) → AreApart (classes_in now)
    → AreApart (classes_in (without_loader u now))
apart_left u now apart r s in_r in_s meet =
    let among = λ (d : ClassRow) (m : Among d (classes_in (without_loader u now))).
    (among-filter_from (λ (c : ClassRow). not (eqb c.loader u)) d (classes_in now)
    (subst (λ (l : List ClassRow). Among d l) (classes_left u now) m)).0 in
    apart r s (among r in_r) (among s in_s) meet

grown_unload_all : (old : WordRows) (us : List ℕ) (now : WordRows) → IsGrown old now
    → AreApart (classes_in now) → IsGrown old (without_loaders us now)
grown_unload_all old [] now g apart = g
grown_unload_all old (u ∷ us) now g apart =
    grown_unload_all old us (without_loader u now) (grown_unload old now u g apart)
    (apart_left u now apart)

-- ---- a move

used_moved : (c from to : Chunk) (now : WordRows) → same_chunk from c ≡ false
    → same_chunk to c ≡ false → used_words c (moved from to now) ≡ used_words c now
used_moved c from to [] f t = refl
used_moved c from to (Loader r ∷ now) f t = used_moved c from to now f t
used_moved c from to (Class r words ∷ now) f t =
    by_test (same_chunk r.place.chunk from) refl (used_moved c from to now f t)
  where
    by_test : (s : Bool) → same_chunk r.place.chunk from ≡ s
        → used_words c (moved from to now) ≡ used_words c now
        → used_words c
        (cond s (Class (record r { place = record r.place { chunk = to } }) words) (Class r words)
        ∷ moved from to now)
        ≡ used_words c (Class r words ∷ now)
    by_test true e rest =
        let there : ClassRow = record r { place = record r.place { chunk = to } } in
        let here : same_chunk r.place.chunk c ≡ false =
        subst (λ (d : Chunk). same_chunk d c ≡ false)
        (sym (same_chunk-true r.place.chunk from e)) f in
        let new : used_words c (Class there words ∷ []) ≡ 0 = rw t refl in
        let old : used_words c (Class r words ∷ []) ≡ 0 = rw here refl in
        omega (
          arith,
          used-append c (Class there words ∷ []) (moved from to now),
          used-append c (Class r words ∷ []) now,
          new,
          old,
          rest,
        )
    by_test false e rest =
        omega (
          arith,
          used-append c (Class r words ∷ []) (moved from to now),
          used-append c (Class r words ∷ []) now,
          rest,
        )

grown_move : (old now : WordRows) (e : Move) → IsGrown old now → is_unused e.to now ≡ true
    → is_unused e.to old ≡ true → IsGrown old (moved e.from e.to now)
grown_move old now e g free apart = record {
  each = λ u c h. elim (last-before u c e.from e.to now h) [
    | inl to ↦ inl (subst (λ (d : Chunk). is_unused d old ≡ true) to apart)
    | inr stayed ↦ elim (g.each u c stayed.last) [
      | inl unused ↦ inl unused
      | inr last ↦
          let found = last_among u c (classes_in now) stayed.last in
          let other : same_chunk e.to c ≡ false =
          turned c e.to (subst (λ (d : Chunk). same_chunk d e.to ≡ false) found.3
          (unused-none e.to now free found.0 found.1)) in
          let most = last.1 in
          inr (last.0, omega (arith, most, used_moved c e.from e.to now stayed.other other))
    ]
  ];
}

-- ---- one entry after another

kept : (a b : Bool) → broken_of a b ≡ None → b ≡ true
kept true true h = refl
kept true false h = absurd (cc)
kept false b h = absurd (cc)

pub rule_place : (sizes : Sizes) (rows : WordRows) (r : ClassRow)
    → class_fits sizes rows r ≡ true → has_place rows r ≡ true
rule_place sizes rows r h =
    (and_parts (is_chunk sizes r.place.chunk && nat_le 1 r.place.words
    && nat_le (r.place.offset + r.place.words) (chunk_size r.place.chunk.order)) (has_place rows r)
    h).1

grown_entry : (sizes : Sizes) (n : ℕ) (old now : WordRows) (e : Entry (List ℕ)) → IsGrown old now
    → AreCacheRows words_show sizes n now → MayFollow words_show sizes n now e
    → writes_apart old e ≡ true → IsGrown old (rows_after now e)
grown_entry sizes n old now (entry.Live (Loader r)) g are may apart =
    by_classes old now (now ++ Loader r ∷ [])
    (classes_in-append now (Loader r ∷ []) ∙ append-nil (classes_in now)) g
grown_entry sizes n old now (entry.Live (Class r words)) g are may apart =
    grown_class old now r words g
    (rule_place sizes now r
    (kept (is_live r.loader now && has_room sizes now (Class r words))
    (class_fits sizes now r) may.keeps))
    (may_go old r apart)
grown_entry sizes n old now (entry.Unload e) g are may apart =
    grown_unload old now e.loader g are.apart
grown_entry sizes n old now (entry.UnloadAll e) g are may apart =
    grown_unload_all old e.loaders now g are.apart
grown_entry sizes n old now (entry.Move e) g are may apart =
    let kept : MoveKeeps sizes now e = keeps-move sizes now e may.keeps in
    grown_move old now e g kept.unused apart

-- the same after entries that are apart from the old rows
pub grown_all : EntriesAreSteps (List ℕ) → (sizes : Sizes) (n : ℕ) (old now : WordRows)
    (a : List Carried) → IsGrown old now → AreCacheRows words_show sizes n now
    → AllFollow sizes now n a
    → AllByRecursion (λ (d : Carried). writes_apart old d.entry ≡ true) a → n + length a ≤ 2 ^ 63
    → IsGrown old (rows_after_group now a)
grown_all steps sizes n old now [] g are follow apart to = g
grown_all steps sizes n old now (c ∷ a) g are follow apart to =
    grown_all steps sizes (n + 1) old (rows_after now (filled c)) a
    (grown_entry sizes n old now c.entry g are follow.0 apart.0)
    (steps words_show sizes n now (filled c) are follow.0 (omega (arith, to))).rows_are follow.2
    apart.1 (omega (arith, to))

-- ---- one more class

-- a class is put on top of its loader's last chunk, or on a chunk that these don't meet
pub record GoesOnTop (now : WordRows) (r : ClassRow) : Type 0 where
  pub last : is_last_chunk r.loader r.place.chunk now ≡ true
  pub behind : r.place.offset ≡ used_words r.place.chunk now

pub or_left : (a b : Bool) → a ≡ true → (a || b) ≡ true
or_left a b p = rw p refl

or_right : (a b : Bool) → b ≡ true → (a || b) ≡ true
or_right true b p = refl
or_right false b p = p

-- on top it is apart from all earlier rows
pub top_apart : (old now : WordRows) (r : ClassRow) → IsGrown old now → GoesOnTop now r
    → writes_apart old (entry.Live (Class r (tt {0}))) ≡ true
top_apart old now r g top =
    let unused = is_unused r.place.chunk old in
    let last = is_last_chunk r.loader r.place.chunk old in
    let behind = nat_le (used_words r.place.chunk old) r.place.offset in
    elim (g.each r.loader r.place.chunk top.last) [
      | inl free ↦ or_left unused (last && behind) free
      | inr then ↦
          let to = then.1 in
          let is = top.behind in
          or_right unused (last && behind)
          (rw (then.0) (le-leb (used_words r.place.chunk old) r.place.offset (omega (
            arith,
            to,
            is,
          ))))
    ]

pub tops_apart : EntriesAreSteps (List ℕ) → (sizes : Sizes) (n : ℕ) (rows : WordRows)
    (a : List Carried) (r : ClassRow) → AreCacheRows words_show sizes n rows
    → AllFollow sizes rows n a → AllApart rows a → n + length a ≤ 2 ^ 63
    → GoesOnTop (rows_after_group rows a) r
    → AtEach (λ k at. writes_apart at (entry.Live (Class r (tt {0}))) ≡ true) n rows a
tops_apart steps sizes n rows [] r are follow apart to top =
    top_apart rows rows r (grown_first rows) top
tops_apart steps sizes n rows (c ∷ a) r are follow apart to top = (
  top_apart rows (rows_after_group rows (c ∷ a)) r
      (grown_all steps sizes n rows rows (c ∷ a) (grown_first rows) are follow apart.0 to) top,
  tops_apart steps sizes (n + 1) (rows_after rows (filled c)) a r
      (steps words_show sizes n rows (filled c) are follow.0 (omega (arith, to))).rows_are follow.2
      apart.1 (omega (arith, to)) top,
)
