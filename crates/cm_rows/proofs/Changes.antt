-- What one more class, an unloaded loader and a moved chunk do to the rows of classes.
-- For `LiveRows::apply_move`.
use Rattle.std.proofs.Common.{◌≡◌, ◌≢◌, ℕ, ◌+◌, ◌≤◌, ◌⊎◌, Bool, true, false, cond, eqb, List, []}
use Rattle.std.proofs.Common.{◌∷◌, ◌++◌, map, Option, Some, None, inl, inr, refl, sym, ◌∙◌, ap}
use Rattle.std.proofs.Common.{subst, arith}
use Rattle.std.specs.Prelude.{not, filter}
use Rattle.std.specs.Option.{option_map}
use Rattle.std.proofs.lemmas.Bool.{eqb-true, eq-eqb}
use Rattle.cm_pool.specs.declared.chunk.Chunk.{Chunk}
use Rattle.cm_pool.specs.Lists.{Among}
use Rattle.cm_pool.proofs.{same_chunk-itself, same_chunk-cases, same_chunk-false, among-left}
use Rattle.cm_pool.proofs.{among-right, among-push, among-map, among-map_from, among-filter}
use Rattle.cm_pool.proofs.{among-filter_from}
use Rattle.cm_layout.specs.declared.class_row.ClassRow.{ClassRow}
use Rattle.cm_layout.specs.Rows.{classes_in, last_chunk, used_words}
use Rattle.cm_rows.specs.declared.live_loader.LastChunk.{LastChunk}
use Rattle.cm_rows.specs.Rows.{last_of}
use Rattle.cm_rows.specs.Held.{first_chunks, AreFounded}
use Rattle.cm_rows.proofs.Classes.{used, used-is, used-append, used-none, used-filter, last-push}
use Rattle.cm_rows.proofs.Classes.{last-none, last-filter, goes, moved_class, IsMoved}
use Rattle.cm_rows.proofs.Classes.{is_moved, last-moved, used-elsewhere, used-moved, first-push}
use Rattle.cm_rows.proofs.Classes.{first-moved, first-among, among-first}
use Rattle.cm_layout.specs.declared.row.Row.{Row}
use Rattle.cm_layout.proofs.{last_chunk-among}

-- a chunk with its used words
abbrev pub with_used : List ClassRow → Chunk → LastChunk
with_used rs c = record { chunk = c; used = used c rs }

abbrev with_words : {P : Type 0} → List (Row P) → Chunk → LastChunk
with_words rows c = record { chunk = c; used = used_words c rows }

-- a loader's last chunk with its used words, by the rows of classes alone
abbrev pub last_use : ℕ → List ClassRow → Option LastChunk
last_use u rs = option_map (with_used rs) (last_chunk u rs)

pub last_of-is : {P : Type 0} (u : ℕ) (rows : List (Row P))
    → last_of u rows ≡ last_use u (classes_in rows)
last_of-is u rows = by_last (last_chunk u (classes_in rows))
  where
    by_last : (o : Option Chunk)
        → option_map (with_words rows) o ≡ option_map (with_used (classes_in rows)) o
    by_last None = refl
    by_last (Some c) = ap (λ n. Some (record { chunk = c; used = n })) (used-is c rows)

-- the last use says which chunk is last
pub use-chunk : (u : ℕ) (rs : List ClassRow) (l : LastChunk) → last_use u rs ≡ Some l
    → (last_chunk u rs ≡ Some l.chunk) × (used l.chunk rs ≡ l.used)
use-chunk u rs l h = by_last (last_chunk u rs) h
  where
    by_last : (o : Option Chunk) → option_map (with_used rs) o ≡ Some l → (o ≡ Some l.chunk)
        × (used l.chunk rs ≡ l.used)
    by_last None e = absurd (cc)
    by_last (Some c) e =
        let is : record { chunk = c; used = used c rs } ≡ l = cc in
        let chunk : c ≡ l.chunk = ap (λ (x : LastChunk). x.chunk) is in
        let words : used c rs ≡ l.used = ap (λ (x : LastChunk). x.used) is in
        (ap Some chunk, ap (λ (x : Chunk). used x rs) (sym chunk) ∙ words)

pub ne-eqb : (a b : ℕ) → a ≢ b → eqb a b ≡ false
ne-eqb a b n = by_test (eqb a b) refl
  where
    by_test : (t : Bool) → eqb a b ≡ t → t ≡ false
    by_test true e = absurd (n (eqb-true a b e))
    by_test false e = refl

-- ---- one more class

-- a class that may follow others
pub record Joins (rs : List ClassRow) (r : ClassRow) : Type 0 where
  pub words : 1 ≤ r.place.words
  pub first : Among r.place.chunk (first_chunks (rs ++ r ∷ []))
  pub owner : (s : ClassRow) → Among s rs → s.place.chunk ≡ r.place.chunk → s.loader ≡ r.loader
  pub offset : used r.place.chunk rs ≡ r.place.offset

pub founded-push : (rs : List ClassRow) (r : ClassRow) → AreFounded rs → Joins rs r
    → AreFounded (rs ++ r ∷ [])
founded-push rs r h j = record { words = words; first = first; owner = owner }
  where
    words : (s : ClassRow) → Among s (rs ++ r ∷ []) → 1 ≤ s.place.words
    words s m = elim (among-push s r rs m) [
      | inl a ↦ h.words s a
      | inr e ↦ subst
          (λ (x : ClassRow). 1 ≤ x.place.words) (sym e) j.words
    ]

    first : (s : ClassRow) → Among s (rs ++ r ∷ [])
        → Among s.place.chunk (first_chunks (rs ++ r ∷ []))
    first s m =
        elim (among-push s r rs m) [
          | inl a ↦ subst
              (λ (l : List Chunk). Among s.place.chunk l) (sym (first-push rs r))
              (among-left s.place.chunk (first_chunks rs) _ (h.first s a))
          | inr e ↦ subst
              (λ (x : ClassRow). Among x.place.chunk (first_chunks (rs ++ r ∷ []))) (sym e) j.first
        ]

    by_last : (x y : ClassRow) → Among x rs ⊎ (x ≡ r) → Among y rs ⊎ (y ≡ r)
        → x.place.chunk ≡ y.place.chunk → x.loader ≡ y.loader
    by_last x y (inl a) (inl b) e = h.owner x y a b e
    by_last x y (inl a) (inr is) e = j.owner x a (e ∙ ap
        (λ (d : ClassRow). d.place.chunk) is) ∙ ap (λ (d : ClassRow). d.loader) (sym is)
    by_last x y (inr is) (inl b) e = ap
        (λ (d : ClassRow). d.loader) is ∙ sym (j.owner y b (sym e ∙ ap
        (λ (d : ClassRow). d.place.chunk) is))
    by_last x y (inr is) (inr as_is) e = ap (λ (d : ClassRow). d.loader) (is ∙ sym as_is)

    owner : (x y : ClassRow) → Among x (rs ++ r ∷ []) → Among y (rs ++ r ∷ [])
        → x.place.chunk ≡ y.place.chunk → x.loader ≡ y.loader
    owner x y a b e = by_last x y (among-push x r rs a) (among-push y r rs b) e

pub last_use-push : (rs : List ClassRow) (r : ClassRow) (v : ℕ) → Joins rs r
    → last_use v (rs ++ r ∷ [])
    ≡ cond (eqb r.loader v) (Some
    (record { chunk = r.place.chunk; used = r.place.offset + r.place.words })) (last_use v rs)
last_use-push rs r v j =
    ap (λ (o : Option Chunk). option_map (with_used (rs ++ r ∷ [])) o) (last-push v rs r)
    ∙ by_test (eqb r.loader v) refl
  where
    here : used r.place.chunk (rs ++ r ∷ []) ≡ r.place.offset + r.place.words
    here = used-append r.place.chunk rs (r ∷ [])
        ∙ rw (same_chunk-itself r.place.chunk) (omega (arith, j.offset))

    others : (o : Option Chunk) → last_chunk v rs ≡ o → eqb r.loader v ≡ false
        → option_map (with_used (rs ++ r ∷ [])) o ≡ option_map (with_used rs) o
    others None e f = refl
    others (Some c) e f =
        let s = last_chunk-among v rs c e in
        let differs : r.place.chunk ≢ c = λ same. let yes : eqb r.loader v ≡ true =
        eq-eqb r.loader v (sym (j.owner s.0 s.1 (s.3 ∙ sym same)) ∙ s.2) in absurd (cc) in
        let none : used c (r ∷ []) ≡ 0 = rw (same_chunk-false r.place.chunk c differs) refl in
        ap (λ n. Some (record { chunk = c; used = n })) (used-append c rs (r ∷ [])
        ∙ omega (arith, none))

    by_test : (t : Bool) → eqb r.loader v ≡ t
        → option_map (with_used (rs ++ r ∷ [])) (cond t (Some r.place.chunk) (last_chunk v rs))
        ≡ cond t (Some (record { chunk = r.place.chunk; used = r.place.offset + r.place.words }))
        (last_use v rs)
    by_test true e = ap (λ n. Some (record { chunk = r.place.chunk; used = n })) here
    by_test false e = others (last_chunk v rs) refl e

-- a class after the last record in its loader's last chunk
pub joins-top : (rs : List ClassRow) (r : ClassRow) → AreFounded rs → 1 ≤ r.place.words
    → last_use r.loader rs ≡ Some (record { chunk = r.place.chunk; used = r.place.offset })
    → Joins rs r
joins-top rs r h some last =
    let is = use-chunk r.loader rs (record { chunk = r.place.chunk; used = r.place.offset }) last in
    let t = last_chunk-among r.loader rs r.place.chunk is.0 in
    record {
      words = some;
      first = subst
          (λ (l : List Chunk). Among r.place.chunk l) (sym (first-push rs r))
          (among-left r.place.chunk (first_chunks rs) _
          (subst (λ (c : Chunk). Among c (first_chunks rs)) t.3 (h.first t.0 t.1)));
      owner = λ s m e. h.owner s t.0 m t.1 (e ∙ sym t.3) ∙ t.2;
      offset = is.1;
    }

-- a class that is first in a chunk without records
pub joins-new : (rs : List ClassRow) (r : ClassRow) → 1 ≤ r.place.words → r.place.offset ≡ 0
    → ((s : ClassRow) → Among s rs → s.place.chunk ≢ r.place.chunk) → Joins rs r
joins-new rs r some zero unused =
    record {
      words = some;
      first = among-first r (rs ++ r ∷ []) (among-right r rs (r ∷ []) (inl refl)) zero;
      owner = λ s m e. absurd (unused s m e);
      offset = used-none r.place.chunk rs unused ∙ sym zero;
    }

-- ---- an unloaded loader

abbrev pub others_than : ℕ → List ClassRow → List ClassRow
others_than u rs = filter (λ (r : ClassRow). not (eqb r.loader u)) rs

not-eqb : (a b : ℕ) → not (eqb a b) ≡ true → a ≢ b
not-eqb a b h e = let yes = eq-eqb a b e in by_test (eqb a b) yes h
  where
    by_test : (t : Bool) → t ≡ true → not t ≡ true → ⊥
    by_test true e h = absurd (cc)
    by_test false e h = absurd (cc)

eqb-not : (a b : ℕ) → a ≢ b → not (eqb a b) ≡ true
eqb-not a b n = ap not (ne-eqb a b n)

pub last_use-without : (u : ℕ) (rs : List ClassRow) (v : ℕ) → AreFounded rs
    → last_use v (others_than u rs) ≡ cond (eqb u v) None (last_use v rs)
last_use-without u rs v h = by_test (eqb u v) refl
  where
    others : u ≢ v → (o : Option Chunk) → last_chunk v rs ≡ o
        → option_map (with_used (others_than u rs)) o ≡ option_map (with_used rs) o
    others n None e = refl
    others n (Some c) e =
        let s = last_chunk-among v rs c e in
        ap (λ k. Some (record { chunk = c; used = k }))
        (used-filter c (λ (r : ClassRow). not (eqb r.loader u)) rs (λ r m on. eqb-not r.loader u
        (λ is. n (sym is ∙ h.owner r s.0 m s.1 (on ∙ sym s.3) ∙ s.2))))

    by_test : (t : Bool) → eqb u v ≡ t → last_use v (others_than u rs) ≡ cond t None (last_use v rs)
    by_test true e =
        let none = last-none v (others_than u rs)
        (λ r m is. not-eqb r.loader u (among-filter_from
        (λ (r : ClassRow). not (eqb r.loader u)) r rs m).1 (is ∙ sym (eqb-true u v e))) in
        ap (λ (o : Option Chunk). option_map (with_used (others_than u rs)) o) none
    by_test false e =
        let differs : u ≢ v = λ is. let yes = eq-eqb u v is in absurd (cc) in
        let stays = last-filter v (λ (r : ClassRow). not (eqb r.loader u)) rs
        (λ r m is. eqb-not r.loader u (λ same. differs (sym same ∙ is))) in
        ap (λ (o : Option Chunk). option_map (with_used (others_than u rs)) o) stays
        ∙ others differs (last_chunk v rs) refl

pub founded-without : (u : ℕ) (rs : List ClassRow) → AreFounded rs → AreFounded (others_than u rs)
founded-without u rs h =
    record {
      words = λ r m. h.words r (was r m).0;
      first = first;
      owner = λ r s m n e. h.owner r s (was r m).0 (was s n).0 e;
    }
  where
    was : (r : ClassRow) → Among r (others_than u rs) → Among r rs × (not (eqb r.loader u) ≡ true)
    was r m = among-filter_from (λ (r : ClassRow). not (eqb r.loader u)) r rs m

    first : (r : ClassRow) → Among r (others_than u rs)
        → Among r.place.chunk (first_chunks (others_than u rs))
    first r m =
        let old = was r m in
        let f = first-among r.place.chunk rs (h.first r old.0) in
        let same : f.0.loader ≡ r.loader = h.owner f.0 r f.1 old.0 f.2 in
        let stays : Among f.0 (others_than u rs) = among-filter
        (λ (r : ClassRow). not (eqb r.loader u)) f.0 rs f.1 (eqb-not f.0.loader u
        (λ is. not-eqb r.loader u old.1 (sym same ∙ is))) in
        subst (λ (c : Chunk). Among c (first_chunks (others_than u rs))) f.2
        (among-first f.0 (others_than u rs) stays f.3)

-- ---- a moved chunk

goes-stays : (from to c : Chunk) → c ≢ from → goes from to c ≡ c
goes-stays from to c n = rw (same_chunk-false c from n) refl

pub last_use-moved : (u : ℕ) (from to : Chunk) (rs : List ClassRow) (v : ℕ) → AreFounded rs
    → last_chunk u rs ≡ Some from → ((r : ClassRow) → Among r rs → r.place.chunk ≢ to)
    → last_use v (map (moved_class from to) rs)
    ≡ cond (eqb u v) (Some (record { chunk = to; used = used from rs })) (last_use v rs)
last_use-moved u from to rs v h last unused =
    ap (λ (o : Option Chunk). option_map (with_used (map (moved_class from to) rs)) o)
    (last-moved v from to rs) ∙ by_test (eqb u v) refl
  where
    gives : Option Chunk → Option LastChunk
    gives o = option_map (with_used (map (moved_class from to) rs)) (option_map (goes from to) o)

    own : used to (map (moved_class from to) rs) ≡ used from rs
    own = used-moved from to rs unused

    others : u ≢ v → (o : Option Chunk) → last_chunk v rs ≡ o
        → option_map (with_used (map (moved_class from to) rs)) (option_map (goes from to) o)
        ≡ option_map (with_used rs) o
    others n None e = refl
    others n (Some c) e =
        let s = last_chunk-among v rs c e in
        let t = last_chunk-among u rs from last in
        let not_from : c ≢ from =
        λ is. n (sym t.2 ∙ h.owner t.0 s.0 t.1 s.1 (t.3 ∙ sym is ∙ sym s.3) ∙ s.2) in
        let not_to : c ≢ to = λ is. unused s.0 s.1 (s.3 ∙ is) in
        let stays = goes-stays from to c not_from in
        ap (λ (d : Chunk). Some (record {
          chunk = d;
          used = used d (map (moved_class from to) rs);
        })) stays
        ∙ ap (λ k. Some (record { chunk = c; used = k }))
        (used-elsewhere c from to rs not_from not_to)

    by_test : (t : Bool) → eqb u v ≡ t
        → option_map (with_used (map (moved_class from to) rs))
        (option_map (goes from to) (last_chunk v rs))
        ≡ cond t (Some (record { chunk = to; used = used from rs })) (last_use v rs)
    by_test true e =
        let is : last_chunk v rs ≡ Some from = subst
        (λ (n : ℕ). last_chunk n rs ≡ Some from) (eqb-true u v e) last in
        let there : goes from to from ≡ to = rw (same_chunk-itself from) refl in
        ap (λ (o : Option Chunk). option_map (with_used (map (moved_class from to) rs))
        (option_map (goes from to) o)) is
        ∙ ap (λ (d : Chunk). Some
        (record { chunk = d; used = used d (map (moved_class from to) rs) })) there
        ∙ ap (λ k. Some (record { chunk = to; used = k })) own
    by_test false e = others (λ is. let yes = eq-eqb u v is in absurd (cc)) (last_chunk v rs) refl

goes-one : (from to a b : Chunk) → a ≢ to → b ≢ to → goes from to a ≡ goes from to b → a ≡ b
goes-one from to a b na nb e =
    elim (same_chunk-cases a from) [
      | inl (t, is) ↦ elim (same_chunk-cases b from) [
        | inl (s, also) ↦ is ∙ sym also
        | inr (s, differs) ↦ absurd (nb (sym (rw (t, s) at e)))
      ]
      | inr (t, n) ↦ elim (same_chunk-cases b from) [
        | inl (s, is) ↦ absurd (na (rw (t, s) at e))
        | inr (s, m) ↦ rw (t, s) at e
      ]
    ]

pub founded-moved : (from to : Chunk) (rs : List ClassRow) → AreFounded rs → ((r : ClassRow)
    → Among r rs → r.place.chunk ≢ to) → AreFounded (map (moved_class from to) rs)
founded-moved from to rs h unused = record { words = words; first = first; owner = owner }
  where
    was : (x : ClassRow) → Among x (map (moved_class from to) rs) → (r : ClassRow) × Among r rs
        × IsMoved from to r x
    was x m = let found = among-map_from (moved_class from to) x rs m in (
      found.0,
      found.1,
      subst (λ (y : ClassRow). IsMoved from to found.0 y) (sym found.2)
          (is_moved from to found.0),
    )

    words : (x : ClassRow) → Among x (map (moved_class from to) rs) → 1 ≤ x.place.words
    words x m = let r = was x m in omega (arith, h.words r.0 r.1, r.2.words)

    first : (x : ClassRow) → Among x (map (moved_class from to) rs)
        → Among x.place.chunk (first_chunks (map (moved_class from to) rs))
    first x m =
        let r = was x m in
        let there : Among (goes from to r.0.place.chunk) (map (goes from to) (first_chunks rs)) =
        among-map (goes from to) r.0.place.chunk (first_chunks rs) (h.first r.0 r.1) in
        let at_x : Among x.place.chunk (map (goes from to) (first_chunks rs)) = subst
        (λ (c : Chunk). Among c (map (goes from to) (first_chunks rs))) (sym r.2.chunk) there in
        subst (λ (l : List Chunk). Among x.place.chunk l) (sym (first-moved from to rs)) at_x

    owner : (x y : ClassRow) → Among x (map (moved_class from to) rs)
        → Among y (map (moved_class from to) rs) → x.place.chunk ≡ y.place.chunk
        → x.loader ≡ y.loader
    owner x y m n e =
        let r = was x m in
        let s = was y n in
        let same =
        goes-one from to r.0.place.chunk s.0.place.chunk (unused r.0 r.1) (unused s.0 s.1)
        (sym r.2.chunk ∙ e ∙ s.2.chunk) in
        r.2.loader ∙ h.owner r.0 s.0 r.1 s.1 same ∙ sym s.2.loader
