-- Where the records of rows that keep the rules lie: inside their chunks, one after another.
-- For `Committer::advance`, `Committer::images`, `Committer::offer` and others.
use Rattle.std.proofs.Common.{◌≡◌, ℕ, ◌+◌, ◌-◌, ◌*◌, ◌<◌, ◌≤◌, ◌⊎◌, inl, inr, true, List, []}
use Rattle.std.proofs.Common.{◌∷◌, ◌++◌, refl, sym, ap, subst, ◌∙◌, arith, append_assoc, append-nil}
use Rattle.std.proofs.Common.{eqb}
use Rattle.std.specs.Prelude.{◌&&◌, ◌%◌, ◌/◌, ◌==◌, nat_le, nat_lt}
use Rattle.std.proofs.lemmas.Bool.{leb-true, ltb-true, eqb-true, cases_lt, and_parts}
use Rattle.std.proofs.lemmas.Bool.{or_cases}
use Rattle.std.proofs.Math.Nat.{mul-le-mul_right}
use Rattle.cm_pool.specs.declared.chunk.Chunk.{Chunk}
use Rattle.cm_pool.specs.declared.place.Place.{Place}
use Rattle.cm_pool.specs.Chunks.{chunk_size, Meets, Covers}
use Rattle.cm_pool.specs.Geometry.{Sizes}
use Rattle.cm_pool.specs.Lists.{Among}
use Rattle.cm_pool.proofs.{same_chunk-itself, among-push}
use Rattle.cm_layout.specs.declared.class_row.ClassRow.{ClassRow}
use Rattle.cm_layout.specs.declared.row.Row.TheVariants.{Loader, Class}
use Rattle.cm_layout.specs.Offsets.{root_at, root_size, record_at}
use Rattle.cm_layout.specs.Rows.{classes_in, used_words}
use Rattle.cm_layout.specs.Rules.{is_chunk, is_unused, is_last_chunk, has_place}
use Rattle.cm_layout.specs.Frames.{BareRow, LiveRowsKeep, AreApart}
use Rattle.cm_layout.proofs.{class_keeps, classes_in-append, is_unused-apart, is_last_chunk-among}
use Rattle.cm_layout.proofs.{used-append, begins_behind}

-- ---- inside

-- the words lie in the chunk, and the chunk in a root that the region can have
pub record IsInside (sizes : Sizes) (place : Place) : Type 0 where
  pub order : place.chunk.order ≤ sizes.top
  pub root : place.chunk.root < sizes.roots
  pub words : place.offset + place.words ≤ chunk_size place.chunk.order
  pub chunk : place.chunk.at + chunk_size place.chunk.order ≤ chunk_size sizes.top

pub inside : (sizes : Sizes) (place : Place) → is_chunk sizes place.chunk ≡ true
    → nat_le (place.offset + place.words) (chunk_size place.chunk.order) ≡ true
    → IsInside sizes place
inside sizes place lawful within =
    let c = place.chunk in
    let order = nat_le c.order sizes.top in
    let root = nat_lt c.root sizes.roots in
    let aligned = (c.at % chunk_size c.order) == 0 in
    let fits = nat_le (c.at + chunk_size c.order) (chunk_size sizes.top) in
    let all = and_parts (order && root && aligned) fits lawful in
    let front = and_parts order root (and_parts (order && root) aligned all.0).0 in
    record {
      order = leb-true c.order sizes.top front.0;
      root = ltb-true c.root sizes.roots front.1;
      words = leb-true (place.offset + place.words) (chunk_size c.order) within;
      chunk = leb-true (c.at + chunk_size c.order) (chunk_size sizes.top) all.1;
    }

-- a record ends at the end of its root, or before
pub ends_in_root : (sizes : Sizes) (place : Place) → IsInside sizes place
    → record_at sizes place + 8 * place.words ≤ root_at sizes (place.chunk.root + 1)
ends_in_root sizes place is = omega (arith, is.words, is.chunk)

pub begins_in_root : (sizes : Sizes) (place : Place)
    → root_at sizes place.chunk.root ≤ record_at sizes place
begins_in_root sizes place = omega arith

-- ---- one after another

-- each record ends within the words that its chunk has in use
abbrev pub IsStacked : List BareRow → Type 0
IsStacked rows =
    (r : ClassRow) → Among r (classes_in rows)
    → r.place.offset + r.place.words ≤ used_words r.place.chunk rows

-- each class of rows that keep the rules lies inside a chunk, and they are stacked
pub record AreStacked (sizes : Sizes) (rows : List BareRow) : Type 0 where
  pub each : (r : ClassRow) → Among r (classes_in rows) → IsInside sizes r.place
  pub stacked : IsStacked rows

used-one : (r : ClassRow) → used_words r.place.chunk (Class r (tt {0}) ∷ []) ≡ r.place.words
used-one r = rw (same_chunk-itself r.place.chunk) (omega arith)

stacked-class : (sizes : Sizes) (pre : List BareRow) (r : ClassRow) → AreStacked sizes pre
    → IsInside sizes r.place → has_place pre r ≡ true
    → AreStacked sizes (pre ++ Class r (tt {0}) ∷ [])
stacked-class sizes pre r are is h = record {
  each = λ x m. elim (earlier x m) [
    | inl old ↦ are.each x old
    | inr e ↦ subst (λ (d : ClassRow). IsInside sizes d.place) (sym e) is
  ];
  stacked = λ x m. elim (earlier x m) [
    | inl old ↦
        let before = are.stacked x old in
        omega (arith, before, used-append x.place.chunk pre (Class r (tt {0}) ∷ []))
    | inr e ↦
        subst (λ (d : ClassRow). d.place.offset + d.place.words
        ≤ used_words d.place.chunk (pre ++ Class r (tt {0}) ∷ [])) (sym e)
        (omega (
          arith,
          used-append r.place.chunk pre (Class r (tt {0}) ∷ []),
          used-one r,
          begins_behind pre r h,
        ))
  ];
}
  where
    earlier : (x : ClassRow) → Among x (classes_in (pre ++ Class r (tt {0}) ∷ []))
        → Among x (classes_in pre) ⊎ (x ≡ r)
    earlier x m =
        among-push x r (classes_in pre)
        (subst (λ (l : List ClassRow). Among x l) (classes_in-append pre (Class r (tt {0}) ∷ [])) m)

stacked-loader : (sizes : Sizes) (pre : List BareRow) (row : BareRow) → classes_in (row ∷ []) ≡ []
    → AreStacked sizes pre → AreStacked sizes (pre ++ row ∷ [])
stacked-loader sizes pre row none are =
    let same : classes_in (pre ++ row ∷ []) ≡ classes_in pre =
    classes_in-append pre (row ∷ []) ∙ ap (λ (l : List ClassRow). classes_in pre ++ l) none
    ∙ append-nil (classes_in pre) in
    record {
      each = λ x m. are.each x (subst (λ (l : List ClassRow). Among x l) same m);
      stacked = λ x m.
          let before = are.stacked x (subst (λ (l : List ClassRow). Among x l) same m) in
          omega (arith, before, used-append x.place.chunk pre (row ∷ []));
    }

-- rows that keep the rules, after others that are stacked
pub stacked-more : (sizes : Sizes) (base : ℕ) (pre rows : List BareRow) → AreStacked sizes pre
    → LiveRowsKeep sizes base pre rows → AreStacked sizes (pre ++ rows)
stacked-more sizes base pre [] are k =
    subst (AreStacked sizes) (sym (append-nil pre)) are
stacked-more sizes base pre (Loader r ∷ rows) are k =
    subst (AreStacked sizes) (append_assoc pre (Loader r ∷ []) rows)
    (stacked-more sizes base (pre ++ Loader r ∷ []) rows
    (stacked-loader sizes pre (Loader r) refl are) k.2)
stacked-more sizes base pre (Class r p ∷ rows) are k =
    let keeps = class_keeps sizes pre r k.1 in
    subst (AreStacked sizes) (append_assoc pre (Class r p ∷ []) rows)
    (stacked-more sizes base (pre ++ Class r p ∷ []) rows
    (stacked-class sizes pre r are (inside sizes r.place keeps.chunk keeps.within) keeps.place) k.2)

pub are_stacked : (sizes : Sizes) (base : ℕ) (rows : List BareRow) → LiveRowsKeep sizes base [] rows
    → AreStacked sizes rows
are_stacked sizes base rows k =
    stacked-more sizes base [] rows
    (record { each = λ x none. absurd none; stacked = λ x none. absurd none }) k

-- ---- records apart

-- a word that both places have
pub record ShareWord (p q : Place) : Type 0 where
  pub same_root : p.chunk.root ≡ q.chunk.root
  pub word : ℕ
  pub from_p : p.chunk.at + p.offset ≤ word
  pub to_p : word < p.chunk.at + p.offset + p.words
  pub from_q : q.chunk.at + q.offset ≤ word
  pub to_q : word < q.chunk.at + q.offset + q.words

later_root : (sizes : Sizes) (a b : ℕ) → a < b → root_at sizes (a + 1) ≤ root_at sizes b
later_root sizes a b lt =
    let up : a + 1 ≤ b = omega (arith, lt) in
    let times : (a + 1) * root_size sizes ≤ b * root_size sizes =
    mul-le-mul_right (root_size sizes) up in
    omega (arith, times)

same_root_of : (sizes : Sizes) (p q : Place) → IsInside sizes p → IsInside sizes q → (i : ℕ)
    → record_at sizes p ≤ i → i < record_at sizes p + 8 * p.words → record_at sizes q ≤ i
    → i < record_at sizes q + 8 * q.words → p.chunk.root ≡ q.chunk.root
same_root_of sizes p q in_p in_q i from_p to_p from_q to_q =
    elim (cases_lt p.chunk.root q.chunk.root) [
      | inl below ↦
          let times = later_root sizes p.chunk.root q.chunk.root below in
          let ends = ends_in_root sizes p in_p in
          let begins = begins_in_root sizes q in
          absurd (omega (arith, times, ends, begins, to_p, from_q))
      | inr past ↦ elim (cases_lt q.chunk.root p.chunk.root) [
        | inl above ↦
            let times = later_root sizes q.chunk.root p.chunk.root above in
            let ends = ends_in_root sizes q in_q in
            let begins = begins_in_root sizes p in
            absurd (omega (arith, times, ends, begins, to_q, from_p))
        | inr before ↦ omega (arith, past, before)
      ]
    ]

-- records with a byte in common have a word in common
pub share_word : (sizes : Sizes) (p q : Place) → IsInside sizes p → IsInside sizes q → (i : ℕ)
    → record_at sizes p ≤ i → i < record_at sizes p + 8 * p.words → record_at sizes q ≤ i
    → i < record_at sizes q + 8 * q.words → ShareWord p q
share_word sizes p q in_p in_q i from_p to_p from_q to_q =
    let same = same_root_of sizes p q in_p in_q i from_p to_p from_q to_q in
    let base = root_at sizes p.chunk.root in
    let at_q : record_at sizes q ≡ base + 8 * (q.chunk.at + q.offset) =
    subst (λ (root : ℕ). record_at sizes q ≡ root_at sizes root + 8 * (q.chunk.at + q.offset))
    (sym same)
    (omega arith) in
    let at_p : record_at sizes p ≡ base + 8 * (p.chunk.at + p.offset) = omega arith in
    record {
      same_root = same;
      word = (i - base) / 8;
      from_p = omega (arith, at_p, from_p, to_p);
      to_p = omega (arith, at_p, from_p, to_p);
      from_q = omega (arith, at_q, from_q, to_q);
      to_q = omega (arith, at_q, from_q, to_q);
    }

-- records that share a word are on chunks that meet
pub chunks_meet : (sizes : Sizes) (p q : Place) → IsInside sizes p → IsInside sizes q
    → ShareWord p q → Meets p.chunk q.chunk
chunks_meet sizes p q in_p in_q share =
    let in_chunk_p : Covers p.chunk p.chunk.root share.word = record {
      same_root = refl;
      from = omega (arith, share.from_p);
      to = omega (arith, share.to_p, in_p.words);
    } in
    let in_chunk_q : Covers q.chunk p.chunk.root share.word = record {
      same_root = share.same_root;
      from = omega (arith, share.from_q);
      to = omega (arith, share.to_q, in_q.words);
    } in
    (p.chunk.root, share.word, in_chunk_p, in_chunk_q)

-- a record after all of its loader's last chunk, or in a chunk that no row uses
abbrev pub IsFree : List BareRow → ClassRow → Type 0
IsFree rows r =
    (is_unused r.place.chunk rows ≡ true)
    ⊎ ((is_last_chunk r.loader r.place.chunk rows ≡ true)
    × (used_words r.place.chunk rows ≤ r.place.offset))

-- such a record shares no byte with those of the rows
pub free_apart : (sizes : Sizes) (rows : List BareRow) (r s : ClassRow) → AreApart (classes_in rows)
    → AreStacked sizes rows → IsInside sizes r.place → IsFree rows r → Among s (classes_in rows)
    → ¬ ShareWord r.place s.place
free_apart sizes rows r s apart are is (inl unused) m share =
    is_unused-apart r.place.chunk (classes_in rows) s unused m
    (chunks_meet sizes r.place s.place is (are.each s m) share)
free_apart sizes rows r s apart are is (inr last) m share =
    let found = is_last_chunk-among r.loader r.place.chunk rows last.0 in
    let meet = chunks_meet sizes r.place s.place is (are.each s m) share in
    let same = apart found.0 s found.1 m
    (subst (λ (c : Chunk). Meets c s.place.chunk) (sym found.3) meet) in
    let one : s.place.chunk ≡ r.place.chunk = sym same.0 ∙ found.3 in
    let ends : s.place.offset + s.place.words ≤ used_words r.place.chunk rows =
    subst (λ (c : Chunk). s.place.offset + s.place.words ≤ used_words c rows) one
    (are.stacked s m) in
    let at_is : s.place.chunk.at ≡ r.place.chunk.at = ap (λ (c : Chunk). c.at) one in
    omega (arith, ends, last.1, at_is, share.from_p, share.to_q)

pub place-free : (rows : List BareRow) (r : ClassRow) → has_place rows r ≡ true → IsFree rows r
place-free rows r h =
    let on_last = is_last_chunk r.loader r.place.chunk rows in
    let behind = eqb r.place.offset (used_words r.place.chunk rows) in
    let front = eqb r.place.offset 0 in
    let unused = is_unused r.place.chunk rows in
    elim (or_cases (on_last && behind) (front && unused) h) [
      | inl last ↦
          let parts = and_parts on_last behind last in
          let e = eqb-true r.place.offset (used_words r.place.chunk rows) parts.1 in
          inr (parts.0, omega (arith, e))
      | inr new ↦ inl (and_parts front unused new).1
    ]
