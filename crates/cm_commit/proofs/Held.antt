-- Records that are in their places, while others are written.
-- For `Committer::advance`, `Committer::images`, `Committer::offer` and others.
use Rattle.std.proofs.Common.{◌≡◌, ℕ, ◌+◌, ◌*◌, ◌≤◌, inl, inr, Bool, true, false, cond}
use Rattle.std.proofs.Common.{List, [], ◌∷◌, ◌++◌, length, take, drop, get_or, refl, sym, ap}
use Rattle.std.proofs.Common.{◌∙◌, arith, drop-drop, length-drop, eqb}
use Rattle.std.specs.Prelude.{not}
use Rattle.std.specs.List.{AllByRecursion}
use Rattle.cm_record_layout.specs.Packing.{packed_into, word_bytes}
use Rattle.cm_disk.specs.Disk.{is_among}
use Rattle.cm_pool.specs.Geometry.{Sizes}
use Rattle.cm_pool.specs.Lists.{Among}
use Rattle.cm_layout.specs.declared.class_row.ClassRow.{ClassRow}
use Rattle.cm_layout.specs.declared.row.Row.{Row}
use Rattle.cm_layout.specs.declared.row.Row.TheVariants.{Loader, Class}
use Rattle.cm_layout.specs.Offsets.{roots_at, root_at, record_at, record_in_roots}
use Rattle.cm_layout.specs.Rows.{classes_in, without_loader, without_loaders}
use Rattle.cm_layout.specs.Frames.{HoldsRow, HoldsRecord}
use Rattle.cm_layout.specs.Framing.{part, needs}
use Rattle.cm_commit.proofs.Ranges.{part_same}
use Rattle.cm_commit.proofs.Places.{IsInside, ends_in_root}

-- the rows' records are in the contents
abbrev pub HoldRows : Sizes → List ℕ → List (Row (List ℕ)) → Type 0
HoldRows sizes contents rows = AllByRecursion (HoldsRow sizes (drop (roots_at sizes) contents)) rows

record_part : (sizes : Sizes) (r : ClassRow) (contents : List ℕ)
    → take (8 * r.place.words) (drop (record_in_roots sizes r.place)
    (drop (roots_at sizes) contents))
    ≡ part (record_at sizes r.place) (8 * r.place.words) contents
record_part sizes r contents =
    ap (take (8 * r.place.words))
    (drop-drop (record_in_roots sizes r.place) (roots_at sizes) contents)

-- ---- other contents, with the same bytes in the records' places

abbrev pub SameBytes : Sizes → ClassRow → List ℕ → List ℕ → Type 0
SameBytes sizes r a b =
    (i : ℕ) → is_among (record_at sizes r.place) (8 * r.place.words) i ≡ true
    → get_or a i 0 ≡ get_or b i 0

pub hold-same : (sizes : Sizes) (rows : List (Row (List ℕ))) (a b : List ℕ) → length a ≤ length b
    → roots_at sizes ≤ length a
    → ((r : ClassRow) → Among r (classes_in rows) → IsInside sizes r.place)
    → ((r : ClassRow) → Among r (classes_in rows) → SameBytes sizes r a b)
    → HoldRows sizes a rows → HoldRows sizes b rows
hold-same sizes [] a b longer roots is same held = tt
hold-same sizes (Loader r ∷ rows) a b longer roots is same held =
    (tt, hold-same sizes rows a b longer roots is same held.1)
hold-same sizes (Class r words ∷ rows) a b longer roots is same held =
    let ends = ends_in_root sizes r.place (is r (inl refl)) in
    let whole = held.0.whole in
    let long_a = length-drop (roots_at sizes) a in
    let part_is = part_same (record_at sizes r.place) (8 * r.place.words) a b
    (omega (arith, ends, whole, long_a, roots))
    (omega (arith, ends, whole, long_a, roots, longer)) (same r (inl refl)) in (
      record {
        count = held.0.count;
        whole = omega (arith, whole, long_a, longer, length-drop (roots_at sizes) b);
        held = ap (packed_into r.place.words)
            (record_part sizes r b ∙ sym part_is ∙ sym (record_part sizes r a))
            ∙ held.0.held;
      },
      hold-same sizes rows a b longer roots (λ s m. is s (inr m)) (λ s m. same s (inr m)) held.1,
    )

-- ---- other rows

pub hold-append : (sizes : Sizes) (contents : List ℕ) (rows more : List (Row (List ℕ)))
    → HoldRows sizes contents rows → HoldRows sizes contents more
    → HoldRows sizes contents (rows ++ more)
hold-append sizes contents [] more held new = new
hold-append sizes contents (row ∷ rows) more held new =
    (held.0, hold-append sizes contents rows more held.1 new)

pub hold-without : (sizes : Sizes) (contents : List ℕ) (u : ℕ) (rows : List (Row (List ℕ)))
    → HoldRows sizes contents rows → HoldRows sizes contents (without_loader u rows)
hold-without sizes contents u [] held = tt
hold-without sizes contents u (Loader r ∷ rows) held =
    by_test (eqb r.number u) (hold-without sizes contents u rows held.1)
  where
    by_test : (t : Bool) → HoldRows sizes contents (without_loader u rows)
        → HoldRows sizes contents
        (cond (not t) (Loader r ∷ without_loader u rows) (without_loader u rows))
    by_test true rest = rest
    by_test false rest = (held.0, rest)
hold-without sizes contents u (Class r words ∷ rows) held =
    by_test (eqb r.loader u) (hold-without sizes contents u rows held.1)
  where
    by_test : (t : Bool) → HoldRows sizes contents (without_loader u rows)
        → HoldRows sizes contents
        (cond (not t) (Class r words ∷ without_loader u rows) (without_loader u rows))
    by_test true rest = rest
    by_test false rest = (held.0, rest)

pub hold-without-all : (sizes : Sizes) (contents us : List ℕ) (rows : List (Row (List ℕ)))
    → HoldRows sizes contents rows → HoldRows sizes contents (without_loaders us rows)
hold-without-all sizes contents [] rows held = held
hold-without-all sizes contents (u ∷ us) rows held =
    hold-without-all sizes contents us (without_loader u rows)
    (hold-without sizes contents u rows held)

-- rows whose records are there need no more bytes than there are
pub needs-held : (sizes : Sizes) (contents : List ℕ) (rows : List (Row (List ℕ)))
    → roots_at sizes ≤ length contents → HoldRows sizes contents rows
    → needs sizes rows ≤ length contents
needs-held sizes contents [] roots held = roots
needs-held sizes contents (Loader r ∷ rows) roots held =
    needs-held sizes contents rows roots held.1
needs-held sizes contents (Class r words ∷ rows) roots held =
    let rest = needs-held sizes contents rows roots held.1 in
    omega (arith, rest, held.0.whole, roots, length-drop (roots_at sizes) contents)

-- ---- one more record

pub holds-record : (sizes : Sizes) (contents : List ℕ) (r : ClassRow) (words : List ℕ)
    → length words ≡ r.place.words → root_at sizes (r.place.chunk.root + 1) ≤ length contents
    → part (record_at sizes r.place) (8 * r.place.words) contents ≡ word_bytes words
    → packed_into (length words) (word_bytes words) ≡ words
    → HoldsRecord sizes (drop (roots_at sizes) contents) r words
holds-record sizes contents r words count long there back = record {
  count = count;
  whole = omega (arith, long, length-drop (roots_at sizes) contents);
  held = ap (packed_into r.place.words) (record_part sizes r contents ∙ there)
      ∙ ap (λ (n : ℕ). packed_into n (word_bytes words)) (sym count)
      ∙ back;
}
