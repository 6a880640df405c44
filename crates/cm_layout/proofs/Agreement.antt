-- Contents that agree on what is guarded match the same framing.
-- For `agreement_frames` and others.
use Rattle.std.proofs.Common.{◌≡◌, ℕ, ◌+◌, ◌*◌, ◌≤◌, Bool, cond, List, [], ◌∷◌}
use Rattle.std.proofs.Common.{length, take, drop, get_or, Option, Some, None, sym, ap, subst}
use Rattle.std.proofs.Common.{◌∙◌, arith, drop-drop, length-drop}
use Rattle.std.specs.List.{AllByRecursion}
use Rattle.std.proofs.lemmas.Bool.{lt-ltb}
use Rattle.std.proofs.lemmas.List.{get_or-drop, get_or-take}
use Rattle.cm_record_layout.specs.Packing.{packed_into}
use Rattle.cm_pool.specs.Geometry.{Sizes}
use Rattle.cm_layout.specs.declared.heads.HalfHead.{HalfHead}
use Rattle.cm_layout.specs.declared.class_row.ClassRow.{ClassRow}
use Rattle.cm_layout.specs.declared.row.Row.{Row}
use Rattle.cm_layout.specs.declared.row.Row.TheVariants.{Loader, Class}
use Rattle.cm_layout.specs.Offsets.{half_size, half_at, roots_at, record_at}
use Rattle.cm_layout.specs.Offsets.{record_in_roots}
use Rattle.cm_layout.specs.Frames.{HoldsRow}
use Rattle.cm_layout.specs.Framing.{HasOlder, Agree, part, needs}
use Rattle.cm_layout.specs.Framing.{record_ranges, older_size, other_half, used_size}
use Rattle.cm_layout.specs.Laws.{AgreementMatches}

-- one byte
byte_of : (at : ℕ) (contents : List ℕ) → get_or (part at 1 contents) 0 0 ≡ get_or contents at 0
byte_of at contents =
    get_or-take 1 (drop at contents) 0 0 (omega arith) ∙ get_or-drop at contents 0 0
    ∙ ap (λ (i : ℕ). get_or contents i 0) (omega arith)

same_byte : (at : ℕ) (a b : List ℕ) → part at 1 a ≡ part at 1 b → get_or a at 0 ≡ get_or b at 0
same_byte at a b e =
    sym (byte_of at a) ∙ (ap (λ (l : List ℕ). get_or l 0 0) e ∙ byte_of at b)

-- a record, counted from the beginning of the roots
pub record_part : (sizes : Sizes) (r : ClassRow) (contents : List ℕ)
    → take (8 * r.place.words)
    (drop (record_in_roots sizes r.place) (drop (roots_at sizes) contents))
    ≡ part (record_at sizes r.place) (8 * r.place.words) contents
record_part sizes r contents =
    ap (take (8 * r.place.words))
    (drop-drop (record_in_roots sizes r.place) (roots_at sizes) contents)

same_rows : (sizes : Sizes) (rows : List (Row (List ℕ))) (a b : List ℕ)
    → needs sizes rows ≤ length b
    → Agree (record_ranges sizes rows) a b
    → AllByRecursion (HoldsRow sizes (drop (roots_at sizes) a)) rows
    → AllByRecursion (HoldsRow sizes (drop (roots_at sizes) b)) rows
same_rows sizes [] a b long agree held = tt
same_rows sizes (Loader r ∷ rows) a b long agree held =
    (tt, same_rows sizes rows a b long agree held.1)
same_rows sizes (Class r words ∷ rows) a b long agree held = (
  record {
    count = held.0.count;
    whole = omega (arith, long, length-drop (roots_at sizes) b);
    held = ap (packed_into r.place.words)
        (record_part sizes r b ∙ sym agree.0 ∙ sym (record_part sizes r a))
        ∙ held.0.held;
  },
  same_rows sizes rows a b (omega (arith, long)) agree.1 held.1,
)

same_older : (at : ℕ) (older : Option HalfHead) (a b : List ℕ)
    → part at (older_size older) a ≡ part at (older_size older) b → HasOlder at older a
    → HasOlder at older b
same_older at None a b e shut = λ is_open. shut (same_byte at a b e ∙ is_open)
same_older at (Some head) a b e there = sym e ∙ there

pub agreement_matches : AgreementMatches
agreement_matches sizes f rows a b long agree m = record {
  long = long;
  superblock = sym agree.0 ∙ m.superblock;
  used = sym agree.1.0 ∙ m.used;
  end = λ goes_on is_open.
      let at = half_at sizes f.counting + used_size f in
      let one : part at 1 a ≡ part at 1 b =
      subst (λ (t : Bool). part at (cond t 1 0) a ≡ part at (cond t 1 0) b)
      (lt-ltb (used_size f) (half_size sizes) goes_on) agree.1.1.0 in
      m.end goes_on (same_byte at a b one ∙ is_open);
  other = same_older (half_at sizes (other_half f.counting)) f.older a b agree.1.1.1.0 m.other;
  records = same_rows sizes rows a b long agree.1.1.1.1 m.records;
}
