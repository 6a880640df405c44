-- The parts of a file: its superblock, its halves, and the records of rows.
-- For `find_sizes` and others.
use Rattle.std.proofs.Common.{◌≡◌, ◌≢◌, ℕ, ◌+◌, ◌*◌, ◌<◌, ◌≤◌, Bool, true, false, cond}
use Rattle.std.proofs.Common.{List, [], ◌∷◌, ◌++◌, length, take, drop, get_or, Option, Some, None}
use Rattle.std.proofs.Common.{Ok, Err, refl, sym, ap, subst, ◌∙◌, arith, append_assoc}
use Rattle.std.proofs.Common.{length-drop, length-take}
use Rattle.std.specs.Prelude.{Result, nat_le, ◌==◌}
use Rattle.std.specs.List.{flat_map, AllByRecursion}
use Rattle.std.specs.Str.{bytes_eq}
use Rattle.std.proofs.lemmas.Bool.{lt-leb}
use Rattle.std.proofs.lemmas.Bool.{and_from, leb-true, le-leb, eq-eqb, eqb-false, ne_eqb}
use Rattle.std.proofs.lemmas.List.{get_or-append_right, get_or-drop, get_or-take}
use Rattle.std.proofs.lemmas.Slice.Eq.{bytes_eq-Decides}
use Rattle.cm_record_layout.specs.Packing.{packed_into}
use Rattle.cm_record_layout.proofs.{length-packed_into}
use Rattle.cm_pool.specs.Geometry.{Sizes}
use Rattle.cm_layout.specs.declared.half.Half.{Half}
use Rattle.cm_layout.specs.declared.half.Half.TheVariants.{Zero, One}
use Rattle.cm_layout.specs.declared.heads.HalfHead.{HalfHead}
use Rattle.cm_layout.specs.declared.class_row.ClassRow.{ClassRow}
use Rattle.cm_layout.specs.declared.row.Row.{Row}
use Rattle.cm_layout.specs.declared.row.Row.TheVariants.{Loader, Class}
use Rattle.cm_layout.specs.Offsets.{slot_size, half_size, half_at, roots_at}
use Rattle.cm_layout.specs.Offsets.{record_at}
use Rattle.cm_layout.specs.Slots.{open_gate, half_head_slot, row_slots}
use Rattle.cm_layout.specs.Superblock.{superblock_front, superblock_zeros}
use Rattle.cm_layout.specs.Superblock.{magic}
use Rattle.cm_layout.specs.Rows.{bare}
use Rattle.cm_layout.specs.Frames.{HoldsRow, HoldsRecord, IsEnd, groups_slots}
use Rattle.cm_layout.specs.Framing.{Framing, HasOlder, part, needs, used_bytes}
use Rattle.cm_layout.proofs.{length-blank, record_part}
use Rattle.cm_layout.specs.Zeros.{blank}
use Rattle.cm_verdict.specs.declared.defined_at.DefinedAt.{DefinedAt}
use Rattle.cm_verdict.specs.declared.fault.Damage.TheVariants as damage
use Rattle.cm_verdict.specs.declared.fault.FileFault.{FileFault}
use Rattle.cm_verdict.specs.declared.fault.FileFault.TheVariants.{NotACache, Damaged}
use Rattle.cm_verdict.specs.Decoding.{sizes_in}
use Rattle.cm_verdict.specs.Found.{is_cache, sizes_spelled, sizes_found, FileBegins}
use Rattle.cm_verdict.specs.Laws.{rows_words, AreWhole}
use Rattle.cm_verdict.specs.Verdict.{words_at}
use Rattle.cm_verdict.proofs.Decoded.{sizes_spelled as block_spelled, sizes_again}
use Rattle.cm_verdict.proofs.Heads.{IsHeadOf}

-- ---- the superblock

gate_at : (front zeros : List ℕ) → length front ≡ 24 → length zeros ≡ 4071
    → get_or (front ++ (zeros ++ 165 ∷ [])) 4095 0 ≡ 165
gate_at front zeros f z =
    get_or-append_right front (zeros ++ 165 ∷ []) 24 4095 0 f (omega arith)
    ∙ get_or-append_right zeros (165 ∷ []) 4071 4071 0 z (omega arith)

abbrev sizes_ok : Sizes → Result Sizes FileFault
sizes_ok g = Ok g

sizes_same : (a b : Sizes) → sizes_ok a ≡ sizes_ok b → a ≡ b
sizes_same a b e = cc

pub begun_with : (long : ℕ) (block : List ℕ) (sizes : Sizes) → sizes_found long block ≡ Ok sizes
    → FileBegins long block sizes
unfolding sizes_found
begun_with long block sizes = by_cache (is_cache long block)
  where
    by_length : (g : Sizes) → sizes_in block ≡ Some g → (t : Bool) → nat_le (roots_at g) long ≡ t
        → cond t (Ok g) (Err (Damaged damage.Length 0)) ≡ Ok sizes → FileBegins long block sizes
    by_length g there true long_enough e =
        let s = block_spelled block g there in
        subst (FileBegins long block) (sizes_same g sizes e) (record {
          block_is = s.0;
          lawful = s.1;
          halves = leb-true (roots_at g) long long_enough;
        })
    by_length g there false long_enough e = absurd (cc)

    by_sizes : (o : Option Sizes) → sizes_in block ≡ o → sizes_spelled long o ≡ Ok sizes
        → FileBegins long block sizes
    by_sizes None there e = absurd (cc)
    by_sizes (Some g) there e = by_length g there (nat_le (roots_at g) long) refl e

    by_cache : (t : Bool) → cond t (sizes_spelled long (sizes_in block)) (Err NotACache) ≡ Ok sizes
        → FileBegins long block sizes
    by_cache true e = by_sizes (sizes_in block) refl e
    by_cache false e = absurd (cc)

pub begins_so : (long : ℕ) (block : List ℕ) (sizes : Sizes) → FileBegins long block sizes
    → sizes_found long block ≡ Ok sizes
unfolding sizes_found
begins_so long block sizes b =
    let enough : 4096 ≤ long = omega (arith, b.halves) in
    let front : bytes_eq (take 8 block) magic ≡ true =
    (bytes_eq-Decides (take 8 block) magic).1 (ap (take 8) b.block_is) in
    let gate : (get_or block 4095 0 == 165) ≡ true =
    eq-eqb (get_or block 4095 0) 165 (ap (λ (l : List ℕ). get_or l 4095 0) b.block_is
    ∙ gate_at (superblock_front sizes) (blank superblock_zeros) refl
    (length-blank superblock_zeros)) in
    let cache : is_cache long block ≡ true =
    and_from _ _ (and_from _ _ (le-leb 4096 long enough) front) gate in
    let there : sizes_in block ≡ Some sizes =
    ap sizes_in b.block_is ∙ sizes_again sizes b.lawful in
    rw cache (rw there (rw (le-leb (roots_at sizes) long b.halves) refl))

-- ---- parts

pub half_within : (sizes : Sizes) (half : Half) → half_at sizes half + half_size sizes
    ≤ roots_at sizes
half_within sizes Zero = omega arith
half_within sizes One = omega arith

pub part_long : (at count : ℕ) (contents : List ℕ) → at + count ≤ length contents
    → length (part at count contents) ≡ count
part_long at count contents long =
    omega (arith, length-take count (drop at contents), length-drop at contents, long)

pub first_of_part : (at count : ℕ) (contents : List ℕ) → 0 < count
    → get_or (part at count contents) 0 0 ≡ get_or contents at 0
first_of_part at count contents some =
    get_or-take count (drop at contents) 0 0 (omega (arith, some))
    ∙ (get_or-drop at contents 0 0 ∙ ap (λ (i : ℕ). get_or contents i 0) (omega arith))

pub first_shut : (bytes : List ℕ) → IsEnd bytes → 0 < length bytes → get_or bytes 0 0 ≢ open_gate
first_shut [] end some = absurd (omega (arith, some))
first_shut (b ∷ bytes) end some = end

-- the other half's head, from what contents match, and the reverse
pub has_older : (at : ℕ) (older : Option HalfHead) (contents : List ℕ)
    → IsHeadOf older (part at slot_size contents) → HasOlder at older contents
has_older at None contents shut =
    λ gate. eqb-false (get_or (part at 64 contents) 0 0) 165 shut
    (first_of_part at 64 contents (omega arith) ∙ gate)
has_older at (Some h) contents there = there

pub older_head : (at : ℕ) (older : Option HalfHead) (contents : List ℕ)
    → HasOlder at older contents → IsHeadOf older (part at slot_size contents)
older_head at None contents shut =
    ne_eqb (get_or (part at 64 contents) 0 0) 165
    (λ gate. shut (sym (first_of_part at 64 contents (omega arith)) ∙ gate))
older_head at (Some h) contents there = there

pub used_split : (f : Framing) (behind : List ℕ)
    → half_head_slot f.head
    ++ (flat_map row_slots f.live ++ (groups_slots f.head.base f.groups ++ behind))
    ≡ used_bytes f ++ behind
unfolding used_bytes
used_split f behind =
    let head = half_head_slot f.head in
    let live = flat_map row_slots f.live in
    let groups = groups_slots f.head.base f.groups in
    ap (λ (l : List ℕ). head ++ l) (sym (append_assoc live groups behind))
    ∙ sym (append_assoc head (live ++ groups) behind)

-- ---- rows with words

pub bare_words : (sizes : Sizes) (contents : List ℕ) (rows : List (Row DefinedAt))
    → bare (rows_words sizes contents rows) ≡ bare rows
bare_words sizes contents [] = refl
bare_words sizes contents (Loader r ∷ rows) =
    ap (λ l. Loader r ∷ l) (bare_words sizes contents rows)
bare_words sizes contents (Class r at ∷ rows) =
    ap (λ l. Class r tt ∷ l) (bare_words sizes contents rows)

pub each_held : (sizes : Sizes) (contents : List ℕ) (rows : List (Row DefinedAt))
    → AreWhole sizes (length contents) rows
    → AllByRecursion (HoldsRow sizes (drop (roots_at sizes) contents))
    (rows_words sizes contents rows)
each_held sizes contents [] whole = tt
each_held sizes contents (Loader r ∷ rows) whole = (tt, each_held sizes contents rows whole)
each_held sizes contents (Class r at ∷ rows) whole = (
  record {
    count = length-packed_into r.place.words
        (part (record_at sizes r.place) (8 * r.place.words) contents);
    whole = omega (arith, whole.0, length-drop (roots_at sizes) contents);
    held = ap (packed_into r.place.words) (record_part sizes r contents);
  },
  each_held sizes contents rows whole.1,
)

pub needs_long : (sizes : Sizes) (contents : List ℕ) (rows : List (Row DefinedAt))
    → roots_at sizes ≤ length contents → AreWhole sizes (length contents) rows
    → needs sizes (rows_words sizes contents rows) ≤ length contents
needs_long sizes contents [] long whole = long
needs_long sizes contents (Loader r ∷ rows) long whole = needs_long sizes contents rows long whole
needs_long sizes contents (Class r at ∷ rows) long whole =
    let rest = needs_long sizes contents rows long whole.1 in omega (arith, rest, whole.0)

-- rows that hold their words are those that were found
pub record SameWords (sizes : Sizes) (contents : List ℕ) (found : List (Row DefinedAt))
    (rows : List (Row (List ℕ))) : Type 0 where
  pub words : rows_words sizes contents found ≡ rows
  pub whole : AreWhole sizes (length contents) found

pub same_words : (sizes : Sizes) (contents : List ℕ) (found : List (Row DefinedAt))
    (rows : List (Row (List ℕ))) → roots_at sizes ≤ length contents → bare found ≡ bare rows
    → AllByRecursion (HoldsRow sizes (drop (roots_at sizes) contents)) rows
    → SameWords sizes contents found rows
same_words sizes contents [] [] long e held = record { words = refl; whole = tt }
same_words sizes contents [] (r ∷ rows) long e held = absurd (cc)
same_words sizes contents (f ∷ found) [] long e held = absurd (cc)
same_words sizes contents (Loader q ∷ found) (Loader r ∷ rows) long e held =
    let one : q ≡ r = cc in
    let rest = same_words sizes contents found rows long (cc) held.1 in
    record { words = (λ i. Loader (one i) ∷ rest.words i); whole = rest.whole }
same_words sizes contents (Class q at ∷ found) (Class r words ∷ rows) long e held =
    let one : q ≡ r = cc in
    let rest = same_words sizes contents found rows long (cc) held.1 in
    let there : HoldsRecord sizes (drop (roots_at sizes) contents) q words =
    subst (λ (c : ClassRow). HoldsRecord sizes (drop (roots_at sizes) contents) c words)
    (sym one) held.0 in
    let held_is : words_at sizes contents q.place ≡ words =
    sym (ap (packed_into q.place.words) (record_part sizes q contents)) ∙ there.held in
    record {
      words = (λ i. Class (one i) (held_is i) ∷ rest.words i);
      whole = (omega (arith, there.whole, length-drop (roots_at sizes) contents, long), rest.whole);
    }
same_words sizes contents (Loader q ∷ found) (Class r words ∷ rows) long e held = absurd (cc)
same_words sizes contents (Class q at ∷ found) (Loader r ∷ rows) long e held = absurd (cc)

-- ---- the superblock, case by case

pub no_cache : (long : ℕ) (block : List ℕ) → is_cache long block ≡ false
    → Err NotACache ≡ sizes_found long block
unfolding sizes_found
no_cache long block cache = rw cache refl

pub no_sizes : (long : ℕ) (block : List ℕ) → is_cache long block ≡ true → sizes_in block ≡ None
    → Err (Damaged damage.Superblock 0) ≡ sizes_found long block
unfolding sizes_found
no_sizes long block cache there = rw cache (rw there refl)

pub too_short : (long : ℕ) (block : List ℕ) (g : Sizes) → is_cache long block ≡ true
    → sizes_in block ≡ Some g → long < roots_at g
    → Err (Damaged damage.Length 0) ≡ sizes_found long block
unfolding sizes_found
too_short long block g cache there short =
    rw cache (rw there (rw (lt-leb (roots_at g) long short) refl))

pub long_enough : (long : ℕ) (block : List ℕ) (g : Sizes) → is_cache long block ≡ true
    → sizes_in block ≡ Some g → roots_at g ≤ long → Ok g ≡ sizes_found long block
unfolding sizes_found
long_enough long block g cache there long_is =
    rw cache (rw there (rw (le-leb (roots_at g) long long_is) refl))
