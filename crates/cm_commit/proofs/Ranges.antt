-- Ranges of bytes, and what is guarded.
-- For `Committer::advance`, `Committer::images`, `Committer::offer` and others.
use Rattle.std.proofs.Common.{◌≡◌, ℕ, ◌+◌, ◌<◌, ◌≤◌, ◌⊎◌, inl, inr, Bool, true, false, List, []}
use Rattle.std.proofs.Common.{◌∷◌, length, drop, get_or, refl, sym, ◌∙◌}
use Rattle.std.proofs.Common.{arith, length-take, length-drop}
use Rattle.std.specs.Prelude.{◌&&◌, ◌||◌, nat_le, nat_lt}
use Rattle.std.proofs.lemmas.Bool.{le-leb, lt-ltb, leb-true, ltb-true, and_parts, or_cases}
use Rattle.std.proofs.lemmas.List.{ext_get_or, get_or-drop, get_or-take}
use Rattle.cm_disk.specs.Disk.{is_among}
use Rattle.cm_pool.specs.Geometry.{Sizes}
use Rattle.cm_layout.specs.declared.half.Half.{Half}
use Rattle.cm_layout.specs.declared.half.Half.TheVariants.{Zero, One}
use Rattle.cm_layout.specs.Offsets.{half_size, half_at, roots_at}
use Rattle.cm_layout.specs.Framing.{Range, Agree, part, other_half}
use Rattle.cm_commit.specs.Guarding.{is_in_any}

-- ---- tests

pub first_of_two : (a b : Bool) → a ≡ true → (a || b) ≡ true
first_of_two true b h = refl
first_of_two false b h = absurd (cc)

pub second_of_two : (a b : Bool) → b ≡ true → (a || b) ≡ true
second_of_two true b h = refl
second_of_two false b h = h

pub and_both : (a b : Bool) → a ≡ true → b ≡ true → (a && b) ≡ true
and_both true b h k = k
and_both false b h k = absurd (cc)

-- ---- one range

pub among : (at n i : ℕ) → at ≤ i → i < at + n → is_among at n i ≡ true
among at n i from to =
    and_both (nat_le at i) (nat_lt i (at + n)) (le-leb at i from) (lt-ltb i (at + n) to)

pub among-from : (at n i : ℕ) → is_among at n i ≡ true → at ≤ i
among-from at n i h = leb-true at i (and_parts (nat_le at i) (nat_lt i (at + n)) h).0

pub among-to : (at n i : ℕ) → is_among at n i ≡ true → i < at + n
among-to at n i h = ltb-true i (at + n) (and_parts (nat_le at i) (nat_lt i (at + n)) h).1

part_count : (at n : ℕ) (xs : List ℕ) → at + n ≤ length xs → length (part at n xs) ≡ n
part_count at n xs le = omega (arith, le, length-take n (drop at xs), length-drop at xs)

pub byte_in_part : (at n i : ℕ) (xs : List ℕ) → i < n
    → get_or (part at n xs) i 0 ≡ get_or xs (at + i) 0
byte_in_part at n i xs lt = get_or-take n (drop at xs) i 0 lt ∙ get_or-drop at xs i 0

-- parts with the same bytes are the same
pub part_same : (at n : ℕ) (a b : List ℕ) → at + n ≤ length a → at + n ≤ length b
    → ((i : ℕ) → is_among at n i ≡ true → get_or a i 0 ≡ get_or b i 0)
    → part at n a ≡ part at n b
part_same at n a b long_a long_b same =
    let count_a = part_count at n a long_a in
    ext_get_or 0 (part at n a) (part at n b) (count_a ∙ sym (part_count at n b long_b))
    (λ i lt.
    let inside : i < n = omega (arith, lt, count_a) in
    byte_in_part at n i a inside
    ∙ same (at + i) (among at n (at + i) (omega arith) (omega (arith, inside)))
    ∙ sym (byte_in_part at n i b inside))

-- ---- many

-- each range ends at this position or before it
abbrev pub AreWithin : ℕ → List Range → Type 0
AreWithin n [] = Unit {0}
AreWithin n (r ∷ ranges) = (r.at + r.count ≤ n) × AreWithin n ranges

pub agree : (n : ℕ) (ranges : List Range) (a b : List ℕ) → AreWithin n ranges → n ≤ length a
    → n ≤ length b → ((i : ℕ) → is_in_any ranges i ≡ true → get_or a i 0 ≡ get_or b i 0)
    → Agree ranges a b
agree n [] a b within long_a long_b same = tt
agree n (r ∷ ranges) a b within long_a long_b same = (
  part_same r.at r.count a b (omega (arith, within.0, long_a)) (omega (arith, within.0, long_b))
      (λ i here. same i (first_of_two (is_among r.at r.count i) (is_in_any ranges i) here)),
  agree n ranges a b within.1 long_a long_b
      (λ i there. same i (second_of_two (is_among r.at r.count i) (is_in_any ranges i) there)),
)

pub bounded : (n : ℕ) (ranges : List Range) → AreWithin n ranges → (i : ℕ) → is_in_any ranges i
    ≡ true
    → i < n
bounded n [] within i h = absurd (cc)
bounded n (r ∷ ranges) within i h =
    elim (or_cases (is_among r.at r.count i) (is_in_any ranges i) h) [
      | inl here ↦ omega (arith, among-to r.at r.count i here, within.0)
      | inr there ↦ bounded n ranges within.1 i there
    ]

-- ---- halves

pub half_ends : (sizes : Sizes) (h : Half) → half_at sizes h + half_size sizes ≤ roots_at sizes
half_ends sizes Zero = omega arith
half_ends sizes One = omega arith

pub half_begins : (sizes : Sizes) (h : Half) → 4096 ≤ half_at sizes h
half_begins sizes Zero = omega arith
half_begins sizes One = omega arith

-- the two halves share no byte
pub halves_apart : (sizes : Sizes) (h : Half)
    → (half_at sizes h + half_size sizes ≤ half_at sizes (other_half h))
    ⊎ (half_at sizes (other_half h) + half_size sizes ≤ half_at sizes h)
halves_apart sizes Zero = inl (omega arith)
halves_apart sizes One = inr (omega arith)
