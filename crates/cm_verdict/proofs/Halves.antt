-- What is found in a file is what is found in its halves, read one after the other.
-- For `read_found`, `read_sizes`.
use Rattle.std.proofs.Common.{◌≡◌, ℕ, ◌+◌, ◌*◌, ◌<◌, ◌≤◌, List, length, take, drop, get_or, Ok, Err}
use Rattle.std.proofs.Common.{refl, sym, ap}
use Rattle.std.proofs.Common.{subst, ◌∙◌, arith}
use Rattle.std.specs.Prelude.{Result, IsErrAnd, IfOk, ◌==◌}
use Rattle.std.proofs.lemmas.Bool.{lt-leb}
use Rattle.std.proofs.lemmas.List.{take-take, get_or-take, get_or-drop}
use Rattle.cm_pool.specs.Geometry.{Sizes, IsGeometry}
use Rattle.cm_layout.specs.declared.half.Half.{Half}
use Rattle.cm_layout.specs.declared.half.Half.TheVariants.{Zero, One}
use Rattle.cm_layout.specs.Offsets.{half_size, half_at}
use Rattle.cm_layout.specs.Framing.{part, other_half}
use Rattle.cm_layout.specs.Slots.{open_gate}
use Rattle.cm_verdict.specs.declared.counting.Counting.{Counting}
use Rattle.cm_verdict.specs.declared.fault.FileFault.{FileFault}
use Rattle.cm_verdict.specs.declared.fault.FileFault.TheVariants.{NotACache}
use Rattle.cm_verdict.specs.Faults.{◌>>=◌}
use Rattle.cm_verdict.specs.Walk.{Walked}
use Rattle.cm_verdict.specs.Found.{counting_half, walk_through, found_walked, half_in, head_in}
use Rattle.cm_verdict.specs.Found.{Found, sizes_found, found_in, FileBegins}
use Rattle.cm_verdict.proofs.Parts.{begun_with, half_within, part_long}
use Rattle.cm_verdict.specs.declared.fault.OpenFault.{OpenFault}
use Rattle.cm_verdict.specs.declared.fault.OpenFault.TheVariants as open_fault
use Rattle.cm_verdict.specs.declared.reading.FoundFile.{FoundFile}
use Rattle.cm_verdict.specs.Opening.{IsFaultIn, IsAnswer, half_of, found_in_halves}
use Rattle.cm_verdict.specs.Opening.{found_of, other_is_open}

-- ---- in two halves

abbrev walks : Sizes → List ℕ → List ℕ → Counting → Result Found FileFault
walks sizes zero one c =
    walk_through sizes c (half_of c.half zero one) >>= λ w. Ok (found_walked sizes c w)

pub no_half_counts : (sizes : Sizes) (zero one : List ℕ) (f : FileFault)
    → counting_half sizes (take 64 zero) (take 64 one) ≡ Err f
    → found_in_halves sizes zero one ≡ Err f
no_half_counts sizes zero one f e = ap (λ r. r >>= walks sizes zero one) e

pub half_damaged : (sizes : Sizes) (zero one : List ℕ) (c : Counting) (f : FileFault)
    → counting_half sizes (take 64 zero) (take 64 one) ≡ Ok c
    → walk_through sizes c (half_of c.half zero one) ≡ Err f
    → found_in_halves sizes zero one ≡ Err f
half_damaged sizes zero one c f e walk =
    ap (λ r. r >>= walks sizes zero one) e ∙ ap (λ r. r >>= λ w. Ok (found_walked sizes c w)) walk

pub half_walked : (sizes : Sizes) (zero one : List ℕ) (c : Counting) (w : Walked)
    → counting_half sizes (take 64 zero) (take 64 one) ≡ Ok c
    → walk_through sizes c (half_of c.half zero one) ≡ Ok w
    → found_in_halves sizes zero one ≡ Ok (found_walked sizes c w)
half_walked sizes zero one c w e walk =
    ap (λ r. r >>= walks sizes zero one) e ∙ ap (λ r. r >>= λ w. Ok (found_walked sizes c w)) walk

-- ---- in a file

abbrev finds : List ℕ → Sizes → Result Found FileFault
finds contents sizes = do
  c ← counting_half sizes (head_in sizes contents Zero) (head_in sizes contents One)
  w ← walk_through sizes c (half_in sizes contents c.half)
  Ok (found_walked sizes c w)

pub no_sizes_found : (contents : List ℕ) (f : FileFault)
    → sizes_found (length contents) (take 4096 contents) ≡ Err f → found_in contents ≡ Err f
unfolding found_in
no_sizes_found contents f e = ap (λ r. r >>= finds contents) e

which_half : (sizes : Sizes) (contents : List ℕ) (h : Half)
    → half_in sizes contents h
    ≡ half_of h (half_in sizes contents Zero) (half_in sizes contents One)
which_half sizes contents Zero = refl
which_half sizes contents One = refl

head_of : (sizes : Sizes) → IsGeometry sizes → (contents : List ℕ) (h : Half)
    → head_in sizes contents h ≡ take 64 (half_in sizes contents h)
head_of sizes g contents Zero = sym (take-take 64 (half_size sizes) _ (omega (arith, g.slots_from)))
head_of sizes g contents One = sym (take-take 64 (half_size sizes) _ (omega (arith, g.slots_from)))

pub found_by_halves : (contents : List ℕ) (sizes : Sizes) → IsGeometry sizes
    → sizes_found (length contents) (take 4096 contents) ≡ Ok sizes
    → found_in contents
    ≡ found_in_halves sizes (half_in sizes contents Zero) (half_in sizes contents One)
unfolding found_in
found_by_halves contents sizes g e =
    ap (λ r. r >>= finds contents) e
    ∙ (λ i. counting_half sizes (head_of sizes g contents Zero i) (head_of sizes g contents One i)
    >>= λ c. walk_through sizes c (which_half sizes contents c.half i)
    >>= λ w. Ok (found_walked sizes c w))

-- ---- its sizes

pub short_file : (long : ℕ) (block : List ℕ) → long < 4096 → sizes_found long block ≡ Err NotACache
unfolding sizes_found
short_file long block short = rw (lt-leb 4096 long short) refl

pub sizes_fault : (e : OpenFault) (contents : List ℕ)
    → IsFaultIn e (sizes_found (length contents) (take 4096 contents))
    → IsFaultIn e (found_in contents)
sizes_fault (open_fault.File f) contents told = no_sizes_found contents f told
sizes_fault open_fault.Device contents told = tt
sizes_fault open_fault.NoMemory contents told = tt

-- this is the fault returned
pub sizes_told : (r : Result FoundFile OpenFault) (e : OpenFault) (contents : List ℕ)
    → IsErrAnd r (λ f. f ≡ e) → IsFaultIn e (sizes_found (length contents) (take 4096 contents))
    → IsAnswer found_of r (found_in contents)
sizes_told (Ok file) e contents none told = absurd none
sizes_told (Err f) e contents same told =
    subst (λ (g : OpenFault). IsFaultIn g (found_in contents)) (sym same)
    (sizes_fault e contents told)

-- ---- its halves, as they are read: n slots from a place on

module _ (contents : List ℕ) (sizes : Sizes)
    (e : sizes_found (length contents) (take 4096 contents) ≡ Ok sizes) where
  begins : FileBegins (length contents) (take 4096 contents) sizes
  begins = begun_with (length contents) (take 4096 contents) sizes e

  pub half_inside : (h : Half) (at n : ℕ) (now : List ℕ) → at ≡ half_at sizes h → n ≡ sizes.slots
      → now ≡ contents → at + 64 * n ≤ length now
  half_inside h at n now place count same =
      omega (arith, half_within sizes h, begins.halves, place, count, ap length same)

  pub half_read : (h : Half) (at n : ℕ) (now bytes : List ℕ) → at ≡ half_at sizes h
      → n ≡ sizes.slots → now ≡ contents → bytes ≡ part at (64 * n) now
      → bytes ≡ half_in sizes contents h
  half_read h at n now bytes place count same read =
      read ∙ (λ i. part (place i) (64 * count i) (same i))

  pub half_long : (h : Half) (bytes : List ℕ) → bytes ≡ half_in sizes contents h
      → length bytes ≡ 64 * sizes.slots
  half_long h bytes is =
      ap length is
      ∙ part_long (half_at sizes h) (half_size sizes) contents
      (omega (arith, half_within sizes h, begins.halves))

  pub answered : (r : Result FoundFile OpenFault) (zero one : List ℕ)
      → zero ≡ half_in sizes contents Zero → one ≡ half_in sizes contents One
      → IsAnswer found_of r (found_in_halves sizes zero one)
      → IsAnswer found_of r (found_in contents)
  answered r zero one z o told =
      subst (IsAnswer found_of r)
      ((λ i. found_in_halves sizes (z i) (o i))
      ∙ sym (found_by_halves contents sizes begins.lawful e))
      told

  -- the byte at the other half's gate
  pub other_told : (r : Result FoundFile OpenFault) (zero one : List ℕ)
      → zero ≡ half_in sizes contents Zero → one ≡ half_in sizes contents One
      → IfOk r (λ f. f.geometry ≡ sizes)
      → IfOk r (λ f. f.other_open
      ≡ (get_or (half_of (other_half f.counts.half) zero one) 0 0 == open_gate))
      → IfOk r (λ f. f.other_open ≡ other_is_open f.geometry f.counts.half contents)
  other_told (Ok f) zero one z o same told =
      told ∙ (ap (λ (b : ℕ). b == open_gate) (gate_read f.counts.half)
      ∙ ap (λ (s : Sizes). other_is_open s f.counts.half contents) (sym same))
    where
      gate_byte : (h : Half) → get_or (half_in sizes contents h) 0 0
          ≡ get_or contents (half_at sizes h) 0
      gate_byte h =
          get_or-take (half_size sizes) (drop (half_at sizes h) contents) 0 0
          (omega (arith, begins.lawful.slots_from))
          ∙ get_or-drop (half_at sizes h) contents 0 0
          ∙ ap (λ (i : ℕ). get_or contents i 0) (omega arith)

      gate_read : (h : Half) → get_or (half_of (other_half h) zero one) 0 0
          ≡ get_or contents (half_at sizes (other_half h)) 0
      gate_read Zero = ap (λ (l : List ℕ). get_or l 0 0) o ∙ gate_byte One
      gate_read One = ap (λ (l : List ℕ). get_or l 0 0) z ∙ gate_byte Zero
  other_told (Err f) zero one z o same told = tt
