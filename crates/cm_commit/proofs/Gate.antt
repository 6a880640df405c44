-- The byte of a group's gate: with any byte but the open gate's, the contents show what was
-- committed before; with that one, what is committed after the group.
-- For `Committer::offer`, `groups_turn`.
use Rattle.std.proofs.Common.{◌≡◌, ◌≢◌, ℕ, suc, ◌+◌, ◌<◌, ◌≤◌, ◌⊎◌, inl, inr, List, ◌∷◌}
use Rattle.std.proofs.Common.{◌++◌, length, take, drop, get_or, Some, None, sym, ap, subst, ◌∙◌}
use Rattle.std.proofs.Common.{arith, drop-drop}
use Rattle.std.specs.Prelude.{Option}
use Rattle.std.proofs.Math.ListN.{set}
use Rattle.std.proofs.lemmas.List.{take-set-le, drop-set-lt, drop-set, length-set, get_or-set_same}
use Rattle.std.proofs.lemmas.List.{get_or-set_other, take-append-drop, take-take, drop-take}
use Rattle.std.proofs.lemmas.List.{length-append}
use Rattle.std.specs.List.{AllByRecursion}
use Rattle.cm_layout.specs.Frames.{HoldsRow}
use Rattle.cm_pool.specs.Geometry.{Sizes, IsGeometry}
use Rattle.cm_layout.specs.declared.half.Half.{Half}
use Rattle.cm_layout.specs.declared.heads.HalfHead.{HalfHead}
use Rattle.cm_layout.specs.declared.row.Row.{Row}
use Rattle.cm_layout.specs.Offsets.{half_size, half_at, roots_at}
use Rattle.cm_layout.specs.Slots.{open_gate}
use Rattle.cm_layout.specs.Framing.{Framing, Matches, HasOlder, part, used_bytes, used_size, needs}
use Rattle.cm_layout.specs.Framing.{other_half}
use Rattle.cm_commit.proofs.Held.{HoldRows}
use Rattle.cm_commit.proofs.Ranges.{half_ends, half_begins, halves_apart}

-- ---- a byte that is set

pub part-before : (at n gate b : ℕ) (xs : List ℕ) → at + n ≤ gate
    → part at n (set xs gate b) ≡ part at n xs
part-before at n gate b xs le =
    let front : (ys : List ℕ) → part at n ys ≡ drop at (take (at + n) ys) =
    λ ys. sym (drop-take at n ys) in
    front (set xs gate b)
    ∙ (ap (drop at) (take-set-le (at + n) xs gate b le) ∙ sym (front xs))

pub part-behind : (at n gate b : ℕ) (xs : List ℕ) → gate < at
    → part at n (set xs gate b) ≡ part at n xs
part-behind at n gate b xs lt = ap (take n) (drop-set-lt at xs gate b lt)

-- the byte, and what follows it
pub part-gate : (gate n b : ℕ) (xs : List ℕ) → gate < length xs
    → part gate (suc n) (set xs gate b) ≡ b ∷ part (gate + 1) n xs
part-gate gate n b xs inside = ap (take (suc n)) (drop-set xs gate b inside)

-- two parts side by side
pub part-joined : (at a b : ℕ) (xs : List ℕ)
    → part at (a + b) xs ≡ part at a xs ++ part (at + a) b xs
part-joined at a b xs =
    sym (take-append-drop a (part at (a + b) xs))
    ∙ (ap (λ (l : List ℕ). l ++ drop a (part at (a + b) xs)) first
    ∙ ap (λ (l : List ℕ). part at a xs ++ l) second)
  where
    first : take a (part at (a + b) xs) ≡ part at a xs
    first = take-take a (a + b) (drop at xs) (omega arith)

    second : drop a (part at (a + b) xs) ≡ part (at + a) b xs
    second =
        drop-take a b (drop at xs)
        ∙ ap (take b) (drop-drop a at xs ∙ ap (λ (n : ℕ). drop n xs) (omega arith))

-- ---- what a gate in the half that counts leaves

other-set : (at : ℕ) (older : Option HalfHead) (gate b : ℕ) (xs : List ℕ)
    → (at + 64 ≤ gate) ⊎ (gate < at) → HasOlder at older xs → HasOlder at older (set xs gate b)
other-set at None gate b xs apart shut = λ is_open.
    shut (sym (get_or-set_other xs gate at b 0 (elim apart [
      | inl before ↦ λ e. omega (arith, before, e)
      | inr behind ↦ λ e. omega (arith, behind, e)
    ])) ∙ is_open)
other-set at (Some head) gate b xs (inl before) there = part-before at 64 gate b xs before ∙ there
other-set at (Some head) gate b xs (inr behind) there = part-behind at 64 gate b xs behind ∙ there

-- the gate lies in the half, after what is used
pub record IsGate (sizes : Sizes) (f : Framing) (gate : ℕ) : Type 0 where
  pub lawful : IsGeometry sizes
  pub is : gate ≡ half_at sizes f.counting + used_size f
  pub within : used_size f < half_size sizes

other-gate : (sizes : Sizes) (f : Framing) (gate b : ℕ) (xs : List ℕ) → IsGate sizes f gate
    → HasOlder (half_at sizes (other_half f.counting)) f.older xs
    → HasOlder (half_at sizes (other_half f.counting)) f.older (set xs gate b)
other-gate sizes f gate b xs g there =
    other-set (half_at sizes (other_half f.counting)) f.older gate b xs
    (elim (halves_apart sizes f.counting) [
      | inl before ↦ inr (omega (arith, before, g.is, g.within))
      | inr behind ↦ inl (omega (arith, behind, g.is, g.lawful.slots_from))
    ]) there

records-gate : (sizes : Sizes) (f : Framing) (rows : List (Row (List ℕ))) (gate b : ℕ)
    (xs : List ℕ) → IsGate sizes f gate → HoldRows sizes xs rows
    → HoldRows sizes (set xs gate b) rows
records-gate sizes f rows gate b xs g held =
    let ends = half_ends sizes f.counting in
    let lt : gate < roots_at sizes = omega (arith, ends, g.is, g.within) in
    subst (λ (roots : List ℕ). AllByRecursion (HoldsRow sizes roots) rows)
    (sym (drop-set-lt (roots_at sizes) xs gate b lt)) held

-- any byte but the open gate's
pub stays_shut : (sizes : Sizes) (f : Framing) (rows : List (Row (List ℕ))) (gate b : ℕ)
    (base : List ℕ) → IsGate sizes f gate → gate < length base → b ≢ open_gate
    → Matches sizes f rows base → Matches sizes f rows (set base gate b)
stays_shut sizes f rows gate b base g inside shut m =
    let begins = half_begins sizes f.counting in
    record {
      long = subst (λ (n : ℕ). needs sizes rows ≤ n) (sym (length-set base gate b)) m.long;
      superblock = part-before 0 4096 gate b base (omega (arith, begins, g.is)) ∙ m.superblock;
      used = part-before (half_at sizes f.counting) (used_size f) gate b base (omega (arith, g.is))
          ∙ m.used;
      end = λ goes_on is_open.
          shut (sym (get_or-set_same base gate b 0 inside)
          ∙ (ap (λ (i : ℕ). get_or (set base gate b) i 0) g.is ∙ is_open));
      other = other-gate sizes f gate b base g m.other;
      records = records-gate sizes f rows gate b base g m.records;
    }

-- the group follows the gate, and the byte after the group is shut
pub record IsReady (sizes : Sizes) (f next : Framing) (rows : List (Row (List ℕ))) (gate n : ℕ)
    (behind base : List ℕ) : Type 0 where
  pub counting : next.counting ≡ f.counting
  pub older : next.older ≡ f.older
  pub bytes : used_bytes next ≡ used_bytes f ++ open_gate ∷ behind
  pub count : length behind ≡ n
  pub written : part (gate + 1) n base ≡ behind
  pub end : used_size next < half_size sizes → get_or base (gate + 1 + n) 0 ≢ open_gate
  pub records : HoldRows sizes base rows
  pub long : needs sizes rows ≤ length base

pub turns_open : (sizes : Sizes) (f next : Framing) (old rows : List (Row (List ℕ))) (gate n : ℕ)
    (behind base : List ℕ) → IsGate sizes f gate → gate < length base → Matches sizes f old base
    → IsReady sizes f next rows gate n behind base
    → Matches sizes next rows (set base gate open_gate)
turns_open sizes f next old rows gate n behind base g inside m r =
    let xs = set base gate open_gate in
    let at = half_at sizes f.counting in
    let begins = half_begins sizes f.counting in
    let size : used_size next ≡ used_size f + suc n =
    ap length r.bytes ∙ (length-append (used_bytes f) (open_gate ∷ behind)
    ∙ ap (λ (k : ℕ). used_size f + suc k) r.count) in
    let front : part at (used_size f) xs ≡ used_bytes f =
    part-before at (used_size f) gate open_gate base (omega (arith, g.is)) ∙ m.used in
    let back : part (at + used_size f) (suc n) xs ≡ open_gate ∷ behind =
    ap (λ (i : ℕ). part i (suc n) xs) (sym g.is)
    ∙ (part-gate gate n open_gate base inside ∙ ap (λ (l : List ℕ). open_gate ∷ l) r.written) in
    let whole : part at (used_size next) xs ≡ used_bytes next =
    ap (λ (k : ℕ). part at k xs) size
    ∙ (part-joined at (used_size f) (suc n) xs
    ∙ (ap (λ (l : List ℕ). l ++ part (at + used_size f) (suc n) xs) front
    ∙ (ap (λ (l : List ℕ). used_bytes f ++ l) back ∙ sym r.bytes))) in
    record {
      long = subst (λ (k : ℕ). needs sizes rows ≤ k) (sym (length-set base gate open_gate)) r.long;
      superblock = part-before 0 4096 gate open_gate base (omega (arith, begins, g.is)) ∙
          m.superblock;
      used = ap (λ (h : Half). part (half_at sizes h) (used_size next) xs) r.counting ∙ whole;
      end = λ goes_on is_open.
          let place : half_at sizes next.counting + used_size next ≡ gate + 1 + n =
          ap (λ (h : Half). half_at sizes h + used_size next) r.counting
          ∙ omega (arith, size, g.is) in
          r.end goes_on
          (sym (get_or-set_other base gate (gate + 1 + n) open_gate 0 (λ e. omega (arith, e)))
          ∙ (ap (λ (i : ℕ). get_or xs i 0) (sym place) ∙ is_open));
      other = subst (λ (h : Half). HasOlder (half_at sizes (other_half h)) next.older xs)
          (sym r.counting)
          (subst (λ (o : Option HalfHead). HasOlder (half_at sizes (other_half f.counting)) o xs)
          (sym r.older)
          (other-gate sizes f gate open_gate base g m.other));
      records = records-gate sizes f rows gate open_gate base g r.records;
    }
