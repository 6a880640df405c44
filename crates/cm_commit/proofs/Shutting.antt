-- The gate of the half that doesn't count: while it is shut, whatever follows it counts for
-- nothing, and it may be shut at any time.
-- For `checkpoints_renew`, `other_halves_shut`, `others_are_told`, `shut_halves_may_change`.
use Rattle.std.proofs.Common.{◌≡◌, ◌≢◌, ℕ, ◌+◌, ◌-◌, ◌<◌, ◌≤◌, ◌⊎◌, inl, inr, Bool, true, false}
use Rattle.std.proofs.Common.{List, [], ◌∷◌, length, get_or, Option, Some, None, refl, sym, ap}
use Rattle.std.proofs.Common.{subst, ◌∙◌, arith, eqb, is_some}
use Rattle.std.specs.List.{AllByRecursion}
use Rattle.std.proofs.Math.ListN.{set}
use Rattle.std.proofs.lemmas.Bool.{eqb-true, eq-eqb, or_cases}
use Rattle.std.proofs.lemmas.List.{drop-set-lt, length-set, get_or-set_same, get_or-set_other}
use Rattle.cm_disk.specs.Disk.{is_among}
use Rattle.cm_pool.specs.Geometry.{Sizes}
use Rattle.cm_layout.specs.declared.heads.HalfHead.{HalfHead}
use Rattle.cm_layout.specs.declared.row.Row.{Row}
use Rattle.cm_layout.specs.declared.row.Row.TheVariants.{Loader, Class}
use Rattle.cm_layout.specs.Offsets.{half_size, half_at, roots_at}
use Rattle.cm_layout.specs.Slots.{open_gate}
use Rattle.cm_layout.specs.Frames.{HoldsRow}
use Rattle.cm_layout.specs.Framing.{Range, HasOlder, part, guards, needs}
use Rattle.cm_layout.specs.Framing.{used_bytes, used_size, older_size, other_half, record_ranges}
use Rattle.cm_commit.specs.Committed.{Committed}
use Rattle.cm_commit.specs.Guarding.{is_in_any, IsCommitted, ContentsShow, shut_other}
use Rattle.cm_commit.specs.Laws.{other_gate, ShutHalvesMayChange, OtherHalvesShut}
use Rattle.cm_commit.specs.Laws.{OthersAreTold}
use Rattle.cm_commit.proofs.Ranges.{among-from, among-to, byte_in_part, half_begins, half_ends}
use Rattle.cm_commit.proofs.Ranges.{halves_apart}
use Rattle.cm_commit.proofs.Guards.{guarded, needs_roots, end_size}
use Rattle.cm_commit.proofs.Held.{HoldRows}
use Rattle.cm_commit.proofs.Gate.{part-before, part-behind}

-- ---- what is guarded lies outside a shut half

-- each range lies before this one, or after it
abbrev AreOutside : ℕ → ℕ → List Range → Type 0
AreOutside at n [] = Unit {0}
AreOutside at n (r ∷ ranges) =
    ((r.at + r.count ≤ at) ⊎ (at + n ≤ r.at)) × AreOutside at n ranges

not_among : (at n i : ℕ) → (at ≤ i → i < at + n → ⊥) → is_among at n i ≡ false
not_among at n i apart = by_test (is_among at n i) refl
  where
    by_test : (t : Bool) → is_among at n i ≡ t → t ≡ false
    by_test true e = absurd (apart (among-from at n i e) (among-to at n i e))
    by_test false e = refl

outside : (at n : ℕ) (ranges : List Range) → AreOutside at n ranges → (i : ℕ)
    → is_in_any ranges i ≡ true → is_among at n i ≡ false
outside at n [] apart i h = absurd (cc)
outside at n (r ∷ ranges) apart i h =
    elim (or_cases (is_among r.at r.count i) (is_in_any ranges i) h) [
      | inl here ↦
          let from = among-from r.at r.count i here in
          let to = among-to r.at r.count i here in
          not_among at n i (λ from_at to_at. elim apart.0 [
            | inl before ↦ omega (arith, to, from_at, before)
            | inr behind ↦ omega (arith, from, to_at, behind)
          ])
      | inr there ↦ outside at n ranges apart.1 i there
    ]

records_outside : (sizes : Sizes) (rows : List (Row (List ℕ))) (at n : ℕ)
    → at + n ≤ roots_at sizes → AreOutside at n (record_ranges sizes rows)
records_outside sizes [] at n le = tt
records_outside sizes (Loader r ∷ rows) at n le = records_outside sizes rows at n le
records_outside sizes (Class r words ∷ rows) at n le =
    (inr (omega (arith, le)), records_outside sizes rows at n le)

-- the bytes after the shut gate
pub apart_from_shut : (c : Committed) (n i : ℕ) → IsCommitted c → c.framing.older ≡ None
    → 1 + n ≤ half_size c.sizes → is_in_any (guards c.sizes c.framing c.rows) i ≡ true
    → is_among (other_gate c + 1) n i ≡ false
apart_from_shut c n i right shut small guarded_i =
    let at = other_gate c + 1 in
    let used = used_size c.framing in
    let begins = half_begins c.sizes (other_half c.framing.counting) in
    let ends = half_ends c.sizes (other_half c.framing.counting) in
    let end = end_size used (half_size c.sizes) right.fits in
    let one = ap older_size shut in
    let records = records_outside c.sizes c.rows at n (omega (arith, ends, small)) in
    let front : 4096 ≤ at = omega (arith, begins) in
    elim (halves_apart c.sizes c.framing.counting) [
      | inl before ↦
          outside at n (guards c.sizes c.framing c.rows) (
            inl (omega (arith, front)),
            (
              inl (omega (arith, before, right.fits)),
              (inl (omega (arith, before, end)), (inl (omega (arith, one)), records)),
            ),
          )
          i guarded_i
      | inr behind ↦
          outside at n (guards c.sizes c.framing c.rows) (
            inl (omega (arith, front)),
            (
              inr (omega (arith, behind, small)),
              (inr (omega (arith, behind, small)), (inl (omega (arith, one)), records)),
            ),
          )
          i guarded_i
    ]

pub shut_halves_may_change : ShutHalvesMayChange
shut_halves_may_change c a b right shut differs shows =
    let size = right.lawful.slots_from in
    (guarded c right).carries a b shows.long
    (record {
      long = omega (arith, shows.long, differs.size);
      same = λ i guarded_i.
          sym (differs.same i
          (apart_from_shut c (half_size c.sizes - 1) i right shut (omega (arith, size)) guarded_i));
    })
    shows

-- ---- a byte at the gate

part-set : (at n gate b : ℕ) (xs : List ℕ) → (at + n ≤ gate) ⊎ (gate < at)
    → part at n (set xs gate b) ≡ part at n xs
part-set at n gate b xs (inl before) = part-before at n gate b xs before
part-set at n gate b xs (inr behind) = part-behind at n gate b xs behind

-- What holds of a framing, except for the other half, whatever byte is at that half's gate.
pub record HasGate (c : Committed) (contents : List ℕ) (byte : ℕ) : Type 0 where
  pub inside : other_gate c < length contents
  pub long : needs c.sizes c.rows ≤ length (set contents (other_gate c) byte)
  pub superblock : part 0 4096 (set contents (other_gate c) byte) ≡ part 0 4096 contents
  pub front : (n : ℕ) → n ≤ half_size c.sizes
      → part (half_at c.sizes c.framing.counting) n (set contents (other_gate c) byte)
      ≡ part (half_at c.sizes c.framing.counting) n contents
  pub one : (n : ℕ) → n < half_size c.sizes
      → get_or (set contents (other_gate c) byte) (half_at c.sizes c.framing.counting + n) 0
      ≡ get_or contents (half_at c.sizes c.framing.counting + n) 0
  pub records : HoldRows c.sizes (set contents (other_gate c) byte) c.rows

pub has_gate : (c : Committed) (contents : List ℕ) (byte : ℕ) → IsCommitted c
    → ContentsShow c contents
    → HasGate c contents byte
has_gate c contents byte right shows =
    let gate = other_gate c in
    let here = half_at c.sizes c.framing.counting in
    let begins = half_begins c.sizes (other_half c.framing.counting) in
    let ends = half_ends c.sizes (other_half c.framing.counting) in
    let some = right.lawful.slots_from in
    let apart = halves_apart c.sizes c.framing.counting in
    record {
      inside = omega (arith, ends, some, shows.long, needs_roots c.sizes c.rows);
      long = subst (λ (n : ℕ). needs c.sizes c.rows ≤ n) (sym (length-set contents gate byte))
          shows.long;
      superblock = part-before 0 4096 gate byte contents (omega (arith, begins));
      front = λ n small. part-set here n gate byte contents (elim apart [
        | inl before ↦ inl (omega (arith, before, small))
        | inr behind ↦ inr (omega (arith, behind, some))
      ]);
      one = λ n small. get_or-set_other contents gate (here + n) byte 0 (λ e. elim apart [
        | inl before ↦ omega (arith, before, small, e)
        | inr behind ↦ omega (arith, behind, some, e)
      ]);
      records = subst
          (λ (roots : List ℕ). AllByRecursion (HoldsRow c.sizes roots) c.rows)
          (sym (drop-set-lt (roots_at c.sizes) contents gate byte (omega (arith, ends, some))))
          shows.records;
    }

-- ---- the half is shut

pub right_shut : (c : Committed) → IsCommitted c → IsCommitted (shut_other c)
unfolding used_bytes
right_shut c right = record {
  lawful = right.lawful;
  fits = right.fits;
  good = right.good;
  older = tt;
  rows_are = right.rows_are;
  number_is = right.number_is;
  apart = right.apart;
}

-- a byte that doesn't open the gate is there
shows_shut : (c : Committed) (contents : List ℕ) (byte : ℕ) → IsCommitted c
    → ContentsShow c contents
    → byte ≢ open_gate → ContentsShow (shut_other c) (set contents (other_gate c) byte)
unfolding used_bytes
shows_shut c contents byte right shows shut =
    let g = has_gate c contents byte right shows in
    record {
      long = g.long;
      superblock = g.superblock ∙ shows.superblock;
      used = g.front (used_size c.framing) right.fits ∙ shows.used;
      end = λ goes_on is_open.
          shows.end goes_on (sym (g.one (used_size c.framing) goes_on) ∙ is_open);
      other = λ is_open.
          shut (sym (get_or-set_same contents (other_gate c) byte 0 g.inside) ∙ is_open);
      records = g.records;
    }

pub other_halves_shut : OtherHalvesShut
other_halves_shut c contents byte right shows shut = record {
  right = right_shut c right;
  shows = shows_shut c contents byte right shows shut;
}

-- the gate is shut already
pub shows_as_shut : (c : Committed) (contents : List ℕ) → c.framing.older ≡ None
    → ContentsShow c contents
    → ContentsShow (shut_other c) contents
unfolding used_bytes
shows_as_shut c contents none shows = record {
  long = shows.long;
  superblock = shows.superblock;
  used = shows.used;
  end = shows.end;
  other = subst (λ (o : Option HalfHead). HasOlder (other_gate c) o contents) none shows.other;
  records = shows.records;
}

-- ---- what the byte says

head_told : (at : ℕ) (older : Option HalfHead) (contents : List ℕ) → HasOlder at older contents
    → is_some older ≡ eqb (get_or contents at 0) open_gate
head_told at None contents shut = by_test (eqb (get_or contents at 0) open_gate) refl
  where
    by_test : (t : Bool) → eqb (get_or contents at 0) open_gate ≡ t → false ≡ t
    by_test true e = absurd (shut (eqb-true (get_or contents at 0) open_gate e))
    by_test false e = refl
head_told at (Some head) contents there =
    let place : at ≡ at + 0 = omega arith in
    let first : get_or contents at 0 ≡ open_gate =
    ap (λ (i : ℕ). get_or contents i 0) place
    ∙ (sym (byte_in_part at 64 0 contents (omega arith))
    ∙ ap (λ (l : List ℕ). get_or l 0 0) there) in
    sym (eq-eqb (get_or contents at 0) open_gate first)

pub other_is_told : OthersAreTold
other_is_told c contents shows = head_told (other_gate c) c.framing.older contents shows.other
