-- Which half counts: the open one of greater epoch, whose head is good.
-- For `counting_half`.
use Rattle.std.proofs.Common.{sym}
use Rattle.std.proofs.Common.{◌≡◌, ◌≢◌, ℕ, ◌+◌, ◌≤◌, ◌^◌, Bool, true, false, cond}
use Rattle.std.proofs.Common.{List, Option, Some, None, Ok, Err, refl, ap, subst, ◌∙◌, arith}
use Rattle.std.specs.Prelude.{IfOk, ◌&&◌, nat_le, nat_lt, ◌==◌, Result}
use Rattle.std.proofs.lemmas.Bool.{and_parts, and_from, leb-true, le-leb, eqb-false}
use Rattle.std.proofs.lemmas.Bool.{ne_eqb, ltb-true, lt-ltb, ltb-false, le-ltb}
use Rattle.cm_pool.specs.Geometry.{Sizes}
use Rattle.cm_layout.specs.declared.half.Half.{Half}
use Rattle.cm_layout.specs.declared.half.Half.TheVariants.{Zero, One}
use Rattle.cm_layout.specs.declared.heads.HalfHead.{HalfHead}
use Rattle.cm_layout.specs.Slots.{half_head_slot}
use Rattle.cm_layout.specs.Rules.{row_limit}
use Rattle.cm_layout.specs.Frames.{IsGoodHead}
use Rattle.cm_layout.specs.Framing.{other_half, IsRightOlder}
use Rattle.cm_verdict.specs.declared.counting.Counting.{Counting}
use Rattle.cm_verdict.specs.declared.fault.Damage.{Damage}
use Rattle.cm_verdict.specs.declared.fault.Damage.TheVariants as damage
use Rattle.cm_verdict.specs.declared.fault.FileFault.{FileFault}
use Rattle.cm_verdict.specs.Faults.{◌>>=◌, at_slot}
use Rattle.cm_verdict.specs.Decoding.{is_open, half_head_in}
use Rattle.cm_verdict.specs.Walk.{first_slot}
use Rattle.cm_verdict.specs.Found.{is_version, is_good_head, good_head, open_head, counting}
use Rattle.cm_verdict.specs.Found.{which_half}
use Rattle.cm_verdict.specs.Found.{counting_half}
use Rattle.cm_verdict.proofs.Decoded.{half_head_spelled, half_head_again}

-- ---- one head

parts_good : (sizes : Sizes) (h : HalfHead) → is_good_head sizes h ≡ true
    → (1 ≤ h.version) × (h.version ≤ 2) × (h.live ≤ row_limit sizes) × (h.base ≤ 2 ^ 63)
    × (1 ≤ h.epoch) × (h.epoch ≤ h.base + h.version)
parts_good sizes h e =
    let live = nat_le h.live (row_limit sizes) in
    let base = nat_le h.base (2 ^ 63) in
    let a = and_parts (is_version h.version && live && base && nat_le 1 h.epoch)
    (nat_le h.epoch (h.base + h.version)) e in
    let b = and_parts (is_version h.version && live && base) (nat_le 1 h.epoch) a.0 in
    let c = and_parts (is_version h.version && live) base b.0 in
    let d = and_parts (is_version h.version) live c.0 in
    let v = and_parts (nat_le 1 h.version) (nat_le h.version 2) d.0 in (
      leb-true 1 h.version v.0,
      leb-true h.version 2 v.1,
      leb-true h.live (row_limit sizes) d.1,
      leb-true h.base (2 ^ 63) c.1,
      leb-true 1 h.epoch b.1,
      leb-true h.epoch (h.base + h.version) a.1,
    )

is_good : (sizes : Sizes) (h : HalfHead) → IsGoodHead sizes h → is_good_head sizes h ≡ true
is_good sizes h g =
    and_from _ _ (and_from _ _ (and_from _ _ (and_from _ _
    (and_from _ _ (le-leb 1 h.version g.version_from) (le-leb h.version 2 g.version_to))
    (le-leb h.live (row_limit sizes) g.live)) (le-leb h.base (2 ^ 63) g.base))
    (le-leb 1 h.epoch g.epoch_from)) (le-leb h.epoch (h.base + h.version) g.epoch_to)

-- a half's slot 0: shut, or the slot of a head
abbrev pub IsHeadOf : Option HalfHead → List ℕ → Type 0
IsHeadOf None slot = is_open slot ≡ false
IsHeadOf (Some h) slot = slot ≡ half_head_slot h

abbrev IsGoodOne : Sizes → Option HalfHead → Type 0
IsGoodOne sizes None = Unit {0}
IsGoodOne sizes (Some h) = IsGoodHead sizes h

abbrev heads : Option HalfHead → Result (Option HalfHead) Damage
heads o = Ok o

head_same : (a b : Option HalfHead) → heads a ≡ heads b → a ≡ b
head_same a b e = cc

opened : (sizes : Sizes) (slot : List ℕ) (o : Option HalfHead) → open_head sizes slot ≡ Ok o
    → IsHeadOf o slot × IsGoodOne sizes o
unfolding open_head
opened sizes slot o = by_gate (is_open slot) refl
  where
    by_good : (h : HalfHead) → half_head_in slot ≡ Some h → (t : Bool) → is_good_head sizes h ≡ t
        → cond t (Ok (Some h)) (Err damage.Head) ≡ Ok o → IsHeadOf o slot × IsGoodOne sizes o
    by_good h there true good e =
        let s = half_head_spelled slot h there in
        let p = parts_good sizes h good in
        let is : Some h ≡ o = head_same (Some h) o e in
        subst (λ (p : Option HalfHead). IsHeadOf p slot × IsGoodOne sizes p) is (
          s.0,
          record {
            fits = s.1;
            version_from = p.0;
            version_to = p.1;
            live = p.2;
            base = p.3;
            epoch_from = p.4;
            epoch_to = p.5;
          },
        )
    by_good h there false good e = absurd (cc)

    by_head : (p : Option HalfHead) → half_head_in slot ≡ p → good_head sizes p ≡ Ok o
        → IsHeadOf o slot × IsGoodOne sizes o
    by_head None there e = absurd (cc)
    by_head (Some h) there e = by_good h there (is_good_head sizes h) refl e

    by_gate : (t : Bool) → is_open slot ≡ t
        → cond t (good_head sizes (half_head_in slot)) (Ok None) ≡ Ok o
        → IsHeadOf o slot × IsGoodOne sizes o
    by_gate true gate e = by_head (half_head_in slot) refl e
    by_gate false gate e =
        subst (λ (p : Option HalfHead). IsHeadOf p slot × IsGoodOne sizes p) (head_same None o e)
        (gate, tt)

opens : (sizes : Sizes) (slot : List ℕ) (o : Option HalfHead) → IsHeadOf o slot → IsGoodOne sizes o
    → open_head sizes slot ≡ Ok o
unfolding open_head
opens sizes slot None shut good = rw shut refl
opens sizes slot (Some h) is good =
    let gate : is_open slot ≡ true = ap is_open is in
    let there : half_head_in slot ≡ Some h = ap half_head_in is ∙ half_head_again h good.fits in
    rw gate (rw there (rw (is_good sizes h good) refl))

-- ---- two heads

-- this half counts: its head is good, and the other is shut, or has a good head of lower epoch
pub record IsCounting (sizes : Sizes) (slots : Half → List ℕ) (c : Counting) : Type 0 where
  pub here : slots c.half ≡ half_head_slot c.head
  pub good : IsGoodHead sizes c.head
  pub older : Option HalfHead
  pub older_there : IsHeadOf older (slots (other_half c.half))
  pub older_right : IsRightOlder sizes c.head.epoch older

abbrev counts : Counting → Result Counting Damage
counts c = Ok c

counts_same : (a b : Counting) → counts a ≡ counts b → a ≡ b
counts_same a b e = cc

two_heads : (sizes : Sizes) (slots : Half → List ℕ) (c : Counting) (a b : HalfHead)
    → slots Zero ≡ half_head_slot a → slots One ≡ half_head_slot b → IsGoodHead sizes a
    → IsGoodHead sizes b → which_half (Some a) (Some b) ≡ Ok c → IsCounting sizes slots c
two_heads sizes slots c a b is_a is_b good_a good_b =
    by_epochs (a.epoch == b.epoch) refl (nat_lt b.epoch a.epoch) refl
  where
    by_epochs : (t : Bool) → (a.epoch == b.epoch) ≡ t → (l : Bool) → nat_lt b.epoch a.epoch ≡ l
        → cond t (Err damage.Halves) (cond l (Ok (counting Zero a)) (Ok (counting One b))) ≡ Ok c
        → IsCounting sizes slots c
    by_epochs true same l less e = absurd (cc)
    by_epochs false apart true less e =
        subst (IsCounting sizes slots) (counts_same (counting Zero a) c e) (record {
          here = is_a;
          good = good_a;
          older = Some b;
          older_there = is_b;
          older_right = (good_b, ltb-true b.epoch a.epoch less);
        })
    by_epochs false apart false less e =
        let other : a.epoch ≢ b.epoch = eqb-false a.epoch b.epoch apart in
        let least : a.epoch ≤ b.epoch = ltb-false b.epoch a.epoch less in
        subst (IsCounting sizes slots) (counts_same (counting One b) c e) (record {
          here = is_b;
          good = good_b;
          older = Some a;
          older_there = is_a;
          older_right = (good_a, omega arith);
        })

chosen : (sizes : Sizes) (slots : Half → List ℕ) (c : Counting) (zero one : Option HalfHead)
    → IsHeadOf zero (slots Zero) × IsGoodOne sizes zero
    → IsHeadOf one (slots One) × IsGoodOne sizes one
    → which_half zero one ≡ Ok c → IsCounting sizes slots c
chosen sizes slots c None None z o e = absurd (cc)
chosen sizes slots c (Some a) None z o e =
    subst (IsCounting sizes slots) (counts_same (counting Zero a) c e) (record {
      here = z.0;
      good = z.1;
      older = None;
      older_there = o.0;
      older_right = tt;
    })
chosen sizes slots c None (Some b) z o e =
    subst (IsCounting sizes slots) (counts_same (counting One b) c e) (record {
      here = o.0;
      good = o.1;
      older = None;
      older_there = z.0;
      older_right = tt;
    })
chosen sizes slots c (Some a) (Some b) z o e = two_heads sizes slots c a b z.0 o.0 z.1 o.1 e

unslotted : (slot : ℕ) (r : Result Counting Damage) (c : Counting) → at_slot slot r ≡ Ok c
    → r ≡ Ok c
unslotted slot (Ok d) c e = cc
unslotted slot (Err what) c e = absurd (cc)

pub counted : (sizes : Sizes) (slots : Half → List ℕ) (c : Counting)
    → counting_half sizes (slots Zero) (slots One) ≡ Ok c → IsCounting sizes slots c
counted sizes slots c = by_zero (open_head sizes (slots Zero)) refl
  where
    by_one : (zero : Option HalfHead) → open_head sizes (slots Zero) ≡ Ok zero
        → (r : Result (Option HalfHead) Damage) → open_head sizes (slots One) ≡ r
        → (at_slot (first_slot sizes One) r >>= λ one. at_slot 0 (which_half zero one)) ≡ Ok c
        → IsCounting sizes slots c
    by_one zero there (Ok one) is e =
        chosen sizes slots c zero one (opened sizes (slots Zero) zero there)
        (opened sizes (slots One) one is) (unslotted 0 (which_half zero one) c e)
    by_one zero there (Err what) is e = absurd (cc)

    by_zero : (r : Result (Option HalfHead) Damage) → open_head sizes (slots Zero) ≡ r
        → (at_slot (first_slot sizes Zero) r >>= λ zero.
        at_slot (first_slot sizes One) (open_head sizes (slots One)) >>= λ one.
        at_slot 0 (which_half zero one)) ≡ Ok c
        → IsCounting sizes slots c
    by_zero (Ok zero) is e = by_one zero is (open_head sizes (slots One)) refl e
    by_zero (Err what) is e = absurd (cc)

-- ---- and the reverse

good_older : (sizes : Sizes) (epoch : ℕ) (o : Option HalfHead) → IsRightOlder sizes epoch o
    → IsGoodOne sizes o
good_older sizes epoch None right = tt
good_older sizes epoch (Some h) right = right.0

zero_wins : (sizes : Sizes) (a : HalfHead) (o : Option HalfHead) → IsRightOlder sizes a.epoch o
    → which_half (Some a) o ≡ Ok (counting Zero a)
zero_wins sizes a None right = refl
zero_wins sizes a (Some b) right =
    rw (ne_eqb a.epoch b.epoch (λ same. omega (arith, right.1, same)))
    (rw (lt-ltb b.epoch a.epoch right.1) refl)

one_wins : (sizes : Sizes) (b : HalfHead) (o : Option HalfHead) → IsRightOlder sizes b.epoch o
    → which_half o (Some b) ≡ Ok (counting One b)
one_wins sizes b None right = refl
one_wins sizes b (Some a) right =
    rw (ne_eqb a.epoch b.epoch (λ same. omega (arith, right.1, same)))
    (rw (le-ltb b.epoch a.epoch (omega (arith, right.1))) refl)

pub counting_back : (sizes : Sizes) (slots : Half → List ℕ) (half : Half) (head : HalfHead)
    → IsCounting sizes slots (counting half head)
    → counting_half sizes (slots Zero) (slots One) ≡ Ok (counting half head)
counting_back sizes slots Zero head k =
    rw (opens sizes (slots Zero) (Some head) k.here k.good)
    (rw (opens sizes (slots One) k.older k.older_there
    (good_older sizes head.epoch k.older k.older_right))
    (rw (zero_wins sizes head k.older k.older_right) refl))
counting_back sizes slots One head k =
    rw (opens sizes (slots One) (Some head) k.here k.good)
    (rw (opens sizes (slots Zero) k.older k.older_there
    (good_older sizes head.epoch k.older k.older_right))
    (rw (one_wins sizes head k.older k.older_right) refl))

-- ---- what is found counts

abbrev by_half : List ℕ → List ℕ → Half → List ℕ
by_half head_0 head_1 Zero = head_0
by_half head_0 head_1 One = head_1

pub good_counts : (sizes : Sizes) (head_0 head_1 : List ℕ) (r : Result Counting FileFault)
    → r ≡ counting_half sizes head_0 head_1 → IfOk r (λ c. IsGoodHead sizes c.head)
good_counts sizes head_0 head_1 (Ok c) e =
    (counted sizes (by_half head_0 head_1) c (sym e)).good
good_counts sizes head_0 head_1 (Err fault) e = tt
