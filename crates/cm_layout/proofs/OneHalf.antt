-- Contents that match two framings have one half that counts in both.
-- For `contents_determine_head`.
use Rattle.std.proofs.Common.{◌≡◌, ℕ, ◌+◌, ◌<◌, ◌≤◌, List, ◌++◌, length, take, drop, get_or}
use Rattle.std.proofs.Common.{Option, Some, None, sym, ap, subst, ◌∙◌, arith, refl}
use Rattle.std.specs.List.{flat_map}
use Rattle.std.proofs.lemmas.List.{take_at, take-take, get_or-drop, get_or-take}
use Rattle.cm_pool.specs.Geometry.{Sizes}
use Rattle.cm_layout.specs.declared.half.Half.{Half}
use Rattle.cm_layout.specs.declared.half.Half.TheVariants.{Zero, One}
use Rattle.cm_layout.specs.declared.heads.HalfHead.{HalfHead}
use Rattle.cm_layout.specs.declared.row.Row.{Row}
use Rattle.cm_layout.specs.Offsets.{slot_size, half_size, half_at, roots_at}
use Rattle.cm_layout.specs.Slots.{half_head_slot, row_slots}
use Rattle.cm_layout.specs.Frames.{OpenHalf, IsGoodHead, IsGoodHalf, half_bytes, groups_slots}
use Rattle.cm_layout.specs.Framing.{Framing, HasOlder, IsRightOlder, part, other_half}
use Rattle.cm_layout.specs.Laws.{IsFramed, AreOneHalf, FramingsAreOne}
use Rattle.cm_layout.proofs.OneSlot.{same_half_head}
use Rattle.cm_layout.proofs.OneReading.{one_half, frames_are_one}
use Rattle.cm_layout.proofs.Matched.{framing_of, half_split, half_back, needs_roots, matches_frame}

inside : (sizes : Sizes) (h : Half) (contents : List ℕ) → roots_at sizes ≤ length contents
    → half_at sizes h + half_size sizes ≤ length contents
inside sizes Zero contents long = omega (arith, long)
inside sizes One contents long = omega (arith, long)

-- the half that counts, with the bytes after its end
abbrev with_behind : Framing → List ℕ → OpenHalf
with_behind f behind =
    record { head = f.head; live = f.live; groups = f.groups; behind = behind }

record IsOpenHere (sizes : Sizes) (f : Framing) (contents : List ℕ) : Type 0 where
  behind : List ℕ
  bytes : part (half_at sizes f.counting) (half_size sizes) contents
      ≡ half_bytes (with_behind f behind)
  good : IsGoodHalf sizes (with_behind f behind)

open_here : (sizes : Sizes) (contents : List ℕ) (rows : List (Row (List ℕ))) (n : ℕ)
    (a : IsFramed sizes contents rows n) → IsOpenHere sizes a.framing contents
unfolding framing_of
open_here sizes contents rows n a =
    let f = a.framing in
    let right = a.right in
    let there = a.matches in
    let long : roots_at sizes ≤ length contents =
    omega (arith, needs_roots sizes rows, there.long) in
    let back = half_back sizes f (half_at sizes f.counting) contents
    (inside sizes f.counting contents long) right.fits there.used there.end in
    record {
      behind = back.0;
      bytes = back.1 ∙ sym (half_split f.counting (with_behind f back.0) f.older);
      good = record {
        head = right.good.head;
        count = right.good.count;
        live = right.good.live;
        live_version = right.good.live_version;
        groups = right.good.groups;
        groups_version = right.good.groups_version;
        end = back.2;
      };
    }

head_here : (sizes : Sizes) (contents : List ℕ) (rows : List (Row (List ℕ))) (n : ℕ)
    (a : IsFramed sizes contents rows n)
    → part (half_at sizes a.framing.counting) slot_size contents ≡ half_head_slot a.framing.head
head_here sizes contents rows n a =
    let f = a.framing in
    let o = open_here sizes contents rows n a in
    sym (take-take slot_size (half_size sizes) (drop (half_at sizes f.counting) contents)
    (omega (arith, a.right.lawful.slots_from)))
    ∙ (ap (take slot_size) o.bytes
    ∙ take_at (half_head_slot f.head)
    (flat_map row_slots f.live ++ (groups_slots f.head.base f.groups ++ o.behind)) slot_size refl)

-- a head at the beginning of the other half has a lower epoch
lower : (sizes : Sizes) (at epoch : ℕ) (older : Option HalfHead) (contents : List ℕ)
    (head : HalfHead) → IsGoodHead sizes head
    → part at slot_size contents ≡ half_head_slot head → HasOlder at older contents
    → IsRightOlder sizes epoch older → head.epoch < epoch
lower sizes at epoch None contents head good there shut right =
    let byte : get_or (part at slot_size contents) 0 0 ≡ get_or contents at 0 =
    get_or-take slot_size (drop at contents) 0 0 (omega arith)
    ∙ (get_or-drop at contents 0 0 ∙ ap (λ (i : ℕ). get_or contents i 0) (omega arith)) in
    absurd (shut (sym byte ∙ ap (λ (l : List ℕ). get_or l 0 0) there))
lower sizes at epoch (Some old) contents head good there other right =
    subst (λ (v : HalfHead). v.epoch < epoch)
    (same_half_head old head right.0.fits good.fits (sym other ∙ there)) right.1

module _ (sizes : Sizes) (contents : List ℕ) (rows more : List (Row (List ℕ))) (n m : ℕ)
    (a : IsFramed sizes contents rows n) (b : IsFramed sizes contents more m) where
  abbrev f : Framing
  f = a.framing

  abbrev g : Framing
  g = b.framing

  -- not both halves count
  not_beside : g.counting ≡ other_half f.counting → f.counting ≡ other_half g.counting → ⊥
  not_beside beside back =
      let first : g.head.epoch < f.head.epoch =
      lower sizes (half_at sizes (other_half f.counting)) f.head.epoch f.older contents g.head
      b.right.good.head
      (subst (λ (h : Half). part (half_at sizes h) slot_size contents ≡ half_head_slot g.head)
      beside (head_here sizes contents more m b))
      a.matches.other a.right.older in
      let second : f.head.epoch < g.head.epoch =
      lower sizes (half_at sizes (other_half g.counting)) g.head.epoch g.older contents f.head
      a.right.good.head
      (subst (λ (h : Half). part (half_at sizes h) slot_size contents ≡ half_head_slot f.head)
      back (head_here sizes contents rows n a))
      b.matches.other b.right.older in
      omega (arith, first, second)

  one_counts : (h k : Half) → f.counting ≡ h → g.counting ≡ k → f.counting ≡ g.counting
  one_counts Zero Zero i j = i ∙ sym j
  one_counts One One i j = i ∙ sym j
  one_counts Zero One i j =
      absurd (not_beside (j ∙ sym (ap other_half i)) (i ∙ sym (ap other_half j)))
  one_counts One Zero i j =
      absurd (not_beside (j ∙ sym (ap other_half i)) (i ∙ sym (ap other_half j)))

  same : AreOneHalf f g
  same =
      let counting = one_counts f.counting g.counting refl refl in
      let x = open_here sizes contents rows n a in
      let y = open_here sizes contents more m b in
      let one = one_half sizes (with_behind f x.behind) (with_behind g y.behind) x.good y.good
      (sym x.bytes
      ∙ (ap (λ (h : Half). part (half_at sizes h) (half_size sizes) contents) counting
      ∙ y.bytes)) in
      record { counting = counting; head = one.head; live = one.live; groups = one.groups }

pub framings_are_one : FramingsAreOne
framings_are_one s t contents rows more n m a b =
    let sizes : s ≡ t =
    (frames_are_one s t contents rows more n m (matches_frame s contents rows n a)
    (matches_frame t contents more m b)).0 in
    subst (λ (z : Sizes). (k : IsFramed z contents more m) → AreOneHalf a.framing k.framing) sizes
    (λ k. same s contents rows more n m a k) b
