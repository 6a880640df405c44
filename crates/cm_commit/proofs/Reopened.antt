-- The other half, once it is written after its gate: the open gate's byte makes it the half that
-- counts.
-- For `checkpoints_renew`, `written_halves_open`.
use Rattle.std.proofs.Common.{◌≡◌, ℕ, suc, ◌+◌, ◌<◌, List, ◌∷◌, ◌++◌, length, take}
use Rattle.std.proofs.Common.{drop, get_or, refl, sym, ap, ◌∙◌, arith, append_assoc}
use Rattle.std.proofs.Common.{append-nil}
use Rattle.std.specs.List.{flat_map}
use Rattle.std.proofs.Math.ListN.{set}
use Rattle.std.proofs.lemmas.List.{take-take, take_at, get_or_at, get_or-set_other, length-append}
use Rattle.cm_layout.specs.declared.half.Half.{Half}
use Rattle.cm_layout.specs.declared.half.Half.TheVariants.{Zero, One}
use Rattle.cm_layout.specs.Offsets.{half_at}
use Rattle.cm_layout.specs.Slots.{open_gate, half_head_rest, half_head_slot, row_slots}
use Rattle.cm_layout.specs.Frames.{IsGoodHead, groups_slots}
use Rattle.cm_layout.specs.Framing.{Framing, part, used_bytes, used_size, other_half}
use Rattle.cm_layout.specs.Zeros.{blank, zeros}
use Rattle.cm_layout.proofs.{length-blank}
use Rattle.cm_commit.specs.Committed.{Committed}
use Rattle.cm_commit.specs.Checkpoints.{renewed, renewed_framing, half_behind_gate}
use Rattle.cm_commit.specs.Guarding.{IsCommitted, ContentsShow, shut_other}
use Rattle.cm_commit.specs.Laws.{other_gate, WrittenHalvesOpen}
use Rattle.cm_commit.proofs.Ranges.{byte_in_part}
use Rattle.cm_commit.proofs.Slots.{end_is}
use Rattle.cm_commit.proofs.Gate.{part-gate}
use Rattle.cm_commit.proofs.NewHalves.{right_renewed}
use Rattle.cm_commit.proofs.Shutting.{has_gate, right_shut}

other_twice : (h : Half) → other_half (other_half h) ≡ h
other_twice Zero = refl
other_twice One = refl

-- a half's bytes begin with its head
used-head : (f : Framing) → take 64 (used_bytes f) ≡ half_head_slot f.head
unfolding used_bytes
used-head f =
    take_at (half_head_slot f.head)
    (flat_map row_slots f.live ++ groups_slots f.head.base f.groups) 64 refl

blank-behind : (front : List ℕ) → get_or (front ++ blank 64) (length front) 0 ≡ 0
unfolding blank
blank-behind front = get_or_at front 0 (zeros 63) 0 (length front) refl

module _ (c : Committed) where
  abbrev next : Framing
  next = renewed_framing c

  -- the new half after its gate, up to its end
  abbrev front : List ℕ
  front = half_head_rest next.head ++ flat_map row_slots next.live

  abbrev behind : List ℕ
  behind = half_behind_gate next.head next.live

  behind-is : behind ≡ front ++ blank 64
  behind-is =
      sym (append_assoc (half_head_rest next.head) (flat_map row_slots next.live) (blank 64))

  pub behind-count : length behind ≡ length front + 64
  behind-count =
      ap length behind-is ∙ omega (arith, length-append front (blank 64), length-blank 64)

  used-renewed : used_bytes next ≡ open_gate ∷ front
  unfolding used_bytes
  used-renewed =
      ap (λ (l : List ℕ). half_head_slot next.head ++ l) (append-nil (flat_map row_slots next.live))

  pub size-renewed : used_size next ≡ suc (length front)
  size-renewed = ap length used-renewed

  module _ (contents : List ℕ) (right : IsCommitted c) (shows : ContentsShow c contents)
      (there : part (other_gate c + 1) (length behind) contents ≡ behind) where
    abbrev opened : List ℕ
    opened = set contents (other_gate c) open_gate

    front-there : part (other_gate c + 1) (length front) contents ≡ front
    front-there =
        let count = behind-count in
        sym (take-take (length front) (length behind) (drop (other_gate c + 1) contents)
        (omega (arith, count)))
        ∙ (ap (take (length front)) (there ∙ behind-is)
        ∙ take_at front (blank 64) (length front) refl)

    whole-there : other_gate c < length contents
        → part (other_gate c) (used_size next) opened ≡ used_bytes next
    whole-there inside =
        ap (λ (n : ℕ). part (other_gate c) n opened) size-renewed
        ∙ (part-gate (other_gate c) (length front) open_gate contents inside
        ∙ (ap (λ (l : List ℕ). open_gate ∷ l) front-there ∙ sym used-renewed))

    -- the byte after the new half's end
    end-there : get_or opened (other_gate c + used_size next) 0 ≡ 0
    end-there =
        let n = length front in
        let count = behind-count in
        let place : other_gate c + used_size next ≡ other_gate c + 1 + n =
        omega (arith, size-renewed) in
        ap (λ (i : ℕ). get_or opened i 0) place
        ∙ (get_or-set_other contents (other_gate c) (other_gate c + 1 + n) open_gate 0
        (λ e. omega (arith, e))
        ∙ (sym (byte_in_part (other_gate c + 1) (length behind) n contents (omega (arith, count)))
        ∙ (ap (λ (l : List ℕ). get_or l n 0) (there ∙ behind-is) ∙ blank-behind front)))

    head-there : part (half_at c.sizes c.framing.counting) 64 contents
        ≡ half_head_slot c.framing.head
    head-there =
        let size = end_is c.sizes c.framing right.good in
        sym (take-take 64 (used_size c.framing)
        (drop (half_at c.sizes c.framing.counting) contents) (omega (arith, size)))
        ∙ (ap (take 64) shows.used ∙ used-head c.framing)

    pub shows_renewed : IsGoodHead c.sizes next.head → ContentsShow (renewed c) opened
    shows_renewed head =
        let g = has_gate c contents open_gate right shows in
        let some = right.lawful.slots_from in
        record {
          long = g.long;
          superblock = g.superblock ∙ shows.superblock;
          used = whole-there g.inside;
          end = λ goes_on is_open. absurd (omega (arith, sym end-there ∙ is_open));
          other = ap (λ (h : Half). part (half_at c.sizes h) 64 opened)
              (other_twice c.framing.counting)
              ∙ (g.front 64 (omega (arith, some)) ∙ head-there);
          records = g.records;
        }

pub written_halves_open : WrittenHalvesOpen
written_halves_open c contents right head shows there = record {
  right = right_renewed c right head;
  shows = shows_renewed (shut_other c) contents (right_shut c right) shows there head;
}
