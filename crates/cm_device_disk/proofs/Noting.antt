-- A disk that makes a call leaves no other images than one that noted it.
-- For `made_call_leaves_no_more`.
use Rattle.std.proofs.Common.{◌≡◌, ◌≤◌, ◌+◌, ◌-◌, ◌∙◌, ℕ, Bool, true, false, List, [], ◌∷◌}
use Rattle.std.proofs.Common.{◌++◌, length}
use Rattle.std.proofs.Common.{take, get_or, refl, sym, ap, subst, arith, inl, inr, ◌||◌}
use Rattle.std.proofs.Common.{◌⊎◌, if◌then◌else◌}
use Rattle.std.specs.List.{list_any}
use Rattle.std.proofs.lemmas.List.{get_or-take}
use Rattle.std.proofs.lemmas.List.Folds.{list_any-append}
use Rattle.cm_disk.specs.Disk.{IsImage, is_among}
use Rattle.cm_disk.specs.Calls.{DiskCall, IsTorn, IsCut}
use Rattle.cm_disk.specs.Calls.DiskCall.{Len, Read, Take, Write, Cut, Sync}
use Rattle.cm_disk.specs.declared.medium.OpenRange.{OpenRange}
use Rattle.cm_disk.specs.Moments.{Moment, MayLeave, LeftAtOne, noted_since, is_in_range}
use Rattle.cm_disk.specs.Moments.{none_since_now}
use Rattle.cm_disk.proofs.{torn_same}
use Rattle.cm_device_disk.specs.declared.history.Call.{Call}
use Rattle.cm_device_disk.specs.declared.history.Call.TheVariants as call
use Rattle.cm_device_disk.specs.State.{DiskState, moment_unsynced, opened, lowered, refused}
use Rattle.cm_device_disk.specs.Calls.{CallFollows, after}
use Rattle.cm_device_disk.specs.Noting.{LeavesSince, MayAsk}
use Rattle.cm_device_disk.specs.DeviceDisk.{Follows}

-- what the last moment may leave is left since it was noted
at_last : (m : Moment) (moments : List Moment) (image : List ℕ) → MayLeave m image
    → LeftAtOne (noted_since (length moments) (m ∷ moments)) image
at_last m moments image leaves =
    let one : 1 ≡ length (m ∷ moments) - length moments = omega arith in
    subst (λ (k : ℕ). LeftAtOne (take k (m ∷ moments)) image) one (inl leaves)

or_false : (a b : Bool) → (a || (b || false)) ≡ false → (a || b) ≡ false
or_false false false e = refl
or_false false true e = e
or_false true b e = e

-- torn bytes leave what may be left while they are written
torn_image : (at n : ℕ) (now : Moment) (left image : List ℕ) → IsTorn at n now.bytes left
    → IsImage left (moment_unsynced (opened at n now)) image → MayLeave (opened at n now) image
torn_image at n now left image torn is =
    let range : OpenRange = record { start = at; end = at + n } in
    record {
      no_shorter = is.no_shorter;
      no_longer = is.no_longer;
      bytes = is.bytes;
      same = λ i lt closed.
          let was = list_any (is_in_range i) now.ranges in
          let neither : (was || (is_among at n i || false)) ≡ false =
          sym (list_any-append (is_in_range i) now.ranges (range ∷ [])) ∙ closed in
          is.same i lt closed
          ∙ torn_same at n now.bytes left torn was i (or_false was (is_among at n i) neither);
    }

-- bytes that are cut leave what may be left while they are cut
cut_image : (len : ℕ) (now : Moment) (left image : List ℕ) → IsCut len now.bytes left
    → IsImage left (moment_unsynced (lowered len now)) image → MayLeave (lowered len now) image
cut_image len now left image cut is = record {
  no_shorter = is.no_shorter;
  no_longer = is.no_longer;
  bytes = is.bytes;
  same = λ i lt closed.
      is.same i lt closed
      ∙ ap (λ (l : List ℕ). get_or l i 0) cut.front
      ∙ get_or-take (length left) now.bytes i 0 (omega (arith, lt, cut.no_shorter));
}

-- a call that leaves certain bytes leads to one state
same_state : (call : Call) (bytes : List ℕ) (old one other : DiskState)
    → CallFollows call bytes old one → CallFollows call bytes old other
    → one.now.bytes ≡ other.now.bytes → one ≡ other
same_state call bytes old one other first second same =
    first.state ∙ ap (λ (left : List ℕ). after call bytes left old) same ∙ sym second.state

-- in the same state the same is left
moved : (t : ℕ) (image : List ℕ) (one other : DiskState) → one ≡ other → LeavesSince one t image
    → LeavesSince other t image
moved t image one other e = subst (λ (s : DiskState). LeavesSince s t image) e

-- the call fails, or all of it is left
torn_or_earlier : (m : Moment) (old : DiskState) (image : List ℕ) (now : List ℕ → Type 0)
    → (now image → MayLeave m image)
    → now image ⊎ LeftAtOne (noted_since (length old.moments) (m ∷ old.moments)) image
    → LeftAtOne (noted_since (length old.moments) (m ∷ old.moments)) image
torn_or_earlier m old image now leaves (inl is) = at_last m old.moments image (leaves is)
torn_or_earlier m old image now leaves (inr earlier) = earlier

asked : (before noted made : DiskState) (ok : Bool) (t : ℕ) (image : List ℕ) → noted ≡ before
    → made ≡ (if ok then before else refused before) → LeavesSince made t image
    → LeavesSince noted t image
asked before noted made true t image n m left = moved t image made noted (m ∙ sym n) left
asked before noted made false t image n m left =
    moved t image before noted (sym n) (moved t image made (refused before) m left)

pub made_leaves : (call : DiskCall) (before noted made : DiskState) (ok : Bool) (image : List ℕ)
    → MayAsk call before.now.bytes → Follows call false before noted true
    → Follows call false before made ok → LeavesSince made (length before.moments) image
    → LeavesSince noted (length before.moments) image
made_leaves Len before noted made ok image may n m left =
    asked before noted made ok (length before.moments) image n m left
made_leaves (Read at count) before noted made ok image may n m left =
    asked before noted made ok (length before.moments) image n m left
made_leaves (Take at count) before noted made ok image may n m left =
    asked before noted made ok (length before.moments) image n m left
made_leaves (Write at bytes) before noted made true image may n m left =
    moved (length before.moments) image made noted
    (same_state (call.Wrote at) bytes before made noted m n (m.left ∙ sym n.left)) left
made_leaves (Write at bytes) before noted made false image may n m left =
    let t = length before.moments in
    let during : Moment = opened at (length bytes) before.now in
    moved t image (after (call.Wrote at) bytes noted.now.bytes before) noted (sym n.state)
    (inr (torn_or_earlier during before image
    (IsImage made.now.bytes (moment_unsynced during))
    (torn_image at (length bytes) before.now made.now.bytes image m.left.0)
    (moved t image made (after (call.NotWritten at) bytes made.now.bytes before) m.state left)))
made_leaves (Cut len) before noted made true image may n m left =
    moved (length before.moments) image made noted
    (same_state (call.Cut len) [] before made noted m n (m.left ∙ sym n.left)) left
made_leaves (Cut len) before noted made false image may n m left =
    let t = length before.moments in
    let during : Moment = lowered len before.now in
    moved t image (after (call.Cut len) [] noted.now.bytes before) noted (sym n.state)
    (inr (torn_or_earlier during before image
    (IsImage made.now.bytes (moment_unsynced during))
    (cut_image len before.now made.now.bytes image (m.left may))
    (moved t image made (after (call.NotCut len) [] made.now.bytes before) m.state left)))
made_leaves Sync before noted made true image may n m left =
    moved (length before.moments) image made noted
    (same_state call.Synced [] before made noted m n (m.left ∙ sym n.left)) left
made_leaves Sync before noted made false image may n m left =
    let t = length before.moments in
    moved t image (after call.Synced [] noted.now.bytes before) noted (sym n.state)
    (inr (at_last before.now before.moments image (none_since_now before.moments image
    (moved t image made (refused before) m.state left))))
