-- A sync, followed by reads.
-- For `read_synced`.
use Rattle.std.proofs.Common.{◌≡◌, ℕ, Bool, true, false, List, length, get_or, refl}
use Rattle.std.proofs.Common.{sym, ap, subst, ◌∙◌, arith}
use Rattle.std.specs.Prelude.{Result, Ok, Err, IsOk, IsErr, OnOk, OnErr}
use Rattle.cm_disk.specs.Disk.{OnlyNow, View, Unsynced, IsImage, IsDurable, IsSound, IsWithin}
use Rattle.cm_disk.specs.Calls.{Passes, SyncsOnce}
use Rattle.cm_guards.specs.Calls.{LeavesOnly, Reads}
use Rattle.cm_guards.proofs.{one_call, leaves_on, leaves_more}
use Rattle.cm_recover.specs.Opened.{SyncsAndReads}

-- what is durable is within what any sound disk may have unsynced
pub durable_within : (contents now : List ℕ) (old new : Unsynced) → IsSound contents old
    → now ≡ contents → IsDurable now new → IsWithin old new
durable_within contents now old new sound same durable = record {
  positions = λ i here. let none = durable.none_open i in absurd (cc);
  least =
      let long = ap length same in
      let least = durable.least in
      omega (arith, long, least, sound.least);
  greatest =
      let long = ap length same in
      let greatest = durable.greatest in
      omega (arith, long, greatest, sound.greatest);
}

pub within_same : (a b : Unsynced) → b ≡ a → IsWithin a b
within_same a b e = subst (IsWithin a) (sym e) (record {
  positions = λ i here. here;
  least = omega arith;
  greatest = omega arith;
})

-- an image of what is within is an image
pub image_within : (contents now : List ℕ) (old new : Unsynced) (image : List ℕ) → now ≡ contents
    → IsWithin old new → IsImage now new image → IsImage contents old image
image_within contents now old new image same within is = record {
  no_shorter = omega (arith, is.no_shorter, within.least);
  no_longer = omega (arith, is.no_longer, within.greatest);
  bytes = is.bytes;
  same = λ i lt shut.
      is.same i (omega (arith, lt, within.least)) (not_open (new.is_open i) i refl shut)
      ∙ ap (λ (l : List ℕ). get_or l i 0) same;
}
  where
    not_open : (t : Bool) (i : ℕ) → new.is_open i ≡ t → old.is_open i ≡ false → t ≡ false
    not_open true i here shut = let there = within.positions i here in absurd (cc)
    not_open false i here shut = refl

pub always_ok : {T E : Type 0} (r : Result T E) (P : Type 0) → P → OnOk r P
always_ok (Ok x) P p = p
always_ok (Err e) P p = tt

-- what is durable is still durable after reads
pub durable_after : (mid now : List ℕ) (a b : Unsynced) → IsDurable mid a → now ≡ mid → b ≡ a
    → IsDurable now b
durable_after mid now a b durable same kept =
    subst (λ (l : List ℕ). IsDurable l b) (sym same)
    (subst (λ (u : Unsynced). IsDurable mid u) (sym kept) durable)

if_failed : {T E : Type 0} (r : Result T E) (e : E) (P : Type 0) → r ≡ Err e → OnErr r P → P
if_failed (Ok x) e P failed p = absurd (cc)
if_failed (Err f) e P failed p = p

module _ {D : Type 0} (view : View D) (only_now : OnlyNow view) (old mid : D) where
  during : Passes view old mid (IsImage (view.contents old) (view.unsynced old))
      → LeavesOnly view old mid (IsImage (view.contents old) (view.unsynced old))
  during time =
      one_call view only_now old mid (view.unsynced old)
      (IsImage (view.contents old) (view.unsynced old)) time (record { each = λ image is. is })
      (record { each = λ image is. is })

  -- a sync that failed
  pub not_synced : {T E : Type 0} (result : Result T E) (e : E) (F : Type 0)
      → SyncsOnce view old mid result → result ≡ Err e → F → SyncsAndReads view old mid F
  not_synced result e F sync failed told = record {
    contents_stay = sync.same;
    no_more = within_same (view.unsynced old) (view.unsynced mid)
        (if_failed result e _ failed sync.not_durable);
    images = during sync.time;
    later = sync.cause.later;
    cause = λ f. sync.cause.fault (subst IsErr (sym failed) refl);
    no_cause = λ none. absurd (none told);
  }

  -- a sync that is done, and reads
  pub synced : {T E : Type 0} (new : D) (result : Result T E) (F : Type 0)
      → IsSound (view.contents old) (view.unsynced old) → SyncsOnce view old mid result
      → IsOk result → IsDurable (view.contents mid) (view.unsynced mid) → Reads view mid new F
      → SyncsAndReads view old new F
  synced new result F sound sync done durable reads =
      let within = durable_within (view.contents old) (view.contents mid) (view.unsynced old)
      (view.unsynced mid) sound sync.same durable in
      record {
        contents_stay = reads.contents_stay ∙ sync.same;
        no_more = subst (IsWithin (view.unsynced old)) (sym reads.unsynced_stay) within;
        images = leaves_on view old mid new (IsImage (view.contents old) (view.unsynced old))
            (during sync.time)
            (leaves_more view mid new (IsImage (view.contents mid) (view.unsynced mid))
            (IsImage (view.contents old) (view.unsynced old))
            (λ image is. image_within (view.contents old) (view.contents mid) (view.unsynced old)
            (view.unsynced mid) image sync.same within is) reads.images);
        later = omega (arith, sync.cause.later, reads.later);
        cause = λ f. let rose = reads.cause f in omega (arith, rose, sync.cause.later);
        no_cause = λ none. reads.no_cause none ∙ sync.cause.no_fault done;
      }
