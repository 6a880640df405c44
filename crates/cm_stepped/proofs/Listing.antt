-- The calls that make a file are all listed, in their order.
-- For `CallList::format`.
use Rattle.std.proofs.Common.{◌≡◌, ◌∙◌, ℕ, zero, suc, Bool, true, false, List, inl, inr, sym, ap}
use Rattle.std.proofs.Common.{Result, Ok, Err, IsErr, subst, refl}
use Rattle.cm_disk.specs.declared.disk.DeviceFault.{DeviceFault}
use Rattle.cm_device_disk.specs.declared.disk.DeviceDisk.{DeviceDisk}
use Rattle.cm_device_disk.specs.DeviceDisk.{disk_view, is_lost, IsDeviceCall}
use Rattle.cm_deferred_disk.specs.declared.listed.ListedCalls.{ListedCalls}
use Rattle.cm_deferred_disk.specs.Listed.{Lists, ListsFrom}
use Rattle.cm_deferred_disk.proofs.{lost_stays, list_goes_on}
use Rattle.cm_pool.specs.Geometry.{Sizes}
use Rattle.cm_recover.specs.Making.{CallsAtMost, FormatsThrough}

abbrev Listing : Type 0
Listing = DeviceDisk ListedCalls DeviceFault

abbrev Called : Listing → Listing → Bool → Type 0
Called = IsDeviceCall Lists

stays_lost : (n : ℕ) (old new : Listing) → CallsAtMost Called n old new → is_lost old ≡ true
    → is_lost new ≡ true
stays_lost zero old new same lost = ap is_lost same ∙ lost
stays_lost (suc n) old new (inl same) lost = ap is_lost same ∙ lost
stays_lost (suc n) old new (inr (inl failed)) lost = lost_stays old new false failed lost
stays_lost (suc n) old new (inr (inr (next, called, more))) lost =
    stays_lost n next new more (lost_stays old next true called lost)

-- if none has failed at the end, none has in between
works : (n : ℕ) (old new : Listing) (lost : Bool) → CallsAtMost Called n old new
    → is_lost old ≡ lost → is_lost new ≡ false → is_lost old ≡ false
works n old new false calls is kept = is
works n old new true calls is kept =
    let lost : is_lost new ≡ true = stays_lost n old new calls is in absurd (cc)

lists_on : (start : List ℕ) (n : ℕ) (old new : Listing) → CallsAtMost Called n old new
    → is_lost new ≡ false → ListsFrom start old → ListsFrom start new
lists_on start zero old new same kept from =
    subst (λ (d : Listing). ListsFrom start d) (sym same) from
lists_on start (suc n) old new (inl same) kept from =
    subst (λ (d : Listing). ListsFrom start d) (sym same) from
lists_on start (suc n) old new (inr (inl failed)) kept from =
    list_goes_on start old new false failed kept from
lists_on start (suc n) old new (inr (inr (next, called, more))) kept from =
    let kept_next = works n next new (is_lost next) more refl kept in
    lists_on start n next new more kept (list_goes_on start old next true called kept_next from)

is_err_ok : {T E : Type 0} (result : Result T E) (value : T) → result ≡ Ok value → IsErr result → ⊥
is_err_ok (Ok x) value is err = absurd (cc)
is_err_ok (Err e) value is err = absurd (cc)

pub format_listed : {T E : Type 0} (start : List ℕ) (sizes : Sizes) (old new : Listing)
    (result : Result T E) (value : T) → result ≡ Ok value
    → FormatsThrough disk_view Called sizes old new result → is_lost new ≡ false
    → ListsFrom start old → ListsFrom start new
format_listed start sizes old new result value is through kept from =
    elim through.course [
      | inl ends ↦ absurd (is_err_ok result value is ends.faulted)
      | inr shut ↦
          let kept_then = works 2 shut.between new (is_lost shut.between) shut.last_calls refl kept
          in
          lists_on start 2 shut.between new shut.last_calls kept
          (lists_on start 3 old shut.between shut.first_calls kept_then from)
    ]
