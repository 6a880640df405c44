-- The calls that a disk lists give a file the disk's contents, as long as none has failed.
-- For `ListsFrom`, and the list of cm_stepped.
use Rattle.std.proofs.Common.{◌≡◌, ◌∙◌, ℕ, Bool, true, false, List, [], ◌∷◌, ◌++◌, refl, sym, ap}
use Rattle.std.proofs.Common.{is_some, if◌then◌else◌}
use Rattle.cm_disk.specs.declared.disk.DeviceFault.{DeviceFault}
use Rattle.cm_disk.specs.Calls.{DiskCall}
use Rattle.cm_disk.specs.Calls.DiskCall.{Len, Read, Take, Write, Cut, Sync}
use Rattle.cm_device_disk.specs.declared.disk.DeviceDisk.{DeviceDisk}
use Rattle.cm_device_disk.specs.State.{DiskState, refused}
use Rattle.cm_device_disk.specs.DeviceDisk.{disk_contents, disk_cause, disk_state, is_lost, IsMade}
use Rattle.cm_device_disk.specs.DeviceDisk.{IsDeviceCall}
use Rattle.cm_deferred_disk.specs.declared.listed.ListedCalls.{ListedCalls}
use Rattle.cm_deferred_disk.specs.Listed.{listed, Lists, applied, all_applied, ListsFrom}

abbrev Listing : Type 0
Listing = DeviceDisk ListedCalls DeviceFault

one_more : (calls : List DiskCall) (call : DiskCall) (start : List ℕ)
    → all_applied (calls ++ call ∷ []) start ≡ applied call (all_applied calls start)
one_more [] call start = refl
one_more (c ∷ calls) call start = one_more calls call (applied c start)

-- one call more is listed, and made of the contents what it makes of a file
listed_more : (start : List ℕ) (old new : Listing) (call : DiskCall)
    → listed new.device ≡ listed old.device ++ call ∷ []
    → disk_contents new ≡ applied call (disk_contents old) → ListsFrom start old
    → ListsFrom start new
listed_more start old new call more contents from =
    ap (λ (calls : List DiskCall). all_applied calls start) more
    ∙ one_more (listed old.device) call start
    ∙ ap (λ (bytes : List ℕ). applied call bytes) from
    ∙ sym contents

same_list : (start : List ℕ) (old new : Listing) → new.device ≡ old.device
    → disk_contents new ≡ disk_contents old → ListsFrom start old → ListsFrom start new
same_list start old new device contents from =
    ap (λ (d : ListedCalls). all_applied (listed d) start) device ∙ from ∙ sym contents

-- a query changes no byte, whether or not it fails
queried : (start : List ℕ) (old new : Listing) (ok : Bool) → new.device ≡ old.device
    → disk_state new ≡ (if ok then disk_state old else refused (disk_state old))
    → ListsFrom start old → ListsFrom start new
queried start old new true device state from =
    same_list start old new device (ap (λ (s : DiskState). s.now.bytes) state) from
queried start old new false device state from =
    same_list start old new device (ap (λ (s : DiskState). s.now.bytes) state) from

made_on : (start : List ℕ) (old new : Listing) (call : DiskCall) (ok : Bool)
    → is_lost old ≡ false → is_lost new ≡ false → IsMade Lists call old new ok
    → ListsFrom start old → ListsFrom start new
made_on start old new Len ok works kept made from =
    queried start old new ok (made.on_device.made works) made.on_state from
made_on start old new (Read at n) ok works kept made from =
    queried start old new ok (made.on_device.made works) made.on_state from
made_on start old new (Take at count) ok works kept made from =
    queried start old new ok (made.on_device.made works) made.on_state from
made_on start old new (Write at bytes) true works kept made from =
    listed_more start old new (Write at bytes) (made.on_device.made works) made.on_state.left from
made_on start old new (Write at bytes) false works kept made from =
    let lost : is_lost new ≡ true = made.on_disk.changes.lost in absurd (cc)
made_on start old new (Cut len) true works kept made from =
    listed_more start old new (Cut len) (made.on_device.made works) made.on_state.left from
made_on start old new (Cut len) false works kept made from =
    let lost : is_lost new ≡ true = made.on_disk.changes.lost in absurd (cc)
made_on start old new Sync true works kept made from =
    listed_more start old new Sync (made.on_device.made works) made.on_state.left from
made_on start old new Sync false works kept made from =
    let lost : is_lost new ≡ true = made.on_disk.changes.lost in absurd (cc)

-- once a call has failed, that stays so
pub lost_stays : (old new : Listing) (ok : Bool) → IsDeviceCall Lists old new ok
    → is_lost old ≡ true → is_lost new ≡ true
lost_stays old new ok called lost = ap is_some (called.cause lost) ∙ lost

-- as long as no call has failed, none has before
worked : (old new : Listing) (ok : Bool) (lost : Bool) → IsDeviceCall Lists old new ok
    → is_lost old ≡ lost → is_lost new ≡ false → is_lost old ≡ false
worked old new ok false called is kept = is
worked old new ok true called is kept =
    let lost : is_lost new ≡ true = lost_stays old new ok called is in absurd (cc)

pub list_goes_on : (start : List ℕ) (old new : Listing) (ok : Bool) → IsDeviceCall Lists old new ok
    → is_lost new ≡ false → ListsFrom start old → ListsFrom start new
list_goes_on start old new ok called kept from =
    made_on start old new called.call ok (worked old new ok (is_lost old) called refl kept) kept
    called.made from
