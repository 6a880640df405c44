-- A state that follows from each call; after a failed call, that it changed nothing.
-- For `History::note`, `DeviceDisk::of_opened`, `DeviceDisk::held`.
use Rattle.std.proofs.Common.{◌≡◌, ◌≤◌, ◌+◌, ◌-◌, ◌++◌, ◌∙◌, ℕ, List, length, refl, take, drop}
use Rattle.std.proofs.Common.{arith, length-append, length-drop, ap, sym}
use Rattle.std.specs.Prelude.{replicate}
use Rattle.std.proofs.lemmas.List.{length-replicate, get_or-replicate, take-append-drop}
use Rattle.std.proofs.lemmas.List.{take-append-le, drop-append-le}
use Rattle.std.proofs.Math.ListN.{get_or-append}
use Rattle.std.proofs.Math.Seq.{get_or-append_right}
use Rattle.std.proofs.Math.Seq.{take-append_seam}
use Rattle.cm_disk.specs.Calls.{overwritten}
use Rattle.cm_disk.specs.Disk.{IsBytes}
use Rattle.cm_disk.proofs.{untouched_torn, uncut}
use Rattle.cm_device_disk.specs.declared.history.Call.{Call}
use Rattle.cm_device_disk.specs.declared.history.Call.TheVariants.{Opened, ReadOn, Wrote}
use Rattle.cm_device_disk.specs.declared.history.Call.TheVariants.{NotWritten, Cut, NotCut, Synced}
use Rattle.cm_device_disk.specs.declared.history.Call.TheVariants.{Failed}
use Rattle.cm_device_disk.specs.State.{DiskState}
use Rattle.cm_device_disk.specs.Calls.{IsOpenedAs, CallFollows, after}

-- these bytes, and zeros up to a length
abbrev filled : ℕ → List ℕ → List ℕ
filled len bytes = bytes ++ replicate (len - length bytes) 0

filled_begins : (len : ℕ) (bytes : List ℕ) → length bytes ≤ len
    → IsOpenedAs len bytes (filled len bytes)
filled_begins len bytes le = record {
  begins = take-append_seam bytes (replicate (len - length bytes) 0);
  length_is = grind (arith, length-append, length-replicate);
}

filled_bytes : (len : ℕ) (bytes : List ℕ) → IsBytes bytes → IsBytes (filled len bytes)
filled_bytes len bytes are i lt =
    grind (
      arith,
      are,
      lt,
      get_or-append,
      get_or-append_right,
      get_or-replicate,
      length-append,
      length-replicate,
    )

-- contents that begin with these bytes are the bytes followed by others
pub begun : (bytes contents : List ℕ) → take (length bytes) contents ≡ bytes
    → bytes ++ drop (length bytes) contents ≡ contents
begun bytes contents e =
    ap (λ (front : List ℕ). front ++ drop (length bytes) contents) (sym e)
    ∙ take-append-drop (length bytes) contents

-- a part of the beginning is that part of the whole
pub part_of_beginning : (at n : ℕ) (bytes contents : List ℕ)
    → bytes ++ drop (length bytes) contents ≡ contents → at + n ≤ length bytes
    → take n (drop at bytes) ≡ take n (drop at contents)
part_of_beginning at n bytes contents e le =
    let rest : List ℕ = drop (length bytes) contents in
    sym (take-append-le n (drop at bytes) rest (omega (arith, length-drop at bytes)))
    ∙ ap (λ (l : List ℕ). take n l) (sym (drop-append-le at bytes rest (omega arith)))
    ∙ ap (λ (l : List ℕ). take n (drop at l)) e

abbrev pub next : Call → List ℕ → DiskState → DiskState
next (Opened len) bytes old = after (Opened len) bytes (filled len bytes) old
next (ReadOn at) bytes old = after (ReadOn at) bytes (overwritten at bytes old.now.bytes) old
next (Wrote at) bytes old = after (Wrote at) bytes (overwritten at bytes old.now.bytes) old
next (NotWritten at) bytes old = after (NotWritten at) bytes old.now.bytes old
next (Cut len) bytes old = after (Cut len) bytes (take len old.now.bytes) old
next (NotCut len) bytes old = after (NotCut len) bytes old.now.bytes old
next Synced bytes old = after Synced bytes old.now.bytes old
next Failed bytes old = after Failed bytes old.now.bytes old

pub follows : (call : Call) (bytes : List ℕ) (old : DiskState)
    → CallFollows call bytes old (next call bytes old)
follows (Opened len) bytes old = record {
  left = (filled_begins len bytes, filled_bytes len bytes);
  state = refl;
}
follows (ReadOn at) bytes old = record { left = refl; state = refl }
follows (Wrote at) bytes old = record { left = refl; state = refl }
follows (NotWritten at) bytes old = record {
  left = (untouched_torn at _ old.now.bytes old.now.bytes refl, λ are. are);
  state = refl;
}
follows (Cut len) bytes old = record { left = refl; state = refl }
follows (NotCut len) bytes old = record {
  left = λ le. uncut len old.now.bytes old.now.bytes le refl;
  state = refl;
}
follows Synced bytes old = record { left = refl; state = refl }
follows Failed bytes old = record { left = refl; state = refl }
