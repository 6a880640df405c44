-- Which images are images of a state with more unsynced.
-- For `SimDisk::store`, `SimDiskDisk::cut`, `torn_write_is_an_image` and others.
use Rattle.std.proofs.Common.{◌≡◌, ◌<◌, ◌≤◌, ◌+◌, ◌-◌, ℕ, Bool, true, false, List, length, get_or}
use Rattle.std.proofs.Common.{take, drop, refl, sym, ◌∙◌, ap, ⊎_elim, arith}
use Rattle.std.proofs.Common.{drop-drop}
use Rattle.std.proofs.Math.Seq.{take-length}
use Rattle.std.specs.Prelude.{◌||◌, ◌++◌, nat_lt, nat_le, Result, Ok, Err, OnOk, OnErr}
use Rattle.std.proofs.lemmas.Bool.{false≢true, or_parts, and_cases, leb-false, ltb-false}
use Rattle.std.proofs.lemmas.List.{get_or-take, get_or-drop, length-take-le, length-append}
use Rattle.std.proofs.lemmas.List.{length-drop, take-append-le, take_at, drop_at}
use Rattle.cm_disk.specs.Disk.{Unsynced, IsImage, IsWithin, widened, shortened, is_among}
use Rattle.cm_disk.specs.Calls.{overwritten, IsTorn, IsCut}

-- a test that implies one that fails, fails
pub false_before : (a b : Bool) → (a ≡ true → b ≡ true) → b ≡ false → a ≡ false
false_before true b h e = absurd (false≢true (sym e ∙ h refl))
false_before false b h e = refl

pub within : (contents : List ℕ) (most unsynced : Unsynced) (image : List ℕ)
    → IsWithin most unsynced → IsImage contents unsynced image → IsImage contents most image
within contents most unsynced image w is = record {
  no_shorter = omega (arith, w.least, is.no_shorter);
  no_longer = omega (arith, w.greatest, is.no_longer);
  bytes = is.bytes;
  same = λ i lt closed.
      is.same i (omega (arith, w.least, lt))
      (false_before (unsynced.is_open i) (most.is_open i) (w.positions i) closed);
}

-- outside the range of a write the bytes are unchanged
pub torn_same : (at n : ℕ) (old new : List ℕ) → IsTorn at n old new → (b : Bool) (i : ℕ)
    → (b || is_among at n i) ≡ false → get_or new i 0 ≡ get_or old i 0
torn_same at n old new torn b i closed =
    ⊎_elim
    (λ early. let lt : i < at =
    leb-false at i early in
    sym (get_or-take at new i 0 lt) ∙ ap (λ xs. get_or xs i 0) torn.before ∙ get_or-take at old
    i 0 lt)
    (λ late. let le : at + n ≤ i = ltb-false i (at + n) late in
    let e : at + n + (i - (at + n)) ≡ i = omega arith in
    let there : (xs : List ℕ) → get_or (drop (at + n) xs) (i - (at + n)) 0 ≡ get_or xs i 0 =
    λ xs. get_or-drop (at + n) xs (i - (at + n)) 0 ∙ ap (λ k. get_or xs k 0) e in
    sym (there new) ∙ ap (λ xs. get_or xs (i - (at + n)) 0) torn.after ∙ there old)
    (and_cases (nat_le at i) (nat_lt i (at + n)) (or_parts b (is_among at n i) closed).1)

-- what a crash may leave after a write, it may leave during the write
pub after_write : (at n : ℕ) (old new : List ℕ) (before after : Unsynced) (image : List ℕ)
    → IsTorn at n old new → IsWithin (widened at n before) after → IsImage new after image
    → IsImage old (widened at n before) image
after_write at n old new before after image torn w is =
    let wide = within new (widened at n before) after image w is in
    record {
      no_shorter = wide.no_shorter;
      no_longer = wide.no_longer;
      bytes = is.bytes;
      same = λ i lt closed.
          wide.same i lt closed ∙ torn_same at n old new torn (before.is_open i) i closed;
    }

-- what a crash may leave after a cut, it may leave during the cut
pub after_cut : (len : ℕ) (old new : List ℕ) (before after : Unsynced) (image : List ℕ)
    → IsCut len old new → IsWithin (shortened len before) after → IsImage new after image
    → IsImage old (shortened len before) image
after_cut len old new before after image cut w is =
    let wide = within new (shortened len before) after image w is in
    record {
      no_shorter = wide.no_shorter;
      no_longer = wide.no_longer;
      bytes = is.bytes;
      same = λ i lt closed.
          let in_front : i < length new = omega (arith, cut.no_shorter, lt) in
          wide.same i lt closed ∙ ap (λ xs. get_or xs i 0) cut.front ∙ get_or-take (length new) old
          i 0 in_front;
    }

-- a write that changed nothing
pub untouched_torn : (at n : ℕ) (old new : List ℕ) → new ≡ old → IsTorn at n old new
untouched_torn at n old new e =
    rw e (record { before = refl; after = refl; no_shorter = omega arith; no_longer = omega arith })

-- a write that succeeded
pub overwritten_torn : (at : ℕ) (bytes old new : List ℕ) → at ≤ length old
    → new ≡ overwritten at bytes old → IsTorn at (length bytes) old new
overwritten_torn at bytes old new le e =
    let front : length (take at old) ≡ at = length-take-le at old le in
    let size : length (overwritten at bytes old)
    ≡ at + length bytes + (length old - (at + length bytes)) =
    length-append (take at old ++ bytes) (drop (at + length bytes) old) ∙ omega
    (arith, front, length-append (take at old) bytes, length-drop (at + length bytes) old) in
    rw e (record {
      before = take-append-le at (take at old ++ bytes) (drop (at + length bytes) old)
          (omega (arith, front, length-append (take at old) bytes)) ∙ take_at (take at old) bytes at
          front;
      after = drop_at (take at old ++ bytes) (drop (at + length bytes) old) (at + length bytes)
          (omega (arith, front, length-append (take at old) bytes));
      no_shorter = omega (arith, size);
      no_longer = omega (arith, size);
    })

-- a write that stored only the beginning of its range
pub torn_part : (at k n : ℕ) (old new : List ℕ) → k ≤ n → IsTorn at k old new → IsTorn at n old new
torn_part at k n old new le torn =
    let e : at + n ≡ at + k + (n - k) = omega arith in
    let behind : (xs : List ℕ) → drop (at + n) xs ≡ drop (n - k) (drop (at + k) xs) =
    λ xs. ap (λ (i : ℕ). drop i xs) e ∙ sym (drop-drop (n - k) (at + k) xs) in
    record {
      before = torn.before;
      after = behind new ∙ ap (drop (n - k)) torn.after ∙ sym (behind old);
      no_shorter = torn.no_shorter;
      no_longer = omega (arith, torn.no_longer);
    }

-- a write that stored the beginning of its range, or nothing
pub torn_write : {T E : Type 0} (r : Result T E) (at n : ℕ) (bytes old new : List ℕ)
    → at ≤ length old → length bytes ≤ n → OnOk r (new ≡ overwritten at bytes old)
    → OnErr r (new ≡ old) → IsTorn at n old new
torn_write (Ok x) at n bytes old new le few done none =
    torn_part at (length bytes) n old new few (overwritten_torn at bytes old new le done)
torn_write (Err e) at n bytes old new le few done none = untouched_torn at n old new none

-- a cut that changed nothing
pub uncut : (len : ℕ) (old new : List ℕ) → len ≤ length old → new ≡ old → IsCut len old new
uncut len old new le e =
    rw e (record { no_shorter = le; no_longer = omega arith; front = sym (take-length old) })
