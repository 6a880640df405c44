-- What a list of writes leaves: its length, and each byte that none of them touches.
-- For `Committer::advance`, `Committer::images`, `Committer::offer` and others.
use Rattle.std.proofs.Common.{◌≡◌, ℕ, ◌+◌, ◌≤◌, false, List, [], ◌∷◌, ◌++◌, length}
use Rattle.std.proofs.Common.{take, drop, get_or, refl, sym, ap, subst, ◌∙◌, arith, append_assoc}
use Rattle.std.specs.Prelude.{max}
use Rattle.std.proofs.lemmas.List.{take_at, drop_at, length-take-le}
use Rattle.cm_disk.specs.Calls.{overwritten}
use Rattle.cm_disk.specs.Disk.{is_among}
use Rattle.cm_disk.proofs.{overwritten_torn, torn_same}
use Rattle.cm_layout.specs.Framing.{part}
use Rattle.cm_guards.specs.Guards.{Guard}
use Rattle.cm_guards.specs.Plans.{Write, written, CanWrite}
use Rattle.cm_guards.proofs.{overwritten_size}

-- how long the contents are after them
abbrev pub size_after : List Write → ℕ → ℕ
size_after [] len = len
size_after (w ∷ writes) len = size_after writes (max len (w.at + length w.bytes))

pub size_after-grows : (writes : List Write) (len : ℕ) → len ≤ size_after writes len
size_after-grows [] len = omega arith
size_after-grows (w ∷ writes) len =
    omega (arith, size_after-grows writes (max len (w.at + length w.bytes)))

pub size_after-append : (xs ys : List Write) (len : ℕ)
    → size_after (xs ++ ys) len ≡ size_after ys (size_after xs len)
size_after-append [] ys len = refl
size_after-append (w ∷ xs) ys len = size_after-append xs ys (max len (w.at + length w.bytes))

pub written-append : (xs ys : List Write) (contents : List ℕ)
    → written (xs ++ ys) contents ≡ written ys (written xs contents)
written-append [] ys contents = refl
written-append (w ∷ xs) ys contents = written-append xs ys (overwritten w.at w.bytes contents)

pub can-append : (g : Guard) (xs ys : List Write) (len : ℕ) → CanWrite g xs len
    → CanWrite g ys (size_after xs len) → CanWrite g (xs ++ ys) len
can-append g [] ys len can more = more
can-append g (w ∷ xs) ys len can more =
    (can.0, can-append g xs ys (max len (w.at + length w.bytes)) can.1 more)

pub written-size : (g : Guard) (writes : List Write) (contents : List ℕ)
    → CanWrite g writes (length contents)
    → length (written writes contents) ≡ size_after writes (length contents)
written-size g [] contents can = refl
written-size g (w ∷ writes) contents can =
    let size = overwritten_size w.at w.bytes contents can.0.starts_within in
    written-size g writes (overwritten w.at w.bytes contents)
    (subst (CanWrite g writes) (sym size) can.1)
    ∙ ap (size_after writes) size

-- ---- one write

-- its bytes are then in its place
pub part-written : (at : ℕ) (bytes old : List ℕ) → at ≤ length old
    → part at (length bytes) (overwritten at bytes old) ≡ bytes
part-written at bytes old le =
    let front = length-take-le at old le in
    let behind = drop (at + length bytes) old in
    let cut : drop at (overwritten at bytes old) ≡ bytes ++ behind =
    ap (drop at) (append_assoc (take at old) bytes behind)
    ∙ drop_at (take at old) (bytes ++ behind) at front in
    ap (take (length bytes)) cut ∙ take_at bytes behind (length bytes) refl

-- other bytes stay
pub byte-kept : (at : ℕ) (bytes old : List ℕ) (i : ℕ) → at ≤ length old
    → is_among at (length bytes) i ≡ false
    → get_or (overwritten at bytes old) i 0 ≡ get_or old i 0
byte-kept at bytes old i le apart =
    torn_same at (length bytes) old (overwritten at bytes old)
    (overwritten_torn at bytes old (overwritten at bytes old) le refl) false i apart
