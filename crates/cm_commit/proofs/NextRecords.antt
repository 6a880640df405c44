-- The records that a group writes, one after another.
-- For `all_writes`, `next_write`, `write_next`, `writes_from`.
use Rattle.std.proofs.Common.{◌≡◌, ℕ, zero, suc, ◌+◌, ◌-◌, ◌*◌, ◌<◌, ◌≤◌, List, [], ◌∷◌, ◌++◌}
use Rattle.std.proofs.Common.{◌^◌, length, drop, get_or, Some, None, refl, sym, ap, subst, ◌∙◌}
use Rattle.std.proofs.Common.{arith, length-drop}
use Rattle.std.proofs.lemmas.List.{length-append}
use Rattle.std.specs.Prelude.{min}
use Rattle.std.specs.List.{slice_get}
use Rattle.cm_pool.specs.declared.chunk.Chunk.{Chunk}
use Rattle.cm_pool.specs.declared.place.Place.{Place}
use Rattle.cm_layout.specs.declared.move_entry.Move.{Move}
use Rattle.cm_layout.specs.declared.row.Row.TheVariants.{Loader, Class}
use Rattle.cm_layout.specs.declared.entry.Entry.{Entry}
use Rattle.cm_layout.specs.declared.entry.Entry.TheVariants as entry
use Rattle.cm_layout.specs.Rows.{move_writes}
use Rattle.cm_layout.specs.Frames.{bare_entry}
use Rattle.cm_group.specs.Groups.{Carried, offsets_from}
use Rattle.cm_commit.specs.GroupPlans.{writes_of, all_writes}
use Rattle.cm_commit.specs.Steps.{AreSmall, HaveOffsets, writes_from}
use Rattle.cm_commit.proofs.Applied.{next_is}

-- ---- one of a list

module _ {X : Type 0} where
  pub get-past : (xs : List X) (n : ℕ) → slice_get xs n ≡ None → length xs ≤ n
  get-past [] n none = omega arith
  get-past (x ∷ xs) zero none = absurd (cc)
  get-past (x ∷ xs) (suc n) none = let rest = get-past xs n none in omega (arith, rest)

  pub get-within : (xs : List X) (n : ℕ) (x : X) → slice_get xs n ≡ Some x → n < length xs
  get-within [] n x is = absurd (cc)
  get-within (w ∷ xs) zero x is = omega arith
  get-within (w ∷ xs) (suc n) x is = let rest = get-within xs n x is in omega (arith, rest)

  pub get-first : (xs ys : List X) (n : ℕ) (x : X) → slice_get xs n ≡ Some x
      → slice_get (xs ++ ys) n ≡ Some x
  get-first [] ys n x is = absurd (cc)
  get-first (w ∷ xs) ys zero x is = is
  get-first (w ∷ xs) ys (suc n) x is = get-first xs ys n x is

  pub get-behind : (xs ys : List X) (n : ℕ) → slice_get xs n ≡ None
      → slice_get (xs ++ ys) n ≡ slice_get ys (n - length xs)
  get-behind [] ys n none = ap (slice_get ys) (omega arith)
  get-behind (w ∷ xs) ys zero none = absurd (cc)
  get-behind (w ∷ xs) ys (suc n) none =
      get-behind xs ys n none ∙ ap (slice_get ys) (omega arith)

  pub drop-at : (xs : List X) (n : ℕ) (x : X) → slice_get xs n ≡ Some x
      → drop n xs ≡ x ∷ drop (n + 1) xs
  drop-at [] n x is = absurd (cc)
  drop-at (w ∷ xs) zero x is = let same : w ≡ x = cc in ap (λ (v : X). v ∷ xs) same
  drop-at (w ∷ xs) (suc n) x is =
      let later : suc (n + 1) ≡ suc n + 1 = omega arith in
      drop-at xs n x is ∙ ap (λ (k : ℕ). x ∷ drop k (w ∷ xs)) later

  pub drop-past : (xs : List X) (n : ℕ) → slice_get xs n ≡ None → drop n xs ≡ []
  drop-past [] zero none = refl
  drop-past [] (suc n) none = refl
  drop-past (w ∷ xs) zero none = absurd (cc)
  drop-past (w ∷ xs) (suc n) none = drop-past xs n none

-- ---- those of a move

pub bare-move : (e : Entry (List ℕ)) (m : Move) → bare_entry e ≡ entry.Move m → e ≡ entry.Move m
bare-move (entry.Live (Loader r)) m is = absurd (cc)
bare-move (entry.Live (Class r words)) m is = absurd (cc)
bare-move (entry.Unload d) m is = absurd (cc)
bare-move (entry.UnloadAll d) m is = absurd (cc)
bare-move (entry.Move d) m is = cc

pub move-none : (to : Chunk) (offset : ℕ) (records : List (List ℕ)) (n : ℕ)
    → slice_get records n ≡ None → slice_get (move_writes to offset records) n ≡ None
move-none to offset [] n none = refl
move-none to offset (words ∷ records) zero none = absurd (cc)
move-none to offset (words ∷ records) (suc n) none =
    move-none to (offset + length words) records n none

pub move-nth : (to : Chunk) (offset : ℕ) (records : List (List ℕ)) (n at : ℕ) (words : List ℕ)
    → HaveOffsets (move_writes to offset records) → slice_get records n ≡ Some words
    → slice_get (offsets_from offset records) n ≡ Some at
    → slice_get (move_writes to offset records) n
    ≡ Some (record { chunk = to; offset = at; words = length words }, words)
move-nth to offset [] n at words have is lies = absurd (cc)
move-nth to offset (first ∷ records) zero at words have is lies =
    let same : first ≡ words = cc in
    let here : offset ≡ at = cc in
    (λ i. Some (record { chunk = to; offset = here i; words = length (same i) }, same i))
move-nth to offset (first ∷ []) (suc n) at words have is lies = absurd (cc)
move-nth to offset (first ∷ second ∷ records) (suc n) at words have is lies =
    let next : min (offset + length first) (2 ^ 32 - 1) ≡ offset + length first =
    omega (arith, have.1.0) in
    move-nth to (offset + length first) (second ∷ records) n at words have.1 is
    (ap (λ (k : ℕ). slice_get (offsets_from k (second ∷ records)) n) (sym next) ∙ lies)

pub move-count : (to : Chunk) (offset : ℕ) (records : List (List ℕ))
    → length (move_writes to offset records) ≡ length records
move-count to offset [] = refl
move-count to offset (words ∷ records) =
    omega (arith, move-count to (offset + length words) records)

-- ---- what is left of all of them

pub have-front : (xs ys : List (Place × List ℕ)) → HaveOffsets (xs ++ ys) → HaveOffsets xs
have-front [] ys have = tt
have-front (x ∷ xs) ys have = (have.0, have-front xs ys have.1)

pub have-back : (xs ys : List (Place × List ℕ)) → HaveOffsets (xs ++ ys) → HaveOffsets ys
have-back [] ys have = have
have-back (x ∷ xs) ys have = have-back xs ys have.1

pub next_writes : (carried : List Carried) (at : ℕ) (c : Carried) → at < length carried
    → c ≡ get_or carried at c
    → all_writes (drop at carried)
    ≡ writes_of c.entry c.moved ++ all_writes (drop (at + 1) carried)
next_writes carried at c lt is = ap all_writes (next_is carried at c lt is)

-- ---- small ones

small-front : (size : ℕ) (xs ys : List (Place × List ℕ)) → AreSmall size (xs ++ ys)
    → AreSmall size xs
small-front size [] ys all = tt
small-front size (x ∷ xs) ys all = (all.0, small-front size xs ys all.1)

small-back : (size : ℕ) (xs ys : List (Place × List ℕ)) → AreSmall size (xs ++ ys)
    → AreSmall size ys
small-back size [] ys all = all
small-back size (x ∷ xs) ys all = small-back size xs ys all.1

small-both : (size : ℕ) (xs ys : List (Place × List ℕ)) → AreSmall size xs → AreSmall size ys
    → AreSmall size (xs ++ ys)
small-both size [] ys one two = two
small-both size (x ∷ xs) ys one two = (one.0, small-both size xs ys one.1 two)

small-drop : (size : ℕ) (xs : List (Place × List ℕ)) (n : ℕ) → AreSmall size xs
    → AreSmall size (drop n xs)
small-drop size [] zero all = tt
small-drop size [] (suc n) all = tt
small-drop size (x ∷ xs) zero all = all
small-drop size (x ∷ xs) (suc n) all = small-drop size xs n all.1

-- ---- from a record of an entry on

pub from_start : (carried : List Carried) → writes_from 0 0 carried ≡ all_writes carried
from_start [] = refl
from_start (c ∷ carried) = refl

pub from_past : (carried : List Carried) (entry n : ℕ) → length carried ≤ entry
    → writes_from entry n carried ≡ []
from_past [] entry n le = refl
from_past (c ∷ carried) zero n le = absurd (omega (arith, le))
from_past (c ∷ carried) (suc entry) n le = from_past carried entry n (omega (arith, le))

pub from_first : (carried : List Carried) (entry : ℕ)
    → writes_from entry 0 carried ≡ all_writes (drop entry carried)
from_first [] zero = refl
from_first [] (suc entry) = refl
from_first (c ∷ carried) zero = refl
from_first (c ∷ carried) (suc entry) = from_first carried entry

pub from_entry : (carried : List Carried) (entry n : ℕ) (c : Carried) → entry < length carried
    → c ≡ get_or carried entry c
    → writes_from entry n carried
    ≡ drop n (writes_of c.entry c.moved) ++ all_writes (drop (entry + 1) carried)
from_entry [] entry n c lt is = absurd (omega (arith, lt))
from_entry (d ∷ carried) zero n c lt is =
    ap (λ (k : Carried). drop n (writes_of k.entry k.moved) ++ all_writes carried) (sym is)
from_entry (d ∷ carried) (suc entry) n c lt is =
    let later : suc (entry + 1) ≡ suc entry + 1 = omega arith in
    from_entry carried entry n c (omega (arith, lt)) is
    ∙ ap (λ (k : ℕ). drop n (writes_of c.entry c.moved) ++ all_writes (drop k (d ∷ carried))) later

-- those of an entry are among all of them

pub from_few : (carried : List Carried) (entry : ℕ) (c : Carried) → entry < length carried
    → c ≡ get_or carried entry c
    → length (writes_of c.entry c.moved) + length (all_writes (drop (entry + 1) carried))
    ≤ length (all_writes carried)
from_few [] entry c lt is = absurd (omega (arith, lt))
from_few (d ∷ carried) zero c lt is =
    let same = ap (λ (k : Carried). length (writes_of k.entry k.moved)) is in
    omega (arith, same, length-append (writes_of d.entry d.moved) (all_writes carried))
from_few (d ∷ carried) (suc entry) c lt is =
    let later : suc (entry + 1) ≡ suc entry + 1 = omega arith in
    omega (
      arith,
      from_few carried entry c (omega (arith, lt)) is,
      ap (λ (k : ℕ). length (all_writes (drop k (d ∷ carried)))) later,
      length-append (writes_of d.entry d.moved) (all_writes carried),
    )

pub from_count : (carried : List Carried) (entry n : ℕ) (c : Carried) → entry < length carried
    → c ≡ get_or carried entry c
    → length (writes_from entry n carried)
    ≡ length (writes_of c.entry c.moved) - n + length (all_writes (drop (entry + 1) carried))
from_count carried entry n c lt is =
    let writes = writes_of c.entry c.moved in
    let rest = all_writes (drop (entry + 1) carried) in
    omega (
      arith,
      ap length (from_entry carried entry n c lt is),
      length-append (drop n writes) rest,
      length-drop n writes,
    )

pub offsets_of : (carried : List Carried) (entry : ℕ) (c : Carried) → entry < length carried
    → c ≡ get_or carried entry c → HaveOffsets (all_writes carried)
    → HaveOffsets (writes_of c.entry c.moved)
offsets_of [] entry c lt is have = absurd (omega (arith, lt))
offsets_of (d ∷ carried) zero c lt is have =
    subst (λ (k : Carried). HaveOffsets (writes_of k.entry k.moved)) (sym is)
    (have-front (writes_of d.entry d.moved) (all_writes carried) have)
offsets_of (d ∷ carried) (suc entry) c lt is have =
    offsets_of carried entry c (omega (arith, lt)) is
    (have-back (writes_of d.entry d.moved) (all_writes carried) have)

-- the next one of them

pub from_next : (carried : List Carried) (entry n : ℕ) (c : Carried) (w : Place × List ℕ)
    → entry < length carried → c ≡ get_or carried entry c
    → slice_get (writes_of c.entry c.moved) n ≡ Some w
    → writes_from entry n carried ≡ w ∷ writes_from entry (n + 1) carried
from_next carried entry n c w lt is found =
    let writes = writes_of c.entry c.moved in
    let rest = all_writes (drop (entry + 1) carried) in
    from_entry carried entry n c lt is
    ∙ (ap (λ (l : List (Place × List ℕ)). l ++ rest) (drop-at writes n w found)
    ∙ ap (λ (l : List (Place × List ℕ)). w ∷ l) (sym (from_entry carried entry (n + 1) c lt is)))

pub from_none : (carried : List Carried) (entry n : ℕ) (c : Carried) → entry < length carried
    → c ≡ get_or carried entry c → slice_get (writes_of c.entry c.moved) n ≡ None
    → writes_from (entry + 1) 0 carried ≡ writes_from entry n carried
from_none carried entry n c lt is none =
    let writes = writes_of c.entry c.moved in
    let rest = all_writes (drop (entry + 1) carried) in
    from_first carried (entry + 1)
    ∙ (ap (λ (l : List (Place × List ℕ)). l ++ rest) (sym (drop-past writes n none))
    ∙ sym (from_entry carried entry n c lt is))

pub small_first : (size : ℕ) (writes rest : List (Place × List ℕ)) (place : Place)
    (words : List ℕ) → AreSmall size writes → writes ≡ (place, words) ∷ rest
    → 8 * length words ≤ size
small_first size writes rest place words all is =
    (subst (AreSmall size) is all).0

pub small_from : (size : ℕ) (carried : List Carried) (entry n : ℕ)
    → AreSmall size (all_writes carried) → AreSmall size (writes_from entry n carried)
small_from size [] entry n all = tt
small_from size (c ∷ carried) zero n all =
    let writes = writes_of c.entry c.moved in
    small-both size (drop n writes) (all_writes carried)
    (small-drop size writes n (small-front size writes (all_writes carried) all))
    (small-back size writes (all_writes carried) all)
small_from size (c ∷ carried) (suc entry) n all =
    small_from size carried entry n
    (small-back size (writes_of c.entry c.moved) (all_writes carried) all)
