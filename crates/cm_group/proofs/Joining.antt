-- How groups grow: by an entry, and by another group.
-- For `Group::add`, `Group::push` and others.
use Rattle.std.proofs.Common.{◌≡◌, ℕ, ◌+◌, ◌^◌, ◌≤◌, max, List, [], ◌∷◌, ◌++◌, length, arith}
use Rattle.std.specs.List.{AllByRecursion}
use Rattle.std.proofs.lemmas.List.{length-append}
use Rattle.cm_layout.specs.Rows.{slots_of}
use Rattle.cm_layout.specs.Frames.{bare_entry}
use Rattle.cm_layout.proofs.{some_slots}
use Rattle.cm_group.specs.Groups.{Carried, CarriesRight, Handed, KeepsGroup, IsContinuedBy}
use Rattle.cm_group.specs.Groups.{slots_taken}

pub taken-append : (xs ys : List Carried)
    → slots_taken (xs ++ ys) ≡ slots_taken xs + slots_taken ys
taken-append [] ys = omega arith
taken-append (x ∷ xs) ys = omega (arith, taken-append xs ys)

-- a group has no more entries than slots
pub enough : (xs : List Carried) → length xs ≤ slots_taken xs
enough [] = omega arith
enough (x ∷ xs) = omega (arith, enough xs, some_slots (bare_entry x.entry))

right-append : (xs ys : List Carried) → AllByRecursion CarriesRight xs
    → AllByRecursion CarriesRight ys → AllByRecursion CarriesRight (xs ++ ys)
right-append [] ys hx hy = hy
right-append (x ∷ xs) ys hx hy = (hx.0, right-append xs ys hx.1 hy)

pub with_entry : (capacity slots more room : ℕ) (group : Handed) (c : Carried)
    (grown : List Carried)
    → KeepsGroup capacity slots group → more ≡ slots_of (bare_entry c.entry) → CarriesRight c
    → slots + more ≤ 64 → group.first + length group.entries ≤ 2 ^ 63 → capacity ≤ room
    → grown ≡ group.entries ++ c ∷ []
    → KeepsGroup room (slots + more)
    (record { first = group.first; learnt = group.learnt; entries = grown })
with_entry capacity slots more room group c grown k m right fits numbers wide e =
    let taken = taken-append group.entries (c ∷ []) in
    let count = length-append group.entries (c ∷ []) in
    let one = some_slots (bare_entry c.entry) in
    rw e (record {
      is = record {
        some = omega (arith, count);
        few = omega (arith, taken, k.slots_are, m, fits);
        learnt = k.is.learnt;
        numbers = omega (arith, count, numbers);
        right = right-append group.entries (c ∷ []) k.is.right (right, tt);
      };
      slots_are = omega (arith, taken, k.slots_are, m);
      room = omega (arith, count, k.room, wide, m, one, fits);
    })

pub room_for : (capacity more slots others : ℕ) (one two : Handed) → KeepsGroup capacity slots one
    → KeepsGroup more others two → IsContinuedBy one two
    → length one.entries + length two.entries ≤ capacity
room_for capacity more slots others one two k j goes =
    omega (arith, k.room, k.slots_are, goes.few, enough two.entries)

pub with_group : (capacity more slots others room : ℕ) (one two : Handed) (grown : List Carried)
    (learnt : ℕ) → KeepsGroup capacity slots one → KeepsGroup more others two
    → IsContinuedBy one two
    → capacity ≤ room → learnt ≡ max one.learnt two.learnt → grown ≡ one.entries ++ two.entries
    → KeepsGroup room (slots + others)
    (record { first = one.first; learnt = learnt; entries = grown })
with_group capacity more slots others room one two grown learnt k j goes wide l e =
    let taken = taken-append one.entries two.entries in
    let count = length-append one.entries two.entries in
    let some = enough two.entries in
    rw e (rw l (record {
      is = record {
        some = omega (arith, count, k.is.some);
        few = omega (arith, taken, goes.few);
        learnt = omega (arith, k.is.learnt, goes.learnt);
        numbers = omega (arith, count, goes.numbers, j.is.numbers);
        right = right-append one.entries two.entries k.is.right j.is.right;
      };
      slots_are = omega (arith, taken, k.slots_are, j.slots_are);
      room = omega (arith, count, k.room, wide, k.slots_are, j.slots_are, goes.few, some);
    }))
