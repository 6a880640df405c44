-- The slots of a loader: how many bytes they have, and that they determine its name.
-- For `slot_determines_entry`, `LoaderRow::decode` and others.
use Rattle.std.proofs.Common.{◌≡◌, ℕ, ◌-◌, ◌*◌, ◌≤◌, Bool, true, false, cond, List, [], ◌++◌}
use Rattle.std.proofs.Common.{length, take, drop, get_or, refl, sym, ap, ◌∙◌, arith, append-nil}
use Rattle.std.proofs.Common.{append_assoc}
use Rattle.std.proofs.Common.{drop-drop, length-append, length-take, length-drop}
use Rattle.std.specs.Prelude.{nat_le, ◌==◌}
use Rattle.std.proofs.lemmas.Bool.{ltb-true, ltb-false, le-leb}
use Rattle.std.proofs.lemmas.List.{take_at, drop_at, take-take, take-append-drop, take-append-le}
use Rattle.std.proofs.lemmas.List.{length-replicate}
use Rattle.cm_layout.specs.declared.loader_row.LoaderRow.{LoaderRow}
use Rattle.cm_layout.specs.Names.{name_room, long_name_room, name_limit, limit_of, is_long}
use Rattle.cm_layout.specs.Names.{slots_of_name}
use Rattle.cm_layout.specs.Slots.{padded, loader_slot, rest_slot, loader_slots}
use Rattle.cm_layout.specs.Zeros.{zeros}

-- ---- how many bytes

padded-long : (name : List ℕ) → long_name_room ≤ length (padded name)
padded-long name =
    omega (
      arith,
      length-append name (zeros (long_name_room - length name)),
      length-replicate {A = ℕ} (long_name_room - length name) 0,
    )

padded-whole : (name : List ℕ) → length name ≤ long_name_room
    → length (padded name) ≡ long_name_room
padded-whole name fits =
    omega (
      arith,
      length-append name (zeros (long_name_room - length name)),
      length-replicate {A = ℕ} (long_name_room - length name) 0,
      fits,
    )

front-count : (name : List ℕ) → length (take name_room (padded name)) ≡ name_room
front-count name = omega (arith, length-take name_room (padded name), padded-long name)

pub loader_slot-count : (r : LoaderRow) → length (loader_slot r) ≡ 64
loader_slot-count r = omega (arith, front-count r.name)

pub rest_slot-count : (name : List ℕ) → length name ≤ long_name_room
    → length (rest_slot name) ≡ 64
rest_slot-count name fits =
    omega (arith, length-drop name_room (padded name), padded-whole name fits)

-- a loader has as many bytes as the slots that it takes
pub loader_slots-count : (r : LoaderRow) → length r.name ≤ long_name_room
    → length (loader_slots r) ≡ 64 * slots_of_name r.name
loader_slots-count r fits = by_test (is_long r.name)
  where
    by_test : (t : Bool)
        → length (loader_slot r ++ cond t (rest_slot r.name) []) ≡ 64 * cond t 2 1
    by_test true =
        omega (
          arith,
          length-append (loader_slot r) (rest_slot r.name),
          loader_slot-count r,
          rest_slot-count r.name fits,
        )
    by_test false = omega (arith, length-append (loader_slot r) [], loader_slot-count r)

-- ---- a name that one slot has room for

pub not_long : (name : List ℕ) → length name ≤ name_room → is_long name ≡ false
not_long name fits = by_test (is_long name) refl
  where
    by_test : (t : Bool) → is_long name ≡ t → t ≡ false
    by_test true e = absurd (omega (arith, ltb-true name_room (length name) e, fits))
    by_test false e = refl

-- a name of any version fits into two slots
pub within-room : (version n : ℕ) → n ≤ limit_of version → n ≤ long_name_room
within-room version n = by_test (version == 1)
  where
    by_test : (t : Bool) → n ≤ cond t name_room name_limit → n ≤ long_name_room
    by_test true small = omega (arith, small)
    by_test false small = small

-- ---- the name is read back

-- the bytes at the place of the name in a loader's slots
abbrev pub name_in : List ℕ → List ℕ
name_in slots = take (get_or slots 2 0) (take 48 (drop 16 slots) ++ drop 80 slots)

pub name-back : (r : LoaderRow) → length r.name ≤ long_name_room → name_in (loader_slots r) ≡ r.name
name-back r fits = by_test (is_long r.name) refl
  where
    front : List ℕ
    front = take name_room (padded r.name)

    whole : take (length r.name) (padded r.name) ≡ r.name
    whole = take_at r.name (zeros (long_name_room - length r.name)) (length r.name) refl

    by_test : (t : Bool) → is_long r.name ≡ t
        → name_in (loader_slot r ++ cond t (rest_slot r.name) []) ≡ r.name
    by_test true e =
        let behind = rest_slot r.name in
        let first : take 48 (front ++ behind) ≡ front =
        take_at front behind 48 (front-count r.name) in
        let second : drop 64 (front ++ behind) ≡ drop name_room (padded r.name) =
        sym (drop-drop 16 48 (front ++ behind))
        ∙ ap (drop 16) (drop_at front behind 48 (front-count r.name)) in
        ap (take (length r.name))
        ((λ i. first i ++ second i) ∙ take-append-drop name_room (padded r.name)) ∙ whole
    by_test false e =
        let first : take 48 (front ++ []) ≡ front =
        take_at front [] 48 (front-count r.name) in
        let second : drop 64 (front ++ []) ≡ [] =
        sym (drop-drop 16 48 (front ++ []))
        ∙ ap (drop 16) (drop_at front [] 48 (front-count r.name)) in
        let short = ltb-false name_room (length r.name) e in
        ap (take (length r.name)) ((λ i. first i ++ second i) ∙ append-nil front)
        ∙ (take-take (length r.name) name_room (padded r.name) short ∙ whole)

-- the same if other slots may follow: zeros stand for the second slot if there is none
abbrev pub room_in : List ℕ → List ℕ
room_in slots =
    take name_room (drop 16 slots)
    ++ cond (nat_le 128 (length slots)) (take name_room (drop 80 slots)) (zeros name_room)

pub name-in-room : (r : LoaderRow) (behind : List ℕ) → length r.name ≤ long_name_room
    → take (length r.name) (room_in (loader_slots r ++ behind)) ≡ r.name
name-in-room r behind fits = by_test (is_long r.name) refl
  where
    front : List ℕ
    front = take name_room (padded r.name)

    whole : take (length r.name) (padded r.name) ≡ r.name
    whole = take_at r.name (zeros (long_name_room - length r.name)) (length r.name) refl

    first : (more : List ℕ) → take name_room ((front ++ more) ++ behind) ≡ front
    first more =
        ap (take name_room) (append_assoc front more behind)
        ∙ take_at front (more ++ behind) name_room (front-count r.name)

    by_test : (t : Bool) → is_long r.name ≡ t
        → take (length r.name)
        (room_in ((loader_slot r ++ cond t (rest_slot r.name) []) ++ behind)) ≡ r.name
    by_test true e =
        let rest = drop name_room (padded r.name) in
        let more = rest_slot r.name in
        let all = (loader_slot r ++ more) ++ behind in
        let count : length rest ≡ name_room =
        omega (arith, length-drop name_room (padded r.name), padded-whole r.name fits) in
        let long : 128 ≤ length all =
        omega (
          arith,
          length-append (loader_slot r ++ more) behind,
          length-append (loader_slot r) more,
          loader_slot-count r,
          rest_slot-count r.name fits,
        ) in
        let second : drop 64 ((front ++ more) ++ behind) ≡ rest ++ behind =
        ap (drop 64) (append_assoc front more behind)
        ∙ (sym (drop-drop 16 48 (front ++ (more ++ behind)))
        ∙ ap (drop 16) (drop_at front (more ++ behind) 48 (front-count r.name))) in
        let both : room_in all ≡ front ++ rest =
        ap (λ (t : Bool). take name_room (drop 16 all)
        ++ cond t (take name_room (drop 80 all)) (zeros name_room)) (le-leb 128 (length all) long)
        ∙ (λ i. first more i
        ++ (ap (take name_room) second ∙ take_at rest behind name_room count) i) in
        ap (take (length r.name)) (both ∙ take-append-drop name_room (padded r.name)) ∙ whole
    by_test false e =
        let short = ltb-false name_room (length r.name) e in
        let all = (loader_slot r ++ []) ++ behind in
        let other = cond (nat_le 128 (length all)) (take name_room (drop 80 all))
        (zeros name_room) in
        ap (λ (l : List ℕ). take (length r.name) (l ++ other)) (first [])
        ∙ (take-append-le (length r.name) front other
        (omega (arith, short, front-count r.name))
        ∙ (take-take (length r.name) name_room (padded r.name) short ∙ whole))
