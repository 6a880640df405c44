-- What is read from a slot is what was written there, and nothing else is read.
-- For `entry_in`, `group_head_in`, `half_head_in` and others.
use Rattle.std.proofs.Common.{◌≡◌, ℕ, zero, suc, ◌-◌, ◌<◌, ◌≤◌, ◌^◌, Bool, true, false, cond, List}
use Rattle.std.proofs.Common.{[], ◌∷◌, ◌++◌, length-append}
use Rattle.std.proofs.Common.{length, take, drop, replicate, Option, Some, None, refl, sym, ap}
use Rattle.std.proofs.Common.{subst, ◌∙◌, arith}
use Rattle.std.specs.Prelude.{◌&&◌, nat_le, nat_lt, ◌==◌, ◌*◌}
use Rattle.std.specs.Int.{w16, w32, w64, from_le_bytes, to_le_bytes}
use Rattle.std.specs.List.{flat_map, AllByRecursion}
use Rattle.std.specs.Option.{option_map}
use Rattle.std.specs.Str.{bytes_eq}
use Rattle.std.proofs.lemmas.Nat.{from_le_bytes-to_le_bytes_2, from_le_bytes-to_le_bytes_4}
use Rattle.std.proofs.lemmas.Nat.{from_le_bytes-to_le_bytes_8}
use Rattle.std.proofs.lemmas.List.{take_at, take-append-drop, get_or-take, length-replicate}
use Rattle.std.proofs.lemmas.Slice.Eq.{bytes_eq-Decides}
use Rattle.std.proofs.lemmas.Bool.{and_parts, and_from, leb-true, le-leb}
use Rattle.cm_pool.specs.Geometry.{Sizes, IsGeometry}
use Rattle.cm_pool.specs.declared.chunk.Chunk.{Chunk}
use Rattle.cm_layout.specs.declared.heads.HalfHead.{HalfHead}
use Rattle.cm_layout.specs.declared.heads.GroupHead.{GroupHead}
use Rattle.cm_layout.specs.declared.loader_row.LoaderRow.{LoaderRow}
use Rattle.cm_layout.specs.declared.class_row.ClassRow.{ClassRow}
use Rattle.cm_layout.specs.declared.unload.Unload.{Unload}
use Rattle.cm_layout.specs.declared.move_entry.Move.{Move}
use Rattle.cm_layout.specs.declared.unload_all.UnloadAll.{UnloadAll}
use Rattle.cm_layout.specs.declared.row.Row.TheVariants.{Loader, Class}
use Rattle.cm_layout.specs.declared.entry.Entry.TheVariants as entry
use Rattle.cm_layout.specs.Slots.{half_head_slot, group_head_slot, loader_slots}
use Rattle.cm_layout.specs.Slots.{class_slot}
use Rattle.cm_layout.specs.Slots.{unload_slot, move_slot, row_slots, entry_slots, FitsHalfHead}
use Rattle.cm_layout.specs.Slots.{FitsGroupHead, FitsLoader, FitsClass, FitsUnload, FitsMove}
use Rattle.cm_layout.specs.Slots.{FitsRow, FitsEntry, FitsChunk, FitsUnloadAll, unload_all_slot}
use Rattle.cm_layout.specs.Superblock.{superblock_bytes}
use Rattle.cm_layout.specs.Frames.{BareRow, BareEntry}
use Rattle.cm_layout.specs.Slots.{RowOfVersion, EntryOfVersion}
use Rattle.cm_layout.specs.Names.{name_room, limit_of, slots_of_name}
use Rattle.cm_layout.specs.Rows.{slots_of, slots_of_row}
use Rattle.cm_layout.proofs.{loader_slots-count, name-back, within-room, slot_count}
use Rattle.cm_verdict.specs.Decoding.{two_at, four_at, eight_at, if_spelled, half_head_at}
use Rattle.cm_verdict.specs.Decoding.{half_head_in, group_head_at, group_head_in, name_size}
use Rattle.cm_verdict.specs.Decoding.{front, loader_slots_at, loader_of, loader_at, loader_in}
use Rattle.cm_verdict.specs.Decoding.{class_row_at, class_row_in, chunk_at, unload_at}
use Rattle.cm_verdict.specs.Decoding.{unload_in, move_at, move_in, kind_at, row_in, entry_in}
use Rattle.cm_verdict.specs.Decoding.{sizes_at, is_lawful, sizes_in, loaders_size, eights_in}
use Rattle.cm_verdict.specs.Decoding.{unload_all_at, unload_all_in}

-- ---- encodings

same_some : {A : Type 0} (x y : A) → Some x ≡ Some y → x ≡ y
same_some x y e = cc

no_some : {A P : Type 0} (x : A) → None ≡ Some x → P
no_some x e = absurd (cc)

record IsSpelled {A : Type 0} (encoding bytes : List ℕ) (v w : A) : Type 0 where
  same : encoding ≡ bytes
  value : v ≡ w

spelled_some : {A : Type 0} (encoding bytes : List ℕ) (v w : A)
    → if_spelled encoding bytes v ≡ Some w → IsSpelled encoding bytes v w
spelled_some {A} encoding bytes v w = by_test (bytes_eq encoding bytes) refl
  where
    by_test : (t : Bool) → bytes_eq encoding bytes ≡ t → cond t (Some v) None ≡ Some w
        → IsSpelled encoding bytes v w
    by_test true is e =
        record { same = (bytes_eq-Decides encoding bytes).0 is; value = same_some v w e }
    by_test false is e = no_some w e

spelled_is : {A : Type 0} (encoding bytes : List ℕ) (v : A) → encoding ≡ bytes
    → if_spelled encoding bytes v ≡ Some v
spelled_is encoding bytes v e =
    ap (λ t. cond t (Some v) None) ((bytes_eq-Decides encoding bytes).1 e)

-- ---- numbers

small_2 : (n : ℕ) → from_le_bytes w16 (to_le_bytes w16 n) < 2 ^ 16
small_2 n = omega arith

small_4 : (n : ℕ) → from_le_bytes w32 (to_le_bytes w32 n) < 2 ^ 32
small_4 n = omega arith

small_8 : (n : ℕ) → from_le_bytes w64 (to_le_bytes w64 n) < 2 ^ 64
small_8 n = omega arith

-- ---- heads

pub half_head_spelled : (slot : List ℕ) (h : HalfHead) → half_head_in slot ≡ Some h
    → (slot ≡ half_head_slot h) × FitsHalfHead h
unfolding half_head_in
half_head_spelled slot h e =
    let s = spelled_some (half_head_slot (half_head_at slot)) slot (half_head_at slot) h e in
    let fits : FitsHalfHead (half_head_at slot) =
    subst (λ (l : List ℕ). FitsHalfHead (half_head_at l)) s.same (record {
      version = small_2 (two_at 2 slot);
      live = small_4 (four_at 4 slot);
      epoch = small_8 (eight_at 8 slot);
      base = small_8 (eight_at 16 slot);
    }) in
    (sym s.same ∙ ap half_head_slot s.value, subst FitsHalfHead s.value fits)

pub half_head_again : (h : HalfHead) → FitsHalfHead h → half_head_in (half_head_slot h) ≡ Some h
unfolding half_head_in
half_head_again h fits =
    let same : half_head_at (half_head_slot h) ≡ h = (λ i. record {
      version = from_le_bytes-to_le_bytes_2 h.version fits.version i;
      live = from_le_bytes-to_le_bytes_4 h.live fits.live i;
      epoch = from_le_bytes-to_le_bytes_8 h.epoch fits.epoch i;
      base = from_le_bytes-to_le_bytes_8 h.base fits.base i;
    }) in
    (λ i. if_spelled (half_head_slot (same i)) (half_head_slot h) (same i))
    ∙ spelled_is (half_head_slot h) (half_head_slot h) h refl

pub group_head_spelled : (slot : List ℕ) (h : GroupHead) → group_head_in slot ≡ Some h
    → (slot ≡ group_head_slot h) × FitsGroupHead h
unfolding group_head_in
group_head_spelled slot h e =
    let s = spelled_some (group_head_slot (group_head_at slot)) slot (group_head_at slot) h e in
    let fits : FitsGroupHead (group_head_at slot) =
    subst (λ (l : List ℕ). FitsGroupHead (group_head_at l)) s.same (record {
      count = small_2 (two_at 2 slot);
      first = small_8 (eight_at 8 slot);
    }) in
    (sym s.same ∙ ap group_head_slot s.value, subst FitsGroupHead s.value fits)

pub group_head_again : (h : GroupHead) → FitsGroupHead h
    → group_head_in (group_head_slot h) ≡ Some h
unfolding group_head_in
group_head_again h fits =
    let same : group_head_at (group_head_slot h) ≡ h = (λ i. record {
      count = from_le_bytes-to_le_bytes_2 h.count fits.count i;
      first = from_le_bytes-to_le_bytes_8 h.first fits.first i;
    }) in
    (λ i. if_spelled (group_head_slot (same i)) (group_head_slot h) (same i))
    ∙ spelled_is (group_head_slot h) (group_head_slot h) h refl

-- ---- loaders

-- what slots begin with: an entry that fits them and is of this version
pub record BeginsWith (version : ℕ) (slots : List ℕ) (e : BareEntry) : Type 0 where
  pub here : take (64 * slots_of e) slots ≡ entry_slots e
  pub fits : FitsEntry e
  pub of_version : EntryOfVersion version e

-- a name's length is in the first slot
own_size : (slots : List ℕ) → name_size (loader_slots_at slots) ≡ name_size slots
own_size slots = by_test (nat_lt name_room (name_size slots))
  where
    by_test : (t : Bool) → name_size (take (64 * cond t 2 1) slots) ≡ name_size slots
    by_test true = get_or-take 128 slots 2 0 (omega arith)
    by_test false = get_or-take 64 slots 2 0 (omega arith)

loader_spelled : (version : ℕ) (slots : List ℕ) (r : LoaderRow)
    → loader_in version slots ≡ Some r → BeginsWith version slots (entry.Live (Loader r))
unfolding loader_in
loader_spelled version slots r =
    by_size (nat_le (name_size slots) (limit_of version)) refl
  where
    own : List ℕ
    own = loader_slots_at slots

    by_size : (t : Bool) → nat_le (name_size slots) (limit_of version) ≡ t
        → cond t (loader_of own) None ≡ Some r
        → BeginsWith version slots (entry.Live (Loader r))
    by_size true is e =
        let s = spelled_some (loader_slots (loader_at own)) own (loader_at own) r e in
        let here : own ≡ loader_slots r = sym s.same ∙ ap loader_slots s.value in
        let size : name_size slots ≡ length r.name =
        sym (own_size slots) ∙ ap name_size here in
        let small : name_size slots ≤ limit_of version =
        leb-true (name_size slots) (limit_of version) is in
        let number : r.number < 2 ^ 64 =
        subst (λ (n : ℕ). n < 2 ^ 64) (ap (λ (l : LoaderRow). l.number) s.value)
        (subst (λ (l : List ℕ). eight_at 8 l < 2 ^ 64) s.same (small_8 (eight_at 8 own))) in
        let name : length r.name ≤ limit_of version = omega (arith, size, small) in
        record {
          here = ap (λ (n : ℕ). take (64 * cond (nat_lt name_room n) 2 1) slots) (sym size)
              ∙ here;
          fits = record {
            number = number;
            name = within-room version (length r.name) name;
          };
          of_version = name;
        }
    by_size false is e = no_some r e

pub loader_again : (version : ℕ) (r : LoaderRow) (behind : List ℕ) → FitsLoader r
    → length r.name ≤ limit_of version → loader_in version (loader_slots r ++ behind) ≡ Some r
unfolding loader_in
loader_again version r behind fits short =
    let own : loader_slots_at (loader_slots r ++ behind) ≡ loader_slots r =
    take_at (loader_slots r) behind (64 * slots_of_name r.name) (loader_slots-count r fits.name) in
    let same : loader_at (loader_slots r) ≡ r =
    (λ i. record {
      number = from_le_bytes-to_le_bytes_8 r.number fits.number i;
      name = name-back r fits.name i;
    }) in
    ap (λ t. cond t (loader_of (loader_slots_at (loader_slots r ++ behind))) None)
    (le-leb (length r.name) (limit_of version) short)
    ∙ (ap loader_of own
    ∙ ((λ i. if_spelled (loader_slots (same i)) (loader_slots r) (same i))
    ∙ spelled_is (loader_slots r) (loader_slots r) r refl))

-- ---- classes

same_chunk : (c : Chunk) → FitsChunk c → (d : Chunk)
    → d.root ≡ from_le_bytes w32 (to_le_bytes w32 c.root)
    → d.order ≡ from_le_bytes w32 (to_le_bytes w32 c.order)
    → d.at ≡ from_le_bytes w32 (to_le_bytes w32 c.at) → d ≡ c
same_chunk c fits d root order at =
    let r : d.root ≡ c.root = root ∙ from_le_bytes-to_le_bytes_4 c.root fits.root in
    let o : d.order ≡ c.order = order ∙ from_le_bytes-to_le_bytes_4 c.order fits.order in
    let a : d.at ≡ c.at = at ∙ from_le_bytes-to_le_bytes_4 c.at fits.at in
    (λ i. record { root = r i; order = o i; at = a i })

class_spelled : (slot : List ℕ) (r : ClassRow) → class_row_in slot ≡ Some r
    → (slot ≡ class_slot r) × FitsClass r
unfolding class_row_in
class_spelled slot r e =
    let s = spelled_some (class_slot (class_row_at slot)) slot (class_row_at slot) r e in
    let fits : FitsClass (class_row_at slot) =
    subst (λ (l : List ℕ). FitsClass (class_row_at l)) s.same (record {
      words = small_4 (four_at 4 slot);
      loader = small_8 (eight_at 8 slot);
      chunk = record {
        root = small_4 (four_at 16 slot);
        order = small_4 (four_at 20 slot);
        at = small_4 (four_at 24 slot);
      };
      offset = small_4 (four_at 28 slot);
    }) in
    (sym s.same ∙ ap class_slot s.value, subst FitsClass s.value fits)

class_again : (r : ClassRow) → FitsClass r → class_row_in (class_slot r) ≡ Some r
unfolding class_row_in
class_again r fits =
    let chunk : chunk_at 16 (class_slot r) ≡ r.place.chunk =
    same_chunk r.place.chunk fits.chunk (chunk_at 16 (class_slot r)) refl refl refl in
    let same : class_row_at (class_slot r) ≡ r = (λ i. record {
      loader = from_le_bytes-to_le_bytes_8 r.loader fits.loader i;
      place = record {
        chunk = chunk i;
        offset = from_le_bytes-to_le_bytes_4 r.place.offset fits.offset i;
        words = from_le_bytes-to_le_bytes_4 r.place.words fits.words i;
      };
    }) in
    (λ i. if_spelled (class_slot (same i)) (class_slot r) (same i))
    ∙ spelled_is (class_slot r) (class_slot r) r refl

-- ---- unloadings and moves

unload_spelled : (slot : List ℕ) (e : Unload) → unload_in slot ≡ Some e
    → (slot ≡ unload_slot e) × FitsUnload e
unfolding unload_in
unload_spelled slot u e =
    let s = spelled_some (unload_slot (unload_at slot)) slot (unload_at slot) u e in
    let fits : FitsUnload (unload_at slot) =
    subst (λ (l : List ℕ). FitsUnload (unload_at l)) s.same
    (record { loader = small_8 (eight_at 8 slot) }) in
    (sym s.same ∙ ap unload_slot s.value, subst FitsUnload s.value fits)

unload_again : (e : Unload) → FitsUnload e → unload_in (unload_slot e) ≡ Some e
unfolding unload_in
unload_again e fits =
    let same : unload_at (unload_slot e) ≡ e =
    (λ i. record { loader = from_le_bytes-to_le_bytes_8 e.loader fits.loader i }) in
    (λ i. if_spelled (unload_slot (same i)) (unload_slot e) (same i))
    ∙ spelled_is (unload_slot e) (unload_slot e) e refl

eights_count : (n : ℕ) (bytes : List ℕ) → length (eights_in n bytes) ≡ n
eights_count zero bytes = refl
eights_count (suc n) bytes = omega (arith, eights_count n (drop 8 bytes))

abbrev AreSmall : List ℕ → Type 0
AreSmall us = AllByRecursion (λ u. u < 2 ^ 64) us

-- numbers that were written as small are small when they are read, and the same
eights_small : (n : ℕ) (us : List ℕ) → n ≤ length us
    → AreSmall (eights_in n (flat_map (to_le_bytes w64) us))
eights_small zero us few = tt
eights_small (suc n) [] few = absurd (omega (arith, few))
eights_small (suc n) (u ∷ us) few = (small_8 u, eights_small n us (omega (arith, few)))

eights_back : (us more : List ℕ) → AreSmall us
    → eights_in (length us) (flat_map (to_le_bytes w64) (us ++ more)) ≡ us
eights_back [] more small = refl
eights_back (u ∷ us) more small =
    (λ i. from_le_bytes-to_le_bytes_8 u small.0 i ∷ eights_back us more small.1 i)

unload_all_spelled : (slot : List ℕ) (e : UnloadAll) → unload_all_in slot ≡ Some e
    → (slot ≡ unload_all_slot e) × FitsUnloadAll e
unfolding unload_all_in
unload_all_spelled slot u = by_size (nat_le 1 n && nat_le n 7) refl
  where
    n : ℕ
    n = loaders_size slot

    by_size : (t : Bool) → (nat_le 1 n && nat_le n 7) ≡ t
        → cond t (if_spelled (unload_all_slot (unload_all_at slot)) slot (unload_all_at slot)) None
        ≡ Some u
        → (slot ≡ unload_all_slot u) × FitsUnloadAll u
    by_size true is e =
        let s = spelled_some (unload_all_slot (unload_all_at slot)) slot (unload_all_at slot) u e in
        let parts = and_parts (nat_le 1 n) (nat_le n 7) is in
        let few : n ≤ 7 = leb-true n 7 parts.1 in
        let numbers = eights_in n (drop 8 slot) in
        let count = eights_count n (drop 8 slot) in
        let room : n ≤ length (numbers ++ replicate (7 - length numbers) 0) =
        omega (
          arith,
          few,
          count,
          length-append numbers (replicate (7 - length numbers) 0),
          length-replicate {A = ℕ} (7 - length numbers) 0,
        ) in
        let fits : FitsUnloadAll (unload_all_at slot) = record {
          some = omega (arith, count, leb-true 1 n parts.0);
          few = omega (arith, count, few);
          loaders = subst (λ (l : List ℕ). AreSmall (eights_in n (drop 8 l))) s.same
              (eights_small n (numbers ++ replicate (7 - length numbers) 0) room);
        } in
        (sym s.same ∙ ap unload_all_slot s.value, subst FitsUnloadAll s.value fits)
    by_size false is e = no_some u e

unload_all_again : (e : UnloadAll) → FitsUnloadAll e → unload_all_in (unload_all_slot e) ≡ Some e
unfolding unload_all_in
unload_all_again e fits =
    let slot = unload_all_slot e in
    let n = length e.loaders in
    let loaders : eights_in n (drop 8 slot) ≡ e.loaders =
    eights_back e.loaders (replicate (7 - n) 0) fits.loaders in
    let same : unload_all_at slot ≡ e = (λ i. record { loaders = loaders i }) in
    let lawful : (nat_le 1 n && nat_le n 7) ≡ true =
    rw (le-leb 1 n fits.some) (le-leb n 7 fits.few) in
    ap (λ t. cond t (if_spelled (unload_all_slot (unload_all_at slot)) slot (unload_all_at slot))
    None) lawful
    ∙ ((λ i. if_spelled (unload_all_slot (same i)) slot (same i))
    ∙ spelled_is slot slot e refl)

move_spelled : (slot : List ℕ) (m : Move) → move_in slot ≡ Some m
    → (slot ≡ move_slot m) × FitsMove m
unfolding move_in
move_spelled slot m e =
    let s = spelled_some (move_slot (move_at slot)) slot (move_at slot) m e in
    let fits : FitsMove (move_at slot) =
    subst (λ (l : List ℕ). FitsMove (move_at l)) s.same (record {
      loader = small_8 (eight_at 8 slot);
      from = record {
        root = small_4 (four_at 16 slot);
        order = small_4 (four_at 20 slot);
        at = small_4 (four_at 24 slot);
      };
      to = record {
        root = small_4 (four_at 28 slot);
        order = small_4 (four_at 32 slot);
        at = small_4 (four_at 36 slot);
      };
    }) in
    (sym s.same ∙ ap move_slot s.value, subst FitsMove s.value fits)

move_again : (m : Move) → FitsMove m → move_in (move_slot m) ≡ Some m
unfolding move_in
move_again m fits =
    let old : chunk_at 16 (move_slot m) ≡ m.from =
    same_chunk m.from fits.from (chunk_at 16 (move_slot m)) refl refl refl in
    let new : chunk_at 28 (move_slot m) ≡ m.to =
    same_chunk m.to fits.to (chunk_at 28 (move_slot m)) refl refl refl in
    let same : move_at (move_slot m) ≡ m = (λ i. record {
      loader = from_le_bytes-to_le_bytes_8 m.loader fits.loader i;
      from = old i;
      to = new i;
    }) in
    (λ i. if_spelled (move_slot (same i)) (move_slot m) (same i))
    ∙ spelled_is (move_slot m) (move_slot m) m refl

-- ---- rows and entries

mapped_some : {A B P : Type 0} (f : A → B) (o : Option A) (y : B) → option_map f o ≡ Some y
    → ((x : A) → o ≡ Some x → f x ≡ y → P) → P
mapped_some f None y e k = no_some y e
mapped_some f (Some x) y e k = k x refl (same_some (f x) y e)

pub row_spelled : (version : ℕ) (slots : List ℕ) (row : BareRow)
    → row_in version slots ≡ Some row → BeginsWith version slots (entry.Live row)
unfolding row_in
row_spelled version slots row = by_kind (kind_at slots == 17)
  where
    by_kind : (t : Bool)
        → cond t (option_map (λ r. Loader r) (loader_in version slots))
        (option_map (λ r. Class r tt) (class_row_in (front slots))) ≡ Some row
        → BeginsWith version slots (entry.Live row)
    by_kind true e =
        mapped_some (λ (r : LoaderRow). Loader r) (loader_in version slots) row e (λ r there is.
        subst (λ (w : BareRow). BeginsWith version slots (entry.Live w)) is
        (loader_spelled version slots r there))
    by_kind false e =
        mapped_some (λ (r : ClassRow). Class r tt) (class_row_in (front slots)) row e (λ r there is.
        let s = class_spelled (front slots) r there in
        subst (λ (w : BareRow). BeginsWith version slots (entry.Live w)) is
        (record { here = s.0; fits = s.1; of_version = tt }))

pub row_again : (version : ℕ) (row : BareRow) (behind : List ℕ) → FitsRow row
    → RowOfVersion version row → row_in version (row_slots row ++ behind) ≡ Some row
unfolding row_in
row_again version (Loader r) behind fits short =
    ap (option_map (λ (l : LoaderRow). Loader l)) (loader_again version r behind fits short)
row_again version (Class r u) behind fits any =
    ap (option_map (λ (c : ClassRow). Class c tt)) (class_again r fits)

pub entry_spelled : (version : ℕ) (slots : List ℕ) (e : BareEntry)
    → entry_in version slots ≡ Some e → BeginsWith version slots e
unfolding entry_in
entry_spelled version slots v =
    by_kind (kind_at slots == 19) (kind_at slots == 20) (kind_at slots == 21)
  where
    by_kind : (t u s : Bool)
        → cond t (option_map (λ e. entry.Unload e) (unload_in (front slots)))
        (cond u (option_map (λ e. entry.Move e) (move_in (front slots)))
        (cond s (option_map (λ e. entry.UnloadAll e) (unload_all_in (front slots)))
        (option_map (λ r. entry.Live r) (row_in version slots)))) ≡ Some v
        → BeginsWith version slots v
    by_kind true u s e =
        mapped_some (λ (d : Unload). entry.Unload d) (unload_in (front slots)) v e (λ d there is.
        let s = unload_spelled (front slots) d there in
        subst (BeginsWith version slots) is
        (record { here = s.0; fits = s.1; of_version = tt }))
    by_kind false true s e =
        mapped_some (λ (d : Move). entry.Move d) (move_in (front slots)) v e (λ d there is.
        let s = move_spelled (front slots) d there in
        subst (BeginsWith version slots) is
        (record { here = s.0; fits = s.1; of_version = tt }))
    by_kind false false true e =
        mapped_some (λ (d : UnloadAll). entry.UnloadAll d) (unload_all_in (front slots)) v e
        (λ d there is.
        let s = unload_all_spelled (front slots) d there in
        subst (BeginsWith version slots) is
        (record { here = s.0; fits = s.1; of_version = tt }))
    by_kind false false false e =
        mapped_some (λ (d : BareRow). entry.Live d) (row_in version slots) v e (λ d there is.
        subst (BeginsWith version slots) is (row_spelled version slots d there))

pub entry_again : (version : ℕ) (e : BareEntry) (behind : List ℕ) → FitsEntry e
    → EntryOfVersion version e → entry_in version (entry_slots e ++ behind) ≡ Some e
unfolding entry_in
entry_again version (entry.Live (Loader r)) behind fits short =
    ap (option_map (λ (d : BareRow). entry.Live d))
    (row_again version (Loader r) behind fits short)
entry_again version (entry.Live (Class r u)) behind fits any =
    ap (option_map (λ (d : BareRow). entry.Live d)) (row_again version (Class r u) behind fits any)
entry_again version (entry.Unload e) behind fits any =
    ap (option_map (λ (d : Unload). entry.Unload d)) (unload_again e fits)
entry_again version (entry.Move e) behind fits any =
    ap (option_map (λ (d : Move). entry.Move d)) (move_again e fits)
entry_again version (entry.UnloadAll e) behind fits any =
    ap (option_map (λ (d : UnloadAll). entry.UnloadAll d))
    (ap unload_all_in
    (take_at (unload_all_slot e) behind 64 (slot_count (entry.UnloadAll e) fits))
    ∙ unload_all_again e fits)

-- slots that begin with an entry, and what follows it
pub spelled_whole : (version : ℕ) (slots : List ℕ) (e : BareEntry) → BeginsWith version slots e
    → slots ≡ entry_slots e ++ drop (64 * slots_of e) slots
spelled_whole version slots e b =
    sym (take-append-drop (64 * slots_of e) slots)
    ∙ ap (λ (l : List ℕ). l ++ drop (64 * slots_of e) slots) b.here

-- what isn't spelled isn't there
pub none_is : {A : Type 0} (o : Option A) → ((x : A) → o ≡ Some x → ⊥) → None ≡ o
none_is None h = refl
none_is (Some x) h = absurd (h x refl)

pub row_of_entry : (version : ℕ) (slots : List ℕ) (row : BareRow)
    → entry_in version slots ≡ Some (entry.Live row) → row_in version slots ≡ Some row
row_of_entry version slots row e =
    let s = entry_spelled version slots (entry.Live row) e in
    ap (row_in version) (spelled_whole version slots (entry.Live row) s)
    ∙ row_again version row (drop (64 * slots_of_row row) slots) s.fits s.of_version

pub entry_of_row : (version : ℕ) (slots : List ℕ) (row : BareRow)
    → row_in version slots ≡ Some row → entry_in version slots ≡ Some (entry.Live row)
entry_of_row version slots row e =
    let s = row_spelled version slots row e in
    ap (entry_in version) (spelled_whole version slots (entry.Live row) s)
    ∙ entry_again version (entry.Live row) (drop (64 * slots_of_row row) slots) s.fits
    s.of_version

-- ---- the superblock

lawful : (g : Sizes) → is_lawful g ≡ true → IsGeometry g
lawful g e =
    let a = and_parts (nat_le 3 g.top && nat_le g.top 12 && nat_le 1 g.roots && nat_le g.roots 256
    && nat_le 256 g.slots) (nat_le g.slots 65536) e in
    let b = and_parts (nat_le 3 g.top && nat_le g.top 12 && nat_le 1 g.roots && nat_le g.roots 256)
    (nat_le 256 g.slots) a.0 in
    let c = and_parts (nat_le 3 g.top && nat_le g.top 12 && nat_le 1 g.roots) (nat_le g.roots 256)
    b.0 in
    let d = and_parts (nat_le 3 g.top && nat_le g.top 12) (nat_le 1 g.roots) c.0 in
    let f = and_parts (nat_le 3 g.top) (nat_le g.top 12) d.0 in
    record {
      top_from = leb-true 3 g.top f.0;
      top_to = leb-true g.top 12 f.1;
      roots_from = leb-true 1 g.roots d.1;
      roots_to = leb-true g.roots 256 c.1;
      slots_from = leb-true 256 g.slots b.1;
      slots_to = leb-true g.slots 65536 a.1;
    }

is_lawful_from : (g : Sizes) → IsGeometry g → is_lawful g ≡ true
is_lawful_from g h =
    and_from _ _ (and_from _ _ (and_from _ _ (and_from _ _ (and_from _ _
    (le-leb 3 g.top h.top_from) (le-leb g.top 12 h.top_to)) (le-leb 1 g.roots h.roots_from))
    (le-leb g.roots 256 h.roots_to)) (le-leb 256 g.slots h.slots_from))
    (le-leb g.slots 65536 h.slots_to)

pub sizes_spelled : (block : List ℕ) (g : Sizes) → sizes_in block ≡ Some g
    → (block ≡ superblock_bytes g) × IsGeometry g
unfolding sizes_in
sizes_spelled block g = by_limits (is_lawful (sizes_at block)) refl
  where
    by_limits : (t : Bool) → is_lawful (sizes_at block) ≡ t
        → cond t (if_spelled (superblock_bytes (sizes_at block)) block (sizes_at block)) None
        ≡ Some g
        → (block ≡ superblock_bytes g) × IsGeometry g
    by_limits true is e =
        let s = spelled_some (superblock_bytes (sizes_at block)) block (sizes_at block) g e in (
          sym s.same ∙ ap superblock_bytes s.value,
          subst IsGeometry s.value (lawful (sizes_at block) is),
        )
    by_limits false is e = no_some g e

pub sizes_again : (g : Sizes) → IsGeometry g → sizes_in (superblock_bytes g) ≡ Some g
unfolding sizes_in
sizes_again g h =
    let same : sizes_at (superblock_bytes g) ≡ g = (λ i. record {
      top = from_le_bytes-to_le_bytes_4 g.top (omega (arith, h.top_to)) i;
      roots = from_le_bytes-to_le_bytes_4 g.roots (omega (arith, h.roots_to)) i;
      slots = from_le_bytes-to_le_bytes_4 g.slots (omega (arith, h.slots_to)) i;
    }) in
    ap (λ t. cond t (if_spelled (superblock_bytes (sizes_at (superblock_bytes g)))
    (superblock_bytes g) (sizes_at (superblock_bytes g))) None)
    (ap is_lawful same ∙ is_lawful_from g h)
    ∙ ((λ i. if_spelled (superblock_bytes (same i)) (superblock_bytes g) (same i))
    ∙ spelled_is (superblock_bytes g) (superblock_bytes g) g refl)
