-- If the walk comes to an end, the half consists of live rows and groups.
-- For `found_is_framed`, `found_is_live` and others.
use Rattle.std.proofs.Common.{◌≡◌, ◌≢◌, ℕ, zero, suc, ◌+◌, ◌-◌, ◌*◌, ◌<◌, ◌≤◌, ◌⊎◌, inl, inr}
use Rattle.std.proofs.Common.{Bool, true, false, cond, List, [], ◌∷◌, ◌++◌, length, take, drop}
use Rattle.std.proofs.Common.{get_or, None, Ok, refl, sym, ap, subst, ◌∙◌, arith, append_assoc}
use Rattle.std.proofs.Common.{append-nil, drop-drop, length-take}
use Rattle.std.specs.Prelude.{Result, ◌==◌, nat_lt}
use Rattle.std.specs.List.{flat_map, AllByRecursion}
use Rattle.std.proofs.lemmas.Bool.{eqb-false, cases_eq, ltb-true, ltb-false, lt-ltb}
use Rattle.std.proofs.lemmas.List.{take-append-drop, take-take, drop_at, length-append}
use Rattle.std.proofs.Math.ListN.{drop_of_length-le}
use Rattle.cm_pool.specs.Geometry.{Sizes}
use Rattle.cm_layout.specs.declared.heads.GroupHead.{GroupHead}
use Rattle.cm_layout.specs.declared.loader_row.LoaderRow.{LoaderRow}
use Rattle.cm_layout.specs.declared.row.Row.TheVariants.{Loader, Class}
use Rattle.cm_layout.specs.declared.entry.Entry.TheVariants as entry
use Rattle.cm_layout.specs.Names.{name_room, name_limit, is_long, slots_of_name}
use Rattle.cm_layout.specs.Slots.{group_head_slot, loader_slot, rest_slot, loader_slots, class_slot}
use Rattle.cm_layout.specs.Slots.{unload_slot, move_slot, unload_all_slot, row_slots, entry_slots}
use Rattle.cm_layout.specs.Slots.{FitsLoader, FitsEntry, RowOfVersion, EntryOfVersion}
use Rattle.cm_layout.specs.Rows.{slots_of_row, slots_of, slots_of_rows, slots_of_entries}
use Rattle.cm_layout.specs.Rows.{rows_after, rows_after_all, bare}
use Rattle.cm_layout.specs.Rules.{broken_rule, broken_live_rule}
use Rattle.cm_layout.specs.Frames.{BareRow, BareEntry, LiveRowsKeep, EntriesKeep}
use Rattle.cm_layout.specs.Frames.{GroupsKeep, groups_slots, IsEnd}
use Rattle.cm_layout.proofs.{slot_count, some_slots, not_long, loader_slot-count, rest_slot-count}
use Rattle.cm_verdict.specs.declared.fault.FileFault.{FileFault}
use Rattle.cm_verdict.specs.Decoding.{is_open, front, kind_at, numbers_in, numbers_taken}
use Rattle.cm_verdict.specs.Walk.{Walked, Turn, Stop, Go, Bad}
use Rattle.cm_verdict.specs.Walk.{begun, turn, from_slot, on_turn, walk}
use Rattle.cm_verdict.proofs.Decoded.{BeginsWith}
use Rattle.cm_verdict.proofs.Turns.{IsGoodGroup, Goes, Group, LiveRow, Entry, what_goes}
use Rattle.cm_verdict.proofs.Turns.{what_stops, after_row, after_entry}
use Rattle.cm_verdict.proofs.Placed.{placed_live_rule, placed_rule, placed_more, placed_after}

-- ---- slots

pub further : (half : List ℕ) (slot n : ℕ)
    → drop (64 * n) (from_slot half slot) ≡ from_slot half (slot + n)
further half slot n =
    drop-drop (64 * n) (64 * slot) half ∙ ap (λ (k : ℕ). drop k half) (omega arith)

pub next_from : (half : List ℕ) (slot : ℕ)
    → from_slot half slot ≡ front (from_slot half slot) ++ from_slot half (slot + 1)
next_from half slot =
    sym (take-append-drop 64 (from_slot half slot))
    ∙ ap (λ (l : List ℕ). front (from_slot half slot) ++ l) (further half slot 1)

pub end_from : (bytes : List ℕ) → (0 < length bytes → get_or bytes 0 0 ≢ 165) → IsEnd bytes
end_from [] h = tt
end_from (b ∷ bytes) h = h (omega arith)

-- an entry that begins the slots that are left: they are enough for it, and others follow
pub record StandsHere (half : List ℕ) (slot left : ℕ) (e : BareEntry) : Type 0 where
  pub some : 1 ≤ slots_of e
  pub within : slots_of e ≤ left
  pub bytes : from_slot half slot ≡ entry_slots e ++ from_slot half (slot + slots_of e)

pub stands_here : (version : ℕ) (half : List ℕ) (slot left : ℕ) (e : BareEntry)
    → BeginsWith version (take (64 * left) (from_slot half slot)) e → StandsHere half slot left e
stands_here version half slot left e b =
    let n = slots_of e in
    let slots = from_slot half slot in
    let within : n ≤ left =
    omega (
      arith,
      ap length b.here,
      slot_count e b.fits,
      length-take (64 * n) (take (64 * left) slots),
      length-take (64 * left) slots,
    ) in
    let here : take (64 * n) slots ≡ entry_slots e =
    sym (take-take (64 * n) (64 * left) slots (omega (arith, within))) ∙ b.here in
    record {
      some = some_slots e;
      within = within;
      bytes = sym (take-append-drop (64 * n) slots)
          ∙ (λ i. here i ++ further half slot n i);
    }

-- ---- numbers

-- in version 1 an entry takes one slot
slots_one : (version : ℕ) (e : BareEntry) → (version == 1) ≡ true → EntryOfVersion version e
    → slots_of e ≡ 1
slots_one version (entry.Live (Loader r)) first short =
    let fits : length r.name ≤ name_room =
    subst (λ (t : Bool). length r.name ≤ cond t name_room name_limit) first short in
    ap (λ (t : Bool). cond t 2 1) (not_long r.name fits)
slots_one version (entry.Live (Class r p)) first any = refl
slots_one version (entry.Unload e) first any = refl
slots_one version (entry.Move e) first any = refl
slots_one version (entry.UnloadAll e) first any = refl

slots_many : (version : ℕ) (es : List BareEntry) → (version == 1) ≡ true
    → AllByRecursion (EntryOfVersion version) es → slots_of_entries es ≡ length es
slots_many version [] first short = refl
slots_many version (e ∷ es) first short =
    omega (arith, slots_one version e first short.0, slots_many version es first short.1)

-- the next slot's number also comes last
pub numbers_next : (count : ℕ) (slots : List ℕ)
    → numbers_in (suc count) slots
    ≡ numbers_in count slots + cond (kind_at (drop (64 * count) slots) == 22) 0 1
unfolding numbers_in
numbers_next zero slots = omega arith
numbers_next (suc count) slots =
    let rest = numbers_next count (drop 64 slots) in
    let there : drop (64 * count) (drop 64 slots) ≡ drop (64 * suc count) slots =
    drop-drop (64 * count) 64 slots ∙ ap (λ (n : ℕ). drop n slots) (omega arith) in
    omega (
      arith,
      rest,
      ap {B = ℕ} (λ (l : List ℕ). cond (kind_at l == 22) 0 1) there,
    )

-- one number for a slot that isn't a continuation slot of a name, and none for one that is
numbers_more : (slot rest : List ℕ) (count : ℕ) → length slot ≡ 64
    → numbers_in (suc count) (slot ++ rest)
    ≡ cond (kind_at (slot ++ rest) == 22) 0 1 + numbers_in count rest
unfolding numbers_in
numbers_more slot rest count one =
    ap (λ (l : List ℕ). cond (kind_at (slot ++ rest) == 22) 0 1 + numbers_in count l)
    (drop_at slot rest 64 one)

numbers_loader : (r : LoaderRow) (rest : List ℕ) (count : ℕ) → FitsLoader r
    → numbers_in (slots_of_name r.name + count) (loader_slots r ++ rest)
    ≡ 1 + numbers_in count rest
numbers_loader r rest count fits = by_test (is_long r.name)
  where
    by_test : (t : Bool)
        → numbers_in (cond t 2 1 + count) ((loader_slot r ++ cond t (rest_slot r.name) []) ++ rest)
        ≡ 1 + numbers_in count rest
    by_test true =
        let more = rest_slot r.name in
        (λ i. numbers_in (two i) (append_assoc (loader_slot r) more rest i))
        ∙ (numbers_more (loader_slot r) (more ++ rest) (suc count) (loader_slot-count r)
        ∙ ap (λ (n : ℕ). 1 + n)
        (numbers_more more rest count (rest_slot-count r.name fits.name) ∙ none))
      where
        two : 2 + count ≡ suc (suc count)
        two = omega arith

        none : 0 + numbers_in count rest ≡ numbers_in count rest
        none = omega arith
    by_test false =
        (λ i. numbers_in (one i) (append_assoc (loader_slot r) [] rest i))
        ∙ numbers_more (loader_slot r) rest count (loader_slot-count r)
      where
        one : 1 + count ≡ suc count
        one = omega arith

numbers_entry : (e : BareEntry) (rest : List ℕ) (count : ℕ) → FitsEntry e
    → numbers_in (slots_of e + count) (entry_slots e ++ rest) ≡ 1 + numbers_in count rest
numbers_entry (entry.Live (Loader r)) rest count fits = numbers_loader r rest count fits
numbers_entry (entry.Live (Class r p)) rest count fits =
    let one : 1 + count ≡ suc count = omega arith in
    ap (λ (n : ℕ). numbers_in n (class_slot r ++ rest)) one
    ∙ numbers_more (class_slot r) rest count refl
numbers_entry (entry.Unload e) rest count fits =
    let one : 1 + count ≡ suc count = omega arith in
    ap (λ (n : ℕ). numbers_in n (unload_slot e ++ rest)) one
    ∙ numbers_more (unload_slot e) rest count refl
numbers_entry (entry.Move e) rest count fits =
    let one : 1 + count ≡ suc count = omega arith in
    ap (λ (n : ℕ). numbers_in n (move_slot e ++ rest)) one
    ∙ numbers_more (move_slot e) rest count refl
numbers_entry (entry.UnloadAll e) rest count fits =
    let one : 1 + count ≡ suc count = omega arith in
    ap (λ (n : ℕ). numbers_in n (unload_all_slot e ++ rest)) one
    ∙ numbers_more (unload_all_slot e) rest count (slot_count (entry.UnloadAll e) fits)

numbers_each : (sizes : Sizes) (rows : List BareRow) (n : ℕ) (es : List BareEntry)
    (behind : List ℕ) → EntriesKeep sizes rows n es
    → numbers_in (slots_of_entries es) (flat_map entry_slots es ++ behind) ≡ length es
unfolding numbers_in
numbers_each sizes rows n [] behind k = refl
numbers_each sizes rows n (e ∷ es) behind k =
    let rest = flat_map entry_slots es ++ behind in
    ap (numbers_in (slots_of e + slots_of_entries es))
    (append_assoc (entry_slots e) (flat_map entry_slots es) behind)
    ∙ (numbers_entry e rest (slots_of_entries es) k.0
    ∙ omega (arith, numbers_each sizes (rows_after rows e) (n + 1) es behind k.2))

-- as many numbers as entries
pub numbers_many : (version : ℕ) (sizes : Sizes) (rows : List BareRow) (n : ℕ)
    (es : List BareEntry) (behind : List ℕ) → EntriesKeep sizes rows n es
    → AllByRecursion (EntryOfVersion version) es
    → numbers_taken version (slots_of_entries es) (flat_map entry_slots es ++ behind) ≡ length es
numbers_many version sizes rows n es behind k of_version = by_test (version == 1) refl
  where
    slots : List ℕ
    slots = flat_map entry_slots es ++ behind

    by_test : (t : Bool) → (version == 1) ≡ t
        → cond t (slots_of_entries es) (numbers_in (slots_of_entries es) slots) ≡ length es
    by_test true first = slots_many version es first of_version
    by_test false first = numbers_each sizes rows n es behind k

-- ---- what is found from a slot on

-- entries of a group, and groups after it; with the live rows before them, the number of the last
-- command, and how many slots of the group are to come
pub record HasGroups (version : ℕ) (sizes : Sizes) (half : List ℕ) (slot : ℕ)
    (rows : List BareRow) (number left : ℕ) (e : Walked) : Type 0 where
  pub entries : List BareEntry
  pub groups : List (List BareEntry)
  pub count : slots_of_entries entries ≡ left
  pub keep : EntriesKeep sizes rows number entries
  pub of_version : AllByRecursion (EntryOfVersion version) entries
  -- the number after these entries
  pub middle : ℕ
  pub middle_is : middle ≡ number + length entries
  pub groups_keep : GroupsKeep sizes (rows_after_all rows entries) middle groups
  pub groups_of_version : AllByRecursion (AllByRecursion (EntryOfVersion version)) groups
  pub bytes : from_slot half slot
      ≡ flat_map entry_slots entries ++ (groups_slots middle groups ++ from_slot half e.slot)
  pub end : IsEnd (from_slot half e.slot)
  pub within : e.slot ≤ sizes.slots
  pub rows_are : bare e.rows
      ≡ rows_after_all (rows_after_all rows entries) (flat_map (λ group. group) groups)
  pub number_is : e.number ≡ middle + length (flat_map (λ group. group) groups)

-- nothing more
ended : (sizes : Sizes) (half : List ℕ) (w : Walked) → w.left ≡ 0 → w.slot ≤ sizes.slots
    → IsEnd (from_slot half w.slot)
    → HasGroups w.version sizes half w.slot (bare w.rows) w.number w.left w
ended sizes half w none within end = record {
  entries = [];
  groups = [];
  count = sym none;
  keep = tt;
  of_version = tt;
  middle = w.number;
  middle_is = omega arith;
  groups_keep = tt;
  groups_of_version = tt;
  bytes = refl;
  end = end;
  within = within;
  rows_are = refl;
  number_is = omega arith;
}

-- an entry before them
with_entry : (version : ℕ) (sizes : Sizes) (half : List ℕ) (slot : ℕ) (rows : List BareRow)
    (number left : ℕ) (e : Walked) (d : BareEntry)
    → BeginsWith version (take (64 * left) (from_slot half slot)) d
    → broken_rule sizes rows (number + 1) d ≡ None
    → HasGroups version sizes half (slot + slots_of d) (rows_after rows d) (number + 1)
    (left - slots_of d) e
    → HasGroups version sizes half slot rows number left e
with_entry version sizes half slot rows number left e d begins keeps g =
    let here = stands_here version half slot left d begins in
    record {
      entries = d ∷ g.entries;
      groups = g.groups;
      count = omega (arith, g.count, here.within);
      keep = (begins.fits, keeps, g.keep);
      of_version = (begins.of_version, g.of_version);
      middle = g.middle;
      middle_is = omega (arith, g.middle_is);
      groups_keep = g.groups_keep;
      groups_of_version = g.groups_of_version;
      bytes =
          let behind = groups_slots g.middle g.groups ++ from_slot half e.slot in
          here.bytes
          ∙ (ap (λ (l : List ℕ). entry_slots d ++ l) g.bytes
          ∙ sym (append_assoc (entry_slots d) (flat_map entry_slots g.entries) behind));
      end = g.end;
      within = g.within;
      rows_are = g.rows_are;
      number_is = g.number_is;
    }

-- a group's head before its entries
with_group : (sizes : Sizes) (half : List ℕ) (w e : Walked) (h : GroupHead) → w.left ≡ 0
    → front (from_slot half w.slot) ≡ group_head_slot h
    → IsGoodGroup sizes w h (drop 64 (from_slot half w.slot))
    → HasGroups w.version sizes half (w.slot + 1) (bare w.rows) w.number h.count e
    → HasGroups w.version sizes half w.slot (bare w.rows) w.number w.left e
with_group sizes half w e h none is good g = record {
  entries = [];
  groups = g.entries ∷ g.groups;
  count = sym none;
  keep = tt;
  of_version = tt;
  middle = w.number;
  middle_is = omega arith;
  groups_of_version = (g.of_version, g.groups_of_version);
  groups_keep = (
    record {
      some = omega (arith, g.count, good.some);
      few = omega (arith, g.count, good.few);
      numbers = omega (
        arith,
        ap (λ (n : ℕ). numbers_taken w.version n (drop 64 (from_slot half w.slot))) g.count,
        ap (numbers_taken w.version (slots_of_entries g.entries))
            (further half w.slot 1 ∙ g.bytes),
        numbers_many w.version sizes (bare w.rows) w.number g.entries
            (groups_slots g.middle g.groups ++ from_slot half e.slot) g.keep g.of_version,
        good.last,
      );
      entries = g.keep;
    },
    subst (λ (n : ℕ). GroupsKeep sizes (rows_after_all (bare w.rows) g.entries) n g.groups)
        g.middle_is g.groups_keep,
  );
  bytes =
      let head : h ≡ record { count = slots_of_entries g.entries; first = w.number + 1 } =
      (λ i. record { count = sym g.count i; first = good.first i }) in
      let es = flat_map entry_slots g.entries in
      let behind = from_slot half e.slot in
      let hs = group_head_slot
      (record { count = slots_of_entries g.entries; first = w.number + 1 }) in
      let gs = groups_slots (w.number + length g.entries) g.groups in
      next_from half w.slot
      ∙ ((λ i. (is ∙ ap group_head_slot head) i ++ g.bytes i)
      ∙ (ap (λ (n : ℕ). hs ++ (es ++ (groups_slots n g.groups ++ behind))) g.middle_is
      ∙ (sym (append_assoc hs es (gs ++ behind)) ∙ sym (append_assoc (hs ++ es) gs behind))));
  end = g.end;
  within = g.within;
  rows_are =
      g.rows_are ∙ sym (rows_joined (bare w.rows) g.entries (flat_map (λ group. group) g.groups));
  number_is = omega (arith, g.number_is, g.middle_is, length_joined g.entries g.groups);
}
  where
    rows_joined : (rows : List BareRow) (a b : List BareEntry)
        → rows_after_all rows (a ++ b) ≡ rows_after_all (rows_after_all rows a) b
    rows_joined rows [] b = refl
    rows_joined rows (d ∷ a) b = rows_joined (rows_after rows d) a b

    length_joined : (a : List BareEntry) (gs : List (List BareEntry))
        → length (flat_map (λ group. group) (a ∷ gs))
        ≡ length a + length (flat_map (λ group. group) gs)
    length_joined a gs = length-append a (flat_map (λ group. group) gs)

-- live rows, and what follows them
pub record HasLive (version : ℕ) (sizes : Sizes) (half : List ℕ) (slot : ℕ)
    (rows : List BareRow) (base left : ℕ) (e : Walked) : Type 0 where
  pub live : List BareRow
  pub count : slots_of_rows live ≡ left
  pub keep : LiveRowsKeep sizes base rows live
  pub of_version : AllByRecursion (RowOfVersion version) live
  pub middle : ℕ
  pub bytes : from_slot half slot ≡ flat_map row_slots live ++ from_slot half middle
  pub groups : HasGroups version sizes half middle (rows ++ live) base 0 e

no_rows : (version : ℕ) (sizes : Sizes) (half : List ℕ) (slot : ℕ) (rows : List BareRow)
    (base : ℕ) (e : Walked) → HasGroups version sizes half slot rows base 0 e
    → HasLive version sizes half slot rows base 0 e
no_rows version sizes half slot rows base e g = record {
  live = [];
  count = refl;
  keep = tt;
  of_version = tt;
  middle = slot;
  bytes = refl;
  groups = subst (λ (l : List BareRow). HasGroups version sizes half slot l base 0 e)
      (sym (append-nil rows)) g;
}

with_row : (version : ℕ) (sizes : Sizes) (half : List ℕ) (slot : ℕ) (rows : List BareRow)
    (base left : ℕ) (e : Walked) (row : BareRow)
    → BeginsWith version (take (64 * left) (from_slot half slot)) (entry.Live row)
    → broken_live_rule sizes base rows row ≡ None
    → HasLive version sizes half (slot + slots_of_row row) (rows ++ row ∷ []) base
    (left - slots_of_row row) e
    → HasLive version sizes half slot rows base left e
with_row version sizes half slot rows base left e row begins keeps l =
    let here = stands_here version half slot left (entry.Live row) begins in
    record {
      live = row ∷ l.live;
      count = omega (arith, l.count, here.within);
      keep = (begins.fits, keeps, l.keep);
      of_version = (begins.of_version, l.of_version);
      middle = l.middle;
      bytes = here.bytes
          ∙ (ap (λ (b : List ℕ). row_slots row ++ b) l.bytes
          ∙ sym (append_assoc (row_slots row) (flat_map row_slots l.live)
          (from_slot half l.middle)));
      groups = subst (λ (r : List BareRow). HasGroups version sizes half l.middle r base 0 e)
          (append_assoc rows (row ∷ []) l.live) l.groups;
    }

-- ---- the walk

abbrev pub done : Walked → Result Walked FileFault
done w = Ok w

pub ok_same : (a b : Walked) → done a ≡ done b → a ≡ b
ok_same a b e = cc

module _ (sizes : Sizes) (first : ℕ) (half : List ℕ) (long : length half ≡ 64 * sizes.slots) where
  shut_end : (slot : ℕ) → is_open (from_slot half slot) ≡ false → IsEnd (from_slot half slot)
  shut_end slot shut = end_from (from_slot half slot) (λ some gate.
      eqb-false (get_or (from_slot half slot) 0 0) 165 shut gate)

  last_end : (slot : ℕ) → sizes.slots ≤ slot → IsEnd (from_slot half slot)
  last_end slot is =
      subst IsEnd (sym (drop_of_length-le half {i = 64 * slot} (omega (arith, long, is)))) tt

  -- the half has this many slots, and the turns are enough for those of it that are left
  pub record HasTurns (turns : ℕ) (w : Walked) : Type 0 where
    pub inside : w.slot + w.left ≤ sizes.slots
    pub enough : sizes.slots ≤ w.slot + turns

  abbrev Says : Walked → Walked → Type 0
  Says w e = HasGroups w.version sizes half w.slot (bare w.rows) w.number w.left e

  abbrev GoesOn : ℕ → Walked → Type 0
  GoesOn turns e =
      (w : Walked) → HasTurns turns w → (w.left ≡ 0) ⊎ (w.live ≡ false)
      → walk sizes first half turns w ≡ Ok e → Says w e

  no_live : (l : Bool) → l ≡ true → l ≡ false → ⊥
  no_live l t f = cc

  -- the walk at the half's end
  through : (w e : Walked) → w.slot + w.left ≤ sizes.slots → sizes.slots ≤ w.slot
      → done w ≡ done e → Says w e
  through w e inside none same =
      subst (λ (v : Walked). HasGroups w.version sizes half w.slot (bare w.rows) w.number w.left v)
      (ok_same w e same)
      (ended sizes half w (omega (arith, inside, none)) (omega (arith, inside))
      (last_end w.slot none))

  group_gone : (turns : ℕ) (w e next : Walked) → GoesOn turns e → HasTurns (suc turns) w
      → w.slot < sizes.slots → (w.left ≡ 0) ⊎ (w.live ≡ false)
      → walk sizes first half turns next ≡ Ok e
      → Goes sizes first w (from_slot half w.slot) next → Says w e
  group_gone turns w e next rest t lt phase is (Group h none there good same) =
      let on : walk sizes first half turns (begun w h) ≡ Ok e =
      ap (walk sizes first half turns) same ∙ is in
      with_group sizes half w e h none there good
      (rest (begun w h) (record {
        inside = omega (arith, lt, good.room);
        enough = omega (arith, t.enough);
      }) (inr refl) on)
  group_gone turns w e next rest t lt (inl none) is (LiveRow row some live there keeps same) =
      absurd (omega (arith, none, some))
  group_gone turns w e next rest t lt (inr old) is (LiveRow row some live there keeps same) =
      absurd (no_live w.live live old)
  group_gone turns w e next rest t lt phase is (Entry d some live there keeps same) =
      let n = first + w.slot in
      let here = stands_here w.version half w.slot w.left d there in
      let on : walk sizes first half turns (after_entry first w d) ≡ Ok e =
      ap (walk sizes first half turns) same ∙ is in
      let g = rest (after_entry first w d) (record {
        inside = omega (arith, t.inside, here.within);
        enough = omega (arith, t.enough, here.some);
      }) (inr live) on in
      with_entry w.version sizes half w.slot (bare w.rows) w.number w.left e d there
      (placed_rule sizes (w.number + 1) n w.rows d ∙ keeps)
      (subst (λ (r : List BareRow). HasGroups w.version sizes half (w.slot + slots_of d) r
      (w.number + 1) (w.left - slots_of d) e)
      (placed_after n w.rows d) g)

  pub groups_walked : (turns : ℕ) (e : Walked) → GoesOn turns e
  unfolding walk
  groups_walked zero e w t phase is =
      through w e t.inside (omega (arith, t.enough)) is
  groups_walked (suc turns) e w t phase is =
      by_room (nat_lt w.slot sizes.slots) refl (groups_walked turns e) is
    where
      by_turn : (says : Turn) → turn sizes first w (from_slot half w.slot) ≡ says
          → w.slot < sizes.slots → GoesOn turns e
          → on_turn (first + w.slot) w (λ next. walk sizes first half turns next) says ≡ Ok e
          → Says w e
      by_turn Stop said lt rest same =
          let s = what_stops sizes first w (from_slot half w.slot) said in
          subst (λ (v : Walked). HasGroups w.version sizes half w.slot (bare w.rows) w.number
          w.left v)
          (ok_same w e same)
          (ended sizes half w s.none (omega (arith, lt)) (shut_end w.slot s.shut))
      by_turn (Go next) said lt rest same =
          group_gone turns w e next rest t lt phase same
          (what_goes sizes first w (from_slot half w.slot) next said)
      by_turn (Bad what) said lt rest same = absurd (cc)

      by_room : (r : Bool) → nat_lt w.slot sizes.slots ≡ r → GoesOn turns e
          → cond r (on_turn (first + w.slot) w (λ next. walk sizes first half turns next)
          (turn sizes first w (from_slot half w.slot))) (Ok w) ≡ Ok e
          → Says w e
      by_room true lt rest same =
          by_turn (turn sizes first w (from_slot half w.slot)) refl
          (ltb-true w.slot sizes.slots lt) rest same
      by_room false lt rest same =
          through w e t.inside (ltb-false w.slot sizes.slots lt) same

  -- the live rows come first
  abbrev SaysLive : Walked → Walked → Type 0
  SaysLive w e = HasLive w.version sizes half w.slot (bare w.rows) w.number w.left e

  abbrev StartsOn : ℕ → Walked → Type 0
  StartsOn turns e =
      (w : Walked) → HasTurns turns w → w.live ≡ true → walk sizes first half turns w ≡ Ok e
      → SaysLive w e

  no_left : (turns : ℕ) (w e : Walked) → HasTurns turns w → w.left ≡ 0
      → walk sizes first half turns w ≡ Ok e → SaysLive w e
  no_left turns w e t none is =
      let g = groups_walked turns e w t (inl none) is in
      subst (λ (n : ℕ). HasLive w.version sizes half w.slot (bare w.rows) w.number n e) (sym none)
      (no_rows w.version sizes half w.slot (bare w.rows) w.number e
      (subst (λ (n : ℕ). HasGroups w.version sizes half w.slot (bare w.rows) w.number n e) none
      g))

  row_gone : (turns : ℕ) (w e next : Walked) → StartsOn turns e → HasTurns (suc turns) w
      → 1 ≤ w.left → w.live ≡ true → walk sizes first half turns next ≡ Ok e
      → Goes sizes first w (from_slot half w.slot) next → SaysLive w e
  row_gone turns w e next rest t some live is (Group h none there good same) =
      absurd (omega (arith, none, some))
  row_gone turns w e next rest t some live is (LiveRow row _ _ there keeps same) =
      let n = first + w.slot in
      let here = stands_here w.version half w.slot w.left (entry.Live row) there in
      let on : walk sizes first half turns (after_row first w row) ≡ Ok e =
      ap (walk sizes first half turns) same ∙ is in
      let l = rest (after_row first w row) (record {
        inside = omega (arith, t.inside, here.within);
        enough = omega (arith, t.enough, here.some);
      }) live on in
      with_row w.version sizes half w.slot (bare w.rows) w.number w.left e row there
      (placed_live_rule sizes w.number n w.rows row ∙ keeps)
      (subst (λ (r : List BareRow). HasLive w.version sizes half (w.slot + slots_of_row row) r
      w.number (w.left - slots_of_row row) e)
      (placed_more n w.rows row) l)
  row_gone turns w e next rest t some live is (Entry d _ old there keeps same) =
      absurd (no_live w.live live old)

  pub live_walked : (turns : ℕ) (e : Walked) → StartsOn turns e
  unfolding walk
  live_walked zero e w t live is = no_left zero w e t (omega (arith, t.inside, t.enough)) is
  live_walked (suc turns) e w t live is =
      by_left (cases_eq w.left 0) (live_walked turns e)
    where
      by_turn : (says : Turn) → turn sizes first w (from_slot half w.slot) ≡ says → 1 ≤ w.left
          → StartsOn turns e
          → on_turn (first + w.slot) w (λ next. walk sizes first half turns next) says ≡ Ok e
          → SaysLive w e
      by_turn Stop said some rest same =
          let s = what_stops sizes first w (from_slot half w.slot) said in
          absurd (omega (arith, some, s.none))
      by_turn (Go next) said some rest same =
          row_gone turns w e next rest t some live same
          (what_goes sizes first w (from_slot half w.slot) next said)
      by_turn (Bad what) said some rest same = absurd (cc)

      by_left : (w.left ≡ 0) ⊎ (w.left ≢ 0) → StartsOn turns e → SaysLive w e
      by_left (inl none) rest = no_left (suc turns) w e t none is
      by_left (inr apart) rest =
          let some : 1 ≤ w.left = omega (arith, apart) in
          by_turn (turn sizes first w (from_slot half w.slot)) refl some rest
          (sym (ap (λ (r : Bool). cond r (on_turn (first + w.slot) w
          (λ next. walk sizes first half turns next)
          (turn sizes first w (from_slot half w.slot))) (Ok w))
          (lt-ltb w.slot sizes.slots (omega (arith, t.inside, some)))) ∙ is)
