-- A half that is made of live rows and groups is walked through to its end.
-- For `found_is_framed`, `found_is_live`.
use Rattle.std.proofs.Common.{◌≡◌, ◌≢◌, ℕ, zero, suc, ◌+◌, ◌-◌, ◌*◌, ◌<◌, ◌≤◌, ◌⊎◌, inl, inr}
use Rattle.std.proofs.Common.{Bool, true, false, cond, List, [], ◌∷◌, ◌++◌, length, take, drop}
use Rattle.std.proofs.Common.{get_or, None, Ok, refl, sym, ap, subst, ◌∙◌, arith, append_assoc}
use Rattle.std.proofs.Common.{append-nil, length-drop}
use Rattle.std.specs.Prelude.{nat_le, nat_lt}
use Rattle.std.specs.List.{flat_map, AllByRecursion}
use Rattle.std.proofs.lemmas.Bool.{ne_eqb, leb-true, leb-false, ltb-true, lt-ltb}
use Rattle.std.proofs.lemmas.List.{take_at, drop_at, length-append}
use Rattle.std.proofs.Math.Seq.{take-append-add}
use Rattle.cm_pool.specs.Geometry.{Sizes}
use Rattle.cm_layout.specs.declared.heads.GroupHead.{GroupHead}
use Rattle.cm_layout.specs.declared.entry.Entry.TheVariants as entry
use Rattle.cm_layout.specs.Slots.{group_head_slot, row_slots, entry_slots}
use Rattle.cm_layout.specs.Slots.{FitsGroupHead, RowOfVersion, EntryOfVersion}
use Rattle.cm_layout.specs.Rules.{broken_rule, broken_live_rule}
use Rattle.cm_layout.specs.Rows.{slots_of_row, slots_of, slots_of_rows, slots_of_entries}
use Rattle.cm_layout.specs.Rows.{rows_after, rows_after_all, bare}
use Rattle.cm_layout.specs.Frames.{BareRow, BareEntry, LiveRowsKeep, EntriesKeep, GroupKeeps}
use Rattle.cm_layout.specs.Frames.{GroupsKeep, groups_slots, IsEnd}
use Rattle.cm_layout.proofs.{slot_count, some_slots}
use Rattle.cm_verdict.specs.Decoding.{is_open, numbers_taken}
use Rattle.cm_verdict.specs.Walk.{Walked, Go, placed_row, placed_entry}
use Rattle.cm_verdict.specs.Walk.{begun, turn, from_slot, on_turn, walk}
use Rattle.cm_verdict.proofs.Turns.{IsGoodGroup, does_stop, group_goes, row_goes, entry_goes}
use Rattle.cm_verdict.proofs.Turns.{after_row, after_entry}
use Rattle.cm_verdict.proofs.Placed.{placed_live_rule, placed_rule, placed_more, placed_after}
use Rattle.cm_verdict.proofs.Walks.{further, numbers_many}

-- ---- slots

entries_count : (sizes : Sizes) (rows : List BareRow) (n : ℕ) (es : List BareEntry)
    → EntriesKeep sizes rows n es → length (flat_map entry_slots es) ≡ 64 * slots_of_entries es
entries_count sizes rows n [] k = refl
entries_count sizes rows n (e ∷ es) k =
    let rest = entries_count sizes (rows_after rows e) (n + 1) es k.2 in
    omega (
      arith,
      rest,
      slot_count e k.0,
      length-append (entry_slots e) (flat_map entry_slots es),
    )

-- slots that come before others, if `n` slots of the live rows or of the group are left
record IsFront (half : List ℕ) (slot : ℕ) (begin rest : List ℕ) (n : ℕ) : Type 0 where
  here : take (64 * n) (from_slot half slot) ≡ begin
  behind : from_slot half (slot + n) ≡ rest

in_front : (half : List ℕ) (slot : ℕ) (begin rest : List ℕ) (n : ℕ)
    → from_slot half slot ≡ begin ++ rest → length begin ≡ 64 * n
    → IsFront half slot begin rest n
in_front half slot begin rest n e count = record {
  here = ap (take (64 * n)) e ∙ take_at begin rest (64 * n) count;
  behind = sym (further half slot n) ∙ (ap (drop (64 * n)) e ∙ drop_at begin rest (64 * n) count);
}

-- all that is left of a list begins with what the list begins with
left_begins : (slots begin rest : List ℕ) (n : ℕ) → slots ≡ begin ++ rest → length begin ≤ n
    → take n slots ≡ begin ++ take (n - length begin) rest
left_begins slots begin rest n e count =
    ap (take n) e
    ∙ (ap (λ (k : ℕ). take k (begin ++ rest)) (omega (arith, count))
    ∙ take-append-add begin rest (n - length begin))

rows_joined : (rows : List BareRow) (a b : List BareEntry)
    → rows_after_all rows (a ++ b) ≡ rows_after_all (rows_after_all rows a) b
rows_joined rows [] b = refl
rows_joined rows (d ∷ a) b = rows_joined (rows_after rows d) a b

module _ (sizes : Sizes) (first : ℕ) (half : List ℕ) (long : length half ≡ 64 * sizes.slots) where
  -- the walk comes to its end with these rows and this number
  pub record Reaches (turns : ℕ) (w : Walked) (rows : List BareRow) (number : ℕ) : Type 0 where
    pub end : Walked
    pub walked : walk sizes first half turns w ≡ Ok end
    pub rows_are : bare end.rows ≡ rows
    pub number_is : end.number ≡ number

  -- what is ahead: the remaining entries of a group, and groups
  pub record IsAhead (w : Walked) (entries : List BareEntry) (groups : List (List BareEntry))
      (behind : List ℕ) (rows : List BareRow) (number middle : ℕ) : Type 0 where
    pub count : slots_of_entries entries ≡ w.left
    pub phase : (w.left ≡ 0) ⊎ (w.live ≡ false)
    pub rows_are : bare w.rows ≡ rows
    pub number_is : w.number ≡ number
    pub middle_is : middle ≡ number + length entries
    pub keep : EntriesKeep sizes rows number entries
    pub of_version : AllByRecursion (EntryOfVersion w.version) entries
    pub groups_keep : GroupsKeep sizes (rows_after_all rows entries) middle groups
    pub groups_of_version : AllByRecursion (AllByRecursion (EntryOfVersion w.version)) groups
    pub bytes : from_slot half w.slot
        ≡ flat_map entry_slots entries ++ (groups_slots middle groups ++ behind)
    pub end : IsEnd behind

  room : (slot : ℕ) → length (from_slot half slot) + 64 * slot ≡ 64 * sizes.slots
      ⊎ (length (from_slot half slot) ≡ 0)
  room slot = by_order (nat_le slot sizes.slots) refl
    where
      by_order : (t : Bool) → nat_le slot sizes.slots ≡ t
          → (length (from_slot half slot) + 64 * slot ≡ 64 * sizes.slots)
          ⊎ (length (from_slot half slot) ≡ 0)
      by_order true e = inl (omega (
        arith,
        length-drop (64 * slot) half,
        long,
        leb-true slot sizes.slots e,
      ))
      by_order false e = inr (omega (
        arith,
        length-drop (64 * slot) half,
        long,
        leb-false slot sizes.slots e,
      ))

  -- if there are slots, the half continues
  goes_on : (slot n : ℕ) → 1 ≤ n → 64 * n ≤ length (from_slot half slot)
      → slot + n ≤ sizes.slots
  goes_on slot n some long_enough = by_room (room slot)
    where
      by_room : (length (from_slot half slot) + 64 * slot ≡ 64 * sizes.slots)
          ⊎ (length (from_slot half slot) ≡ 0) → slot + n ≤ sizes.slots
      by_room (inl is) = omega (arith, is, long_enough)
      by_room (inr none) = absurd (omega (arith, none, long_enough, some))

  -- a turn first
  turned : (turns : ℕ) (w : Walked) → w.slot < sizes.slots
      → walk sizes first half (suc turns) w
      ≡ on_turn (first + w.slot) w (λ next. walk sizes first half turns next)
      (turn sizes first w (from_slot half w.slot))
  unfolding walk
  turned turns w lt =
      ap (λ (r : Bool). cond r (on_turn (first + w.slot) w
      (λ next. walk sizes first half turns next)
      (turn sizes first w (from_slot half w.slot))) (Ok w)) (lt-ltb w.slot sizes.slots lt)

  -- what was reached after a turn is reached
  reached : (turns : ℕ) (w next : Walked) (rows rows' : List BareRow) (number number' : ℕ)
      → w.slot < sizes.slots → turn sizes first w (from_slot half w.slot) ≡ Go next
      → rows ≡ rows' → number ≡ number' → Reaches turns next rows number
      → Reaches (suc turns) w rows' number'
  reached turns w next rows rows' number number' lt goes same_rows same_number r = record {
    end = r.end;
    walked = turned turns w lt
        ∙ (ap (on_turn (first + w.slot) w (λ next. walk sizes first half turns next)) goes
        ∙ r.walked);
    rows_are = r.rows_are ∙ same_rows;
    number_is = r.number_is ∙ same_number;
  }

  first_shut : (bytes : List ℕ) → IsEnd bytes → 0 < length bytes → get_or bytes 0 0 ≢ 165
  first_shut [] end some = absurd (omega (arith, some))
  first_shut (b ∷ bytes) end some = end

  stopped : (turns : ℕ) (w : Walked) (rows : List BareRow) (number : ℕ) → w.left ≡ 0
      → IsEnd (from_slot half w.slot) → bare w.rows ≡ rows → w.number ≡ number
      → Reaches (suc turns) w rows number
  unfolding walk
  stopped turns w rows number none end rows_are number_is =
      by_room (nat_lt w.slot sizes.slots) refl
    where
      ends : (t : Bool) → nat_lt w.slot sizes.slots ≡ t
          → cond t (on_turn (first + w.slot) w (λ next. walk sizes first half turns next)
          (turn sizes first w (from_slot half w.slot))) (Ok w) ≡ Ok w
      ends true lt =
          let is : length (from_slot half w.slot) + 64 * w.slot ≡ 64 * sizes.slots =
          omega (arith, length-drop (64 * w.slot) half, long, ltb-true w.slot sizes.slots lt) in
          let some : 0 < length (from_slot half w.slot) =
          omega (arith, is, ltb-true w.slot sizes.slots lt) in
          let shut : is_open (from_slot half w.slot) ≡ false =
          ne_eqb (get_or (from_slot half w.slot) 0 0) 165
          (first_shut (from_slot half w.slot) end some) in
          ap (on_turn (first + w.slot) w (λ next. walk sizes first half turns next))
          (does_stop sizes first w (from_slot half w.slot) (record { none = none; shut = shut }))
      ends false past = refl

      by_room : (t : Bool) → nat_lt w.slot sizes.slots ≡ t → Reaches (suc turns) w rows number
      by_room t is = record {
        end = w;
        walked = ends (nat_lt w.slot sizes.slots) refl;
        rows_are = rows_are;
        number_is = number_is;
      }

  abbrev pub rows_behind : List BareRow → List BareEntry → List (List BareEntry) → List BareRow
  rows_behind rows entries groups =
      rows_after_all (rows_after_all rows entries) (flat_map (λ group. group) groups)

  abbrev pub number_behind : ℕ → List (List BareEntry) → ℕ
  number_behind middle groups = middle + length (flat_map (λ group. group) groups)

  abbrev pub Finds : ℕ → Type 0
  Finds turns =
      (w : Walked) (entries : List BareEntry) (groups : List (List BareEntry)) (behind : List ℕ)
      (rows : List BareRow) (number middle : ℕ) → sizes.slots ≤ w.slot + turns
      → IsAhead w entries groups behind rows number middle
      → Reaches turns w (rows_behind rows entries groups) (number_behind middle groups)

  -- a group's head, and then its entries
  module _ (w : Walked) (group : List BareEntry) (groups : List (List BareEntry))
      (behind : List ℕ) (rows : List BareRow) (number middle : ℕ)
      (a : IsAhead w [] (group ∷ groups) behind rows number middle) where
    abbrev h : GroupHead
    h = record { count = slots_of_entries group; first = middle + 1 }

    keeps : GroupKeeps sizes rows middle group
    keeps = a.groups_keep.0

    same_number : w.number ≡ middle
    same_number = omega (arith, a.number_is, a.middle_is)

    head_fits : FitsGroupHead h
    head_fits = record {
      count = omega (arith, keeps.few);
      first = omega (arith, keeps.numbers);
    }

    abbrev others : List ℕ
    others = groups_slots (middle + length group) groups ++ behind

    abbrev rest : List ℕ
    rest = flat_map entry_slots group ++ others

    whole : from_slot half w.slot ≡ group_head_slot h ++ rest
    whole =
        let es = flat_map entry_slots group in
        let gs = groups_slots (middle + length group) groups in
        a.bytes ∙ (append_assoc (group_head_slot h ++ es) gs behind
        ∙ append_assoc (group_head_slot h) es (gs ++ behind))

    head_front : IsFront half w.slot (group_head_slot h) rest 1
    head_front = in_front half w.slot (group_head_slot h) rest 1 whole refl

    within : w.slot + (1 + slots_of_entries group) ≤ sizes.slots
    within =
        goes_on w.slot (1 + slots_of_entries group) (omega arith)
        (omega (
          arith,
          ap length whole,
          length-append (group_head_slot h) rest,
          length-append (flat_map entry_slots group) others,
          entries_count sizes rows middle group keeps.entries,
        ))

    good : IsGoodGroup sizes w h (drop 64 (from_slot half w.slot))
    good = record {
      some = keeps.some;
      few = keeps.few;
      room = omega (arith, within);
      first = omega (arith, same_number);
      last = omega (
        arith,
        keeps.numbers,
        same_number,
        ap (numbers_taken w.version (slots_of_entries group)) (further half w.slot 1
            ∙ head_front.behind),
        numbers_many w.version sizes rows middle group others keeps.entries
            a.groups_of_version.0,
      );
    }

    group_found : (turns : ℕ) → Finds turns → sizes.slots ≤ w.slot + suc turns
        → Reaches (suc turns) w (rows_behind rows [] (group ∷ groups))
        (number_behind middle (group ∷ groups))
    group_found turns finds at =
        reached turns w (begun w h) (rows_behind rows group groups)
        (rows_behind rows [] (group ∷ groups))
        (number_behind (middle + length group) groups) (number_behind middle (group ∷ groups))
        (omega (arith, within))
        (group_goes sizes first w (from_slot half w.slot) h (sym a.count) head_front.here head_fits
        good)
        (sym (rows_joined rows group (flat_map (λ group. group) groups)))
        (omega (arith, length-append group (flat_map (λ group. group) groups)))
        (finds (begun w h) group groups behind rows middle (middle + length group)
        (omega (arith, at)) record {
          count = refl;
          phase = inr refl;
          rows_are = a.rows_are;
          number_is = same_number;
          middle_is = refl;
          keep = keeps.entries;
          of_version = a.groups_of_version.0;
          groups_keep = a.groups_keep.1;
          groups_of_version = a.groups_of_version.1;
          bytes = head_front.behind;
          end = a.end;
        })

  -- an entry of the group
  module _ (w : Walked) (d : BareEntry) (entries : List BareEntry)
      (groups : List (List BareEntry)) (behind : List ℕ) (rows : List BareRow)
      (number middle : ℕ) (a : IsAhead w (d ∷ entries) groups behind rows number middle) where
    abbrev entries_behind : List ℕ
    entries_behind = flat_map entry_slots entries ++ (groups_slots middle groups ++ behind)

    entry_whole : from_slot half w.slot ≡ entry_slots d ++ entries_behind
    entry_whole =
        a.bytes ∙ append_assoc (entry_slots d) (flat_map entry_slots entries)
        (groups_slots middle groups ++ behind)

    entry_front : IsFront half w.slot (entry_slots d) entries_behind (slots_of d)
    entry_front = in_front half w.slot (entry_slots d) entries_behind (slots_of d) entry_whole
        (slot_count d a.keep.0)

    entry_some : 1 ≤ w.left
    entry_some = omega (arith, a.count, some_slots d)

    entry_phase : (w.left ≡ 0) ⊎ (w.live ≡ false) → w.live ≡ false
    entry_phase (inl none) = absurd (omega (arith, none, entry_some))
    entry_phase (inr live) = live

    entry_within : w.slot + slots_of d ≤ sizes.slots
    entry_within =
        goes_on w.slot (slots_of d) (some_slots d)
        (omega (
          arith,
          ap length entry_whole,
          length-append (entry_slots d) entries_behind,
          slot_count d a.keep.0,
        ))

    entry_keeps : broken_rule sizes w.rows (w.number + 1) (placed_entry (first + w.slot) d) ≡ None
    entry_keeps =
        sym (placed_rule sizes (w.number + 1) (first + w.slot) w.rows d)
        ∙ ((λ i. broken_rule sizes (a.rows_are i) (a.number_is i + 1) d) ∙ a.keep.1)

    entry_found : (turns : ℕ) → Finds turns → sizes.slots ≤ w.slot + suc turns
        → Reaches (suc turns) w (rows_behind rows (d ∷ entries) groups)
        (number_behind middle groups)
    entry_found turns finds at =
        reached turns w (after_entry first w d) (rows_behind rows (d ∷ entries) groups)
        (rows_behind rows (d ∷ entries) groups) (number_behind middle groups)
        (number_behind middle groups)
        (omega (arith, entry_within, some_slots d))
        (entry_goes sizes first w (from_slot half w.slot) d
        (take (64 * w.left - length (entry_slots d)) entries_behind) entry_some
        (entry_phase a.phase)
        (left_begins (from_slot half w.slot) (entry_slots d) entries_behind (64 * w.left)
        entry_whole (omega (arith, slot_count d a.keep.0, a.count)))
        a.keep.0 a.of_version.0 entry_keeps) refl
        refl
        (finds (after_entry first w d) entries groups behind (rows_after rows d) (number + 1) middle
        (omega (arith, at, some_slots d)) record {
          count = omega (arith, a.count);
          phase = inr (entry_phase a.phase);
          rows_are = placed_after (first + w.slot) w.rows d
              ∙ ap (λ (r : List BareRow). rows_after r d) a.rows_are;
          number_is = omega (arith, a.number_is);
          middle_is = omega (arith, a.middle_is);
          keep = a.keep.2;
          of_version = a.of_version.1;
          groups_keep = a.groups_keep;
          groups_of_version = a.groups_of_version;
          bytes = entry_front.behind;
          end = a.end;
        })

  -- with no turn left the half is at its end
  none_left : (w : Walked) (n : ℕ) → sizes.slots ≤ w.slot + 0 → 1 ≤ n → w.slot + n ≤ sizes.slots
      → ⊥
  none_left w n at some within = omega (arith, at, some, within)

  pub groups_found : (turns : ℕ) → Finds turns
  unfolding walk
  groups_found zero w [] [] behind rows number middle at a = record {
    end = w;
    walked = refl;
    rows_are = a.rows_are;
    number_is = omega (arith, a.number_is, a.middle_is);
  }
  groups_found zero w [] (g ∷ groups) behind rows number middle at a =
      absurd (none_left w (1 + slots_of_entries g) at (omega arith)
      (within w g groups behind rows number middle a))
  groups_found zero w (d ∷ entries) groups behind rows number middle at a =
      absurd (none_left w (slots_of d) at (some_slots d)
      (entry_within w d entries groups behind rows number middle a))
  groups_found (suc turns) w [] [] behind rows number middle at a =
      stopped turns w rows (number_behind middle []) (sym a.count)
      (subst IsEnd (sym a.bytes) a.end) a.rows_are (omega (arith, a.number_is, a.middle_is))
  groups_found (suc turns) w [] (g ∷ groups) behind rows number middle at a =
      group_found w g groups behind rows number middle a turns (groups_found turns) at
  groups_found (suc turns) w (d ∷ entries) groups behind rows number middle at a =
      entry_found w d entries groups behind rows number middle a turns (groups_found turns) at

  -- live rows ahead, and groups after them
  pub record IsAheadLive (w : Walked) (live : List BareRow) (groups : List (List BareEntry))
      (behind : List ℕ) (rows : List BareRow) (base : ℕ) : Type 0 where
    pub count : slots_of_rows live ≡ w.left
    pub phase : w.live ≡ true
    pub rows_are : bare w.rows ≡ rows
    pub base_is : w.number ≡ base
    pub keep : LiveRowsKeep sizes base rows live
    pub of_version : AllByRecursion (RowOfVersion w.version) live
    pub groups_keep : GroupsKeep sizes (rows ++ live) base groups
    pub groups_of_version : AllByRecursion (AllByRecursion (EntryOfVersion w.version)) groups
    pub bytes : from_slot half w.slot
        ≡ flat_map row_slots live ++ (groups_slots base groups ++ behind)
    pub end : IsEnd behind

  abbrev pub FindsLive : ℕ → Type 0
  FindsLive turns =
      (w : Walked) (live : List BareRow) (groups : List (List BareEntry)) (behind : List ℕ)
      (rows : List BareRow) (base : ℕ) → sizes.slots ≤ w.slot + turns
      → IsAheadLive w live groups behind rows base
      → Reaches turns w (rows_after_all (rows ++ live) (flat_map (λ group. group) groups))
      (number_behind base groups)

  module _ (w : Walked) (row : BareRow) (live : List BareRow) (groups : List (List BareEntry))
      (behind : List ℕ) (rows : List BareRow) (base : ℕ)
      (a : IsAheadLive w (row ∷ live) groups behind rows base) where
    abbrev rows_behind_row : List ℕ
    rows_behind_row = flat_map row_slots live ++ (groups_slots base groups ++ behind)

    row_count : length (row_slots row) ≡ 64 * slots_of_row row
    row_count = slot_count (entry.Live row) a.keep.0

    row_some : 1 ≤ slots_of_row row
    row_some = some_slots (entry.Live row)

    row_whole : from_slot half w.slot ≡ row_slots row ++ rows_behind_row
    row_whole =
        a.bytes ∙ append_assoc (row_slots row) (flat_map row_slots live)
        (groups_slots base groups ++ behind)

    row_front : IsFront half w.slot (row_slots row) rows_behind_row (slots_of_row row)
    row_front =
        in_front half w.slot (row_slots row) rows_behind_row (slots_of_row row) row_whole row_count

    row_within : w.slot + slots_of_row row ≤ sizes.slots
    row_within =
        goes_on w.slot (slots_of_row row) row_some
        (omega (
          arith,
          ap length row_whole,
          length-append (row_slots row) rows_behind_row,
          row_count,
        ))

    joined : (rows ++ row ∷ []) ++ live ≡ rows ++ row ∷ live
    joined = append_assoc rows (row ∷ []) live

    row_keeps : broken_live_rule sizes w.number w.rows (placed_row (first + w.slot) row) ≡ None
    row_keeps =
        sym (placed_live_rule sizes w.number (first + w.slot) w.rows row)
        ∙ ((λ i. broken_live_rule sizes (a.base_is i) (a.rows_are i) row) ∙ a.keep.1)

    row_found : (turns : ℕ) → FindsLive turns → sizes.slots ≤ w.slot + suc turns
        → Reaches (suc turns) w
        (rows_after_all (rows ++ row ∷ live) (flat_map (λ group. group) groups))
        (number_behind base groups)
    row_found turns finds at =
        reached turns w (after_row first w row)
        (rows_after_all ((rows ++ row ∷ []) ++ live) (flat_map (λ group. group) groups))
        (rows_after_all (rows ++ row ∷ live) (flat_map (λ group. group) groups))
        (number_behind base groups) (number_behind base groups)
        (omega (arith, row_within, row_some))
        (row_goes sizes first w (from_slot half w.slot) row
        (take (64 * w.left - length (row_slots row)) rows_behind_row)
        (omega (arith, a.count, row_some)) a.phase
        (left_begins (from_slot half w.slot) (row_slots row) rows_behind_row (64 * w.left) row_whole
        (omega (arith, row_count, a.count)))
        a.keep.0 a.of_version.0 row_keeps)
        (ap (λ (r : List BareRow). rows_after_all r (flat_map (λ group. group) groups)) joined) refl
        (finds (after_row first w row) live groups behind (rows ++ row ∷ []) base
        (omega (arith, at, row_some)) record {
          count = omega (arith, a.count);
          phase = a.phase;
          rows_are = placed_more (first + w.slot) w.rows row
              ∙ ap (λ (r : List BareRow). r ++ row ∷ []) a.rows_are;
          base_is = a.base_is;
          keep = a.keep.2;
          of_version = a.of_version.1;
          groups_keep = subst (λ (r : List BareRow). GroupsKeep sizes r base groups) (sym joined)
              a.groups_keep;
          groups_of_version = a.groups_of_version;
          bytes = row_front.behind;
          end = a.end;
        })

  pub live_found : (turns : ℕ) → FindsLive turns
  live_found turns w [] groups behind rows base at a =
      let none : 0 ≡ w.left = a.count in
      let same : rows ++ [] ≡ rows = append-nil rows in
      let r = groups_found turns w [] groups behind rows base base at record {
        count = none;
        phase = inl (sym none);
        rows_are = a.rows_are;
        number_is = a.base_is;
        middle_is = omega arith;
        keep = tt;
        of_version = tt;
        groups_keep =
            subst (λ (r : List BareRow). GroupsKeep sizes r base groups) same a.groups_keep;
        groups_of_version = a.groups_of_version;
        bytes = a.bytes;
        end = a.end;
      } in record {
        end = r.end;
        walked = r.walked;
        rows_are = r.rows_are
            ∙ ap (λ (r : List BareRow). rows_after_all r (flat_map (λ group. group) groups))
            (sym same);
        number_is = r.number_is;
      }
  live_found zero w (row ∷ live) groups behind rows base at a =
      absurd (none_left w (slots_of_row row) at (some_slots (entry.Live row))
      (row_within w row live groups behind rows base a))
  live_found (suc turns) w (row ∷ live) groups behind rows base at a =
      row_found w row live groups behind rows base a turns (live_found turns) at
