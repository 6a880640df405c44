-- The slots of the half that counts, with one more group.
-- For `Committer::advance`, `Committer::images`, `Committer::offer` and others.
use Rattle.std.proofs.Common.{◌≡◌, ℕ, ◌+◌, ◌*◌, List, [], ◌∷◌, ◌++◌, length, refl, sym, ap}
use Rattle.std.proofs.Common.{◌∙◌, arith, append_assoc, append-nil}
use Rattle.std.specs.List.{flat_map}
use Rattle.std.proofs.lemmas.List.{length-append}
use Rattle.cm_pool.specs.Geometry.{Sizes}
use Rattle.cm_layout.specs.declared.entry.Entry.TheVariants as entry
use Rattle.cm_layout.specs.Slots.{half_head_slot, group_head_slot, row_slots}
use Rattle.cm_layout.specs.Slots.{entry_slots, open_gate}
use Rattle.cm_layout.specs.Rows.{slots_of_rows, slots_of_entries, rows_after, rows_after_all}
use Rattle.cm_layout.specs.Frames.{BareRow, BareEntry, LiveRowsKeep, EntriesKeep, GroupsKeep}
use Rattle.cm_layout.specs.Frames.{IsGoodHalf, group_slots, groups_slots}
use Rattle.cm_layout.specs.Framing.{Framing, used_bytes, used_size, open_half}
use Rattle.cm_layout.proofs.{slot_count}
use Rattle.cm_commit.specs.Committed.{slots_of_groups, end_slot, with_group}
use Rattle.cm_commit.specs.GroupPlans.{slots_behind_gate}

-- ---- how many bytes they take

pub live_count : (sizes : Sizes) (base : ℕ) (pre rows : List BareRow)
    → LiveRowsKeep sizes base pre rows
    → length (flat_map row_slots rows) ≡ 64 * slots_of_rows rows
live_count sizes base pre [] k = refl
live_count sizes base pre (row ∷ rows) k =
    omega (
      arith,
      live_count sizes base (pre ++ row ∷ []) rows k.2,
      slot_count (entry.Live row) k.0,
      length-append (row_slots row) (flat_map row_slots rows),
    )

pub entries_count : (sizes : Sizes) (rows : List BareRow) (n : ℕ) (es : List BareEntry)
    → EntriesKeep sizes rows n es
    → length (flat_map entry_slots es) ≡ 64 * slots_of_entries es
entries_count sizes rows n [] k = refl
entries_count sizes rows n (e ∷ es) k =
    omega (
      arith,
      entries_count sizes (rows_after rows e) (n + 1) es k.2,
      slot_count e k.0,
      length-append (entry_slots e) (flat_map entry_slots es),
    )

pub group_count : (sizes : Sizes) (rows : List BareRow) (n : ℕ) (group : List BareEntry)
    → EntriesKeep sizes rows n group → length (group_slots n group) ≡ 64 + 64 * slots_of_entries
    group
group_count sizes rows n group k =
    omega (
      arith,
      entries_count sizes rows n group k,
      length-append
          (group_head_slot (record { count = slots_of_entries group; first = n + 1 }))
          (flat_map entry_slots group),
    )

groups_count : (sizes : Sizes) (rows : List BareRow) (n : ℕ) (groups : List (List BareEntry))
    → GroupsKeep sizes rows n groups
    → length (groups_slots n groups) ≡ 64 * slots_of_groups groups
groups_count sizes rows n [] k = refl
groups_count sizes rows n (group ∷ groups) k =
    omega (
      arith,
      groups_count sizes (rows_after_all rows group) (n + length group) groups k.1,
      group_count sizes rows n group k.0.entries,
      length-append (group_slots n group) (groups_slots (n + length group) groups),
    )

-- the half ends where its last slot does
pub end_is : (sizes : Sizes) (f : Framing) → IsGoodHalf sizes (open_half f)
    → used_size f ≡ 64 * end_slot f
unfolding used_bytes
end_is sizes f good =
    let head = half_head_slot f.head in
    let live = flat_map row_slots f.live in
    let groups = groups_slots f.head.base f.groups in
    omega (
      arith,
      length-append head (live ++ groups),
      length-append live groups,
      live_count sizes f.head.base [] f.live good.live,
      groups_count sizes f.live f.head.base f.groups good.groups,
    )

-- ---- one more group

-- the last number of groups whose first is the one after n
pub last_number : ℕ → List (List BareEntry) → ℕ
last_number n groups = n + length (flat_map (λ (g : List BareEntry). g) groups)

groups-more : (n : ℕ) (groups : List (List BareEntry)) (group : List BareEntry)
    → groups_slots n (groups ++ group ∷ [])
    ≡ groups_slots n groups ++ group_slots (last_number n groups) group
unfolding last_number
groups-more n [] group =
    append-nil (group_slots n group) ∙ ap (λ (m : ℕ). group_slots m group) (omega arith)
groups-more n (g ∷ groups) group =
    let more = flat_map (λ (h : List BareEntry). h) groups in
    let number : n + length g + length more ≡ n + length (g ++ more) =
    omega (arith, length-append g more) in
    ap (λ (l : List ℕ). group_slots n g ++ l)
    (groups-more (n + length g) groups group
    ∙ ap (λ (m : ℕ). groups_slots (n + length g) groups ++ group_slots m group) number)
    ∙ sym (append_assoc (group_slots n g) (groups_slots (n + length g) groups)
    (group_slots (last_number n (g ∷ groups)) group))

pub used-more : (f : Framing) (n : ℕ) (group : List BareEntry)
    → n ≡ f.head.base + length (flat_map (λ (g : List BareEntry). g) f.groups)
    → used_bytes (with_group f group) ≡ used_bytes f ++ group_slots n group
unfolding used_bytes last_number
used-more f n group e =
    let head = half_head_slot f.head in
    let live = flat_map row_slots f.live in
    let groups = groups_slots f.head.base f.groups in
    let last : last_number f.head.base f.groups ≡ n = sym e in
    ap (λ (l : List ℕ). head ++ (live ++ l))
    (groups-more f.head.base f.groups group
    ∙ ap (λ (m : ℕ). groups ++ group_slots m group) last)
    ∙ (ap (λ (l : List ℕ). head ++ l) (sym (append_assoc live groups (group_slots n group)))
    ∙ sym (append_assoc head (live ++ groups) (group_slots n group)))

-- after its gate a group has what its plan writes there
pub behind-gate : (n : ℕ) (group : List BareEntry)
    → group_slots n group ≡ open_gate ∷ slots_behind_gate n group
behind-gate n group = refl
