-- Halves that a checkpoint renews: what is committed is right in them, and a group that had no room
-- has room there.
-- For `Committer::advance`, `Committer::offer`, `checkpoints_renew` and others.
use Rattle.std.proofs.Common.{◌≡◌, ℕ, ◌+◌, ◌^◌, ◌<◌, ◌≤◌, Bool, true, false, cond, List, []}
use Rattle.std.proofs.Common.{◌∷◌, ◌++◌, length, Some, None, refl, arith}
use Rattle.std.specs.Prelude.{◌&&◌, nat_le, nat_lt, is_none}
use Rattle.std.specs.List.{list_all, flat_map}
use Rattle.std.proofs.lemmas.Bool.{leb-true, and_parts}
use Rattle.std.proofs.lemmas.List.{length-append}
use Rattle.cm_pool.specs.Geometry.{Sizes}
use Rattle.cm_layout.specs.declared.loader_row.LoaderRow.{LoaderRow}
use Rattle.cm_layout.specs.declared.row.Row.TheVariants.{Loader, Class}
use Rattle.cm_layout.specs.declared.entry_rule.EntryRule.TheVariants.{OnRows}
use Rattle.cm_layout.specs.Names.{is_loader_name, slots_of_name}
use Rattle.cm_layout.specs.Rows.{slots_of_row, slots_of_rows, slots_of_entries, number_of}
use Rattle.cm_layout.specs.Rows.{numbers_in, rows_after_all, bare}
use Rattle.cm_layout.specs.Rules.{row_limit, has_room, is_new_loader, broken_live_rule}
use Rattle.cm_layout.specs.Frames.{BareRow, BareEntry, LiveRowsKeep, GroupsKeep, IsGoodHead}
use Rattle.cm_layout.specs.Frames.{IsGoodHalf}
use Rattle.cm_layout.specs.Framing.{open_half}
use Rattle.cm_layout.proofs.{class_keeps, slots-push, newest-rows}
use Rattle.cm_group.specs.Groups.{Handed, IsGroup, slots_taken}
use Rattle.cm_commit.specs.Committed.{Committed, slots_of_groups, end_slot, journal_of}
use Rattle.cm_commit.specs.Checkpoints.{renewed, renewed_framing, is_due}
use Rattle.cm_commit.specs.Guarding.{IsCommitted}
use Rattle.cm_commit.proofs.Slots.{end_is}
use Rattle.cm_commit.proofs.Guards.{rows_live}

-- ---- live rows take at most half of the slots

no_rule : (t : Bool) → cond t None (Some OnRows) ≡ None → t ≡ true
no_rule true h = refl
no_rule false h = absurd (cc)

loader_room : (sizes : Sizes) (base : ℕ) (rows : List BareRow) (r : LoaderRow)
    → broken_live_rule sizes base rows (Loader r) ≡ None → has_room sizes rows (Loader r) ≡ true
loader_room sizes base rows r h =
    let past = nat_le 1 r.number && nat_le r.number base
    && list_all (λ u. nat_lt u r.number) (numbers_in rows) in
    let own = is_loader_name r.name && is_none (number_of r.name rows) in
    let new = is_new_loader sizes rows r in
    (and_parts own (has_room sizes rows (Loader r))
    (and_parts past new (no_rule (past && new) h)).1).1

room_for : (sizes : Sizes) (base : ℕ) (rows : List BareRow) (row : BareRow)
    → broken_live_rule sizes base rows row ≡ None
    → slots_of_rows rows + slots_of_row row ≤ row_limit sizes
room_for sizes base rows (Loader r) h =
    leb-true (slots_of_rows rows + slots_of_name r.name) (row_limit sizes)
    (loader_room sizes base rows r h)
room_for sizes base rows (Class r p) h =
    leb-true (slots_of_rows rows + 1) (row_limit sizes) (class_keeps sizes rows r h).room

live-few : (sizes : Sizes) (base : ℕ) (pre rows : List BareRow)
    → slots_of_rows pre ≤ row_limit sizes → LiveRowsKeep sizes base pre rows
    → slots_of_rows pre + slots_of_rows rows ≤ row_limit sizes
live-few sizes base pre [] few k = omega (arith, few)
live-few sizes base pre (row ∷ rows) few k =
    let push = slots-push pre row in
    let room = room_for sizes base pre row k.1 in
    let rest = live-few sizes base (pre ++ row ∷ []) rows (omega (arith, push, room)) k.2 in
    omega (arith, push, rest)

pub live_few : (sizes : Sizes) (base : ℕ) (rows : List BareRow) → LiveRowsKeep sizes base [] rows
    → slots_of_rows rows ≤ row_limit sizes
live_few sizes base rows k =
    let few = live-few sizes base [] rows (omega arith) k in omega (arith, few)

pub rows_few : (c : Committed) → IsCommitted c → slots_of_rows (bare c.rows) ≤ row_limit c.sizes
rows_few c right =
    live_few c.sizes c.number (bare c.rows)
    (rows_live c.sizes c.framing c.rows c.number right)

-- ---- the number of the last command

numbers_end : (sizes : Sizes) (rows : List BareRow) (n : ℕ) (groups : List (List BareEntry))
    → n ≤ 2 ^ 63 → GroupsKeep sizes rows n groups
    → n + length (flat_map (λ (g : List BareEntry). g) groups) ≤ 2 ^ 63
numbers_end sizes rows n [] small k = omega (arith, small)
numbers_end sizes rows n (group ∷ groups) small k =
    let more = flat_map (λ (g : List BareEntry). g) groups in
    let rest = numbers_end sizes (rows_after_all rows group) (n + length group) groups
    k.0.numbers k.1 in
    omega (arith, rest, length-append group more)

entries_some : (entries : List BareEntry) → 1 ≤ slots_of_entries entries → 1 ≤ length entries
entries_some [] some = absurd (omega (arith, some))
entries_some (e ∷ entries) some = omega arith

-- a half that has groups has entries
groups_some : (sizes : Sizes) (rows : List BareRow) (n : ℕ) (groups : List (List BareEntry))
    → GroupsKeep sizes rows n groups → 1 ≤ slots_of_groups groups
    → 1 ≤ length (flat_map (λ (g : List BareEntry). g) groups)
groups_some sizes rows n [] k some = absurd (omega (arith, some))
groups_some sizes rows n (group ∷ groups) k some =
    let more = flat_map (λ (g : List BareEntry). g) groups in
    let here = entries_some group k.0.some in
    omega (arith, here, length-append group more)

pub number_few : (c : Committed) → IsCommitted c → c.number ≤ 2 ^ 63
number_few c right =
    let few = numbers_end c.sizes c.framing.live c.framing.head.base c.framing.groups
    right.good.head.base right.good.groups in
    omega (arith, few, right.number_is)

-- ---- the renewed halves

-- An epoch may be one above the number: that of a half that a file was made with, or upgraded to,
-- is.
pub good_head : (c : Committed) → IsCommitted c → c.framing.head.epoch ≤ c.number + 1
    → IsGoodHead c.sizes (renewed_framing c).head
good_head c right past =
    let few = rows_few c right in
    let number = number_few c right in
    record {
      fits = record {
        version = omega arith;
        live = omega (arith, few, right.lawful.slots_to);
        epoch = omega (arith, past, number);
        base = omega (arith, number);
      };
      version_from = omega arith;
      version_to = omega arith;
      live = few;
      base = number;
      epoch_from = omega arith;
      epoch_to = omega (arith, past);
    }

-- what is committed is right in them
pub right_renewed : (c : Committed) → IsCommitted c → IsGoodHead c.sizes (renewed_framing c).head
    → IsCommitted (renewed c)
right_renewed c right head =
    let few = rows_few c right in
    let keep = rows_live c.sizes c.framing c.rows c.number right in
    let good : IsGoodHalf c.sizes (open_half (renewed_framing c)) = record {
      head = head;
      count = refl;
      live = keep;
      live_version = newest-rows c.sizes c.number [] (bare c.rows) keep;
      groups = tt;
      groups_version = tt;
      end = tt;
    } in
    record {
      lawful = right.lawful;
      fits = omega (arith, end_is c.sizes (renewed_framing c) good, few, right.lawful.slots_from);
      good = good;
      older = (right.good.head, omega arith);
      rows_are = refl;
      number_is = omega arith;
      apart = right.apart;
    }

-- A group that has no room in the half that counts comes after another one there, so a checkpoint
-- may raise the epoch. The group has room in the half that the checkpoint writes.
pub full_halves_renew : (c : Committed) (group : Handed) → IsCommitted c → IsGroup group
    → is_due (journal_of c) group.entries ≡ true
    → IsGoodHead c.sizes (renewed_framing c).head
    × (end_slot (renewed_framing c) + slots_taken group.entries < c.sizes.slots)
full_halves_renew c group right is due =
    let full : c.sizes.slots ≤ end_slot c.framing + slots_taken group.entries =
    leb-true c.sizes.slots (end_slot c.framing + slots_taken group.entries) due in
    let few = rows_few c right in
    let head = right.good.head in
    let before = groups_some c.sizes c.framing.live c.framing.head.base c.framing.groups
    right.good.groups
    (omega (arith, full, is.few, head.live, right.good.count, right.lawful.slots_from)) in (
      good_head c right
          (omega (arith, before, head.epoch_to, head.version_to, right.number_is)),
      omega (arith, few, is.few, right.lawful.slots_from),
    )
