-- Where the journal continues, by what is committed, and where a group is written.
-- For `Committer::advance`, `Committer::offer`, `target_of` and others.
use Rattle.std.proofs.Common.{◌≡◌, ◌+◌, Bool, true, false, cond, List, [], ◌∷◌, ◌++◌, refl}
use Rattle.std.proofs.Common.{arith}
use Rattle.cm_layout.specs.Rows.{bare, slots_of_rows, slots_of_entries}
use Rattle.cm_layout.specs.Frames.{BareRow, BareEntry}
use Rattle.cm_layout.specs.Framing.{Framing}
use Rattle.cm_group.specs.Groups.{Carried}
use Rattle.cm_commit.specs.declared.journal_end.JournalEnd.{JournalEnd}
use Rattle.cm_commit.specs.Committed.{Committed, journal_of, end_slot, with_group, slots_of_groups}
use Rattle.cm_commit.specs.Checkpoints.{is_due, renewed_journal, target_of, ready_for}
use Rattle.cm_commit.specs.Checkpoints.{renewed_framing}
use Rattle.cm_commit.specs.Guarding.{IsCommitted}
use Rattle.cm_commit.specs.Steps.{FitsHalf}
use Rattle.cm_commit.proofs.Guards.{rows_live}
use Rattle.cm_commit.proofs.NewHalves.{rows_few, number_few}
use Rattle.cm_commit.proofs.Slots.{live_count}

-- the half that a checkpoint writes has room for the rows
pub half_fits : (c : Committed) → IsCommitted c → FitsHalf (journal_of c) (bare c.rows)
half_fits c right =
    let head = right.good.head in
    let number = number_few c right in
    record {
      lawful = right.lawful;
      few = rows_few c right;
      size = live_count c.sizes c.number [] (bare c.rows)
          (rows_live c.sizes c.framing c.rows c.number right);
      epoch = omega (arith, head.epoch_to, head.version_to, head.base);
      number = omega (arith, number);
    }

-- ---- where a group is written

-- a group is written where the halves that have room for it end
pub target_is : (c : Committed) (carried : List Carried)
    → target_of (journal_of c) (bare c.rows) carried ≡ journal_of (ready_for c carried)
target_is c carried = by_test (is_due (journal_of c) carried)
  where
    by_test : (t : Bool)
        → cond t (renewed_journal (journal_of c) (bare c.rows)) (journal_of c)
        ≡ journal_of (record c { framing = cond t (renewed_framing c) c.framing })
    by_test true =
        let end : 1 + slots_of_rows (bare c.rows) ≡ 1 + slots_of_rows (bare c.rows) + 0 =
        omega arith in
        λ i. record (journal_of (record c { framing = renewed_framing c })) { end = end i }
    by_test false = refl

-- a group is written in the same region, after the same command
pub target_stays : (j : JournalEnd) (rows : List BareRow) (carried : List Carried)
    → ((target_of j rows carried).geometry ≡ j.geometry)
    × ((target_of j rows carried).number ≡ j.number)
target_stays j rows carried = by_test (is_due j carried)
  where
    by_test : (t : Bool) → ((cond t (renewed_journal j rows) j).geometry ≡ j.geometry)
        × ((cond t (renewed_journal j rows) j).number ≡ j.number)
    by_test true = (refl, refl)
    by_test false = (refl, refl)

slots-append : (groups : List (List BareEntry)) (group : List BareEntry)
    → slots_of_groups (groups ++ group ∷ [])
    ≡ slots_of_groups groups
    + (1 + slots_of_entries group)
slots-append [] group = omega arith
slots-append (g ∷ groups) group = omega (arith, slots-append groups group)

-- the end of the half after the group
pub end_after : (f : Framing) (group : List BareEntry)
    → end_slot (with_group f group)
    ≡ end_slot f + 1 + slots_of_entries group
end_after f group = omega (arith, slots-append f.groups group)
