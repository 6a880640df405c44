-- Facts about the definitions themselves.
use Rattle.std.specs.Prelude.{◌≡◌, ℕ, ◌+◌, ◌-◌, false, List, ◌++◌, length, get_or, slice_set, None}
use Rattle.std.specs.Prelude.{if◌then◌else◌, ◌==◌, is_some}
use Rattle.std.specs.List.{AllByRecursion}
use Rattle.cm_record_layout.specs.Packing.{packed_into, word_bytes}
use Rattle.cm_disk.specs.Disk.{is_among}
use Rattle.cm_layout.specs.Offsets.{half_size, half_at, root_at}
use Rattle.cm_layout.specs.Slots.{open_gate}
use Rattle.cm_layout.specs.Rows.{bare}
use Rattle.cm_layout.specs.Frames.{IsGoodHead}
use Rattle.cm_layout.specs.Framing.{part, other_half, needs}
use Rattle.cm_guards.specs.Guards.{Guards, IsBounded}
use Rattle.cm_guards.specs.Gates.{Turns}
use Rattle.cm_guards.specs.Plans.{Write, CanWrite, written}
use Rattle.cm_guards.specs.Stages.{Stage, IsReady, calls_left, gone_through}
use Rattle.cm_group.specs.Groups.{Carried, Handed, IsGroup, entries_in, records_of}
use Rattle.cm_commit.specs.Committed.{Committed, journal_of}
use Rattle.cm_commit.specs.Checkpoints.{renewed, renewed_framing, ready_for, is_due, half_write}
use Rattle.cm_commit.specs.Checkpoints.{checkpoint_plan}
use Rattle.cm_commit.specs.Offers.{IsNext, MayCome, committed_after}
use Rattle.cm_commit.specs.GroupPlans.{group_writes, gate_at, roots_to_add, plan_of, whole_roots}
use Rattle.cm_commit.specs.GroupPlans.{all_writes}
use Rattle.cm_commit.specs.Guarding.{IsCommitted, CountsNewest, ContentsShow, HoldsCommitted}
use Rattle.cm_commit.specs.Guarding.{shut_other, guard_of}
use Rattle.cm_commit.specs.Keeps.{roots_then}
use Rattle.cm_commit.specs.Trims.{roots_of_rows, trim_plan}

-- A group takes four device calls, one more for each root by which the file grows, one more for
-- each record, and six more for a checkpoint if the half that counts has no room for it.
abbrev pub PlansHaveSteps : Type 0
PlansHaveSteps =
    (c : Committed) (len : ℕ) (carried : List Carried)
    → calls_left (plan_of (journal_of c) (bare c.rows) (whole_roots c.sizes len) carried)
    ≡ 4 + roots_to_add c.sizes len (entries_in carried) + length (all_writes carried)
    + (if is_due (journal_of c) carried then 6 else 0)

-- What is committed rests on what is guarded, which lies within the bytes that it needs.
pub record IsGuarded (c : Committed) : Type 0 where
  pub guards : Guards (guard_of c) (ContentsShow c)
  pub bounded : IsBounded (guard_of c)

abbrev pub CommittedIsGuarded : Type 0
CommittedIsGuarded = (c : Committed) → IsCommitted c → IsGuarded c

-- words can be recovered from their bytes
abbrev pub AreTold : List ℕ → Type 0
AreTold words = packed_into (length words) (word_bytes words) ≡ words

-- the words of each record that an entry writes can be recovered from their bytes
abbrev pub TellsWords : Carried → Type 0
TellsWords c = AllByRecursion AreTold (records_of c.entry c.moved)

-- A group's writes touch nothing that is guarded. Once they are made, the byte of its gate turns
-- what is committed into what is committed after it: as long as another byte is there, nothing has
-- changed.
pub record IsTurned (c : Committed) (group : Handed) (contents : List ℕ) : Type 0 where
  pub can : CanWrite (guard_of c) (group_writes c (length contents) group.entries) (length contents)
  pub turns : Turns (ContentsShow c) (ContentsShow (committed_after c group)) (gate_at c) open_gate
      (written (group_writes c (length contents) group.entries) contents)
  pub next : IsCommitted (committed_after c group)

abbrev pub GroupsTurn : Type 0
GroupsTurn =
    (c : Committed) (group : Handed) (contents : List ℕ) → IsCommitted c → IsGroup group
    → IsNext c group → CountsNewest c → AllByRecursion TellsWords group.entries
    → ContentsShow c contents → IsTurned c group contents

-- ---- checkpoints

-- the gate of the half that doesn't count, and what a checkpoint writes after it
abbrev pub other_gate : Committed → ℕ
other_gate c = half_at c.sizes (other_half c.framing.counting)

abbrev pub renewed_write : Committed → Write
renewed_write c =
    half_write c.sizes (other_half c.framing.counting) (renewed_framing c).head (bare c.rows)

-- b has the bytes of a, except in a range
pub record DiffersWithin (at count : ℕ) (a b : List ℕ) : Type 0 where
  pub size : length b ≡ length a
  pub same : (i : ℕ) → is_among at count i ≡ false → get_or b i 0 ≡ get_or a i 0

-- While the other half's gate is shut, whatever follows it counts for nothing.
abbrev pub ShutHalvesMayChange : Type 0
ShutHalvesMayChange =
    (c : Committed) (a b : List ℕ) → IsCommitted c → c.framing.older ≡ None
    → DiffersWithin (other_gate c + 1) (half_size c.sizes - 1) a b → ContentsShow c a
    → ContentsShow c b

-- If a byte that doesn't open it is at that gate, what is committed stays. So the half that doesn't
-- count may be shut.
pub record IsShut (c : Committed) (contents : List ℕ) (byte : ℕ) : Type 0 where
  pub right : IsCommitted (shut_other c)
  pub shows : ContentsShow (shut_other c) (slice_set contents (other_gate c) byte)

abbrev pub OtherHalvesShut : Type 0
OtherHalvesShut =
    (c : Committed) (contents : List ℕ) (byte : ℕ) → IsCommitted c → ContentsShow c contents
    → (byte ≡ open_gate → ⊥) → IsShut c contents byte

-- The byte at that gate says whether the half is open.
abbrev pub OthersAreTold : Type 0
OthersAreTold =
    (c : Committed) (contents : List ℕ) → ContentsShow c contents
    → is_some c.framing.older ≡ (get_or contents (other_gate c) 0 == open_gate)

-- Once the other half is written after its shut gate, with the live rows in order, the number as
-- its base and an epoch one greater, the open gate's byte makes it the half that counts, for the
-- same rows and the same number.
pub record MayOpenGate (c : Committed) (contents : List ℕ) : Type 0 where
  pub right : IsCommitted (renewed c)
  pub shows : ContentsShow (renewed c) (slice_set contents (other_gate c) open_gate)

abbrev pub WrittenHalvesOpen : Type 0
WrittenHalvesOpen =
    (c : Committed) (contents : List ℕ) → IsCommitted c
    → IsGoodHead c.sizes (renewed_framing c).head → ContentsShow (shut_other c) contents
    → part (renewed_write c).at (length (renewed_write c).bytes) contents ≡ (renewed_write c).bytes
    → MayOpenGate c contents

-- A checkpoint leads to the same cache in renewed halves, and leaves it at each moment; whatever
-- stages can follow there can follow the checkpoint.
pub record IsRenewed (c : Committed) (contents : List ℕ) : Type 0 where
  pub right : IsCommitted (renewed c)
  pub shows : ContentsShow (renewed c) (gone_through (checkpoint_plan c) contents)
  pub size : length (gone_through (checkpoint_plan c) contents) ≡ length contents
  pub before : (next : Committed) (long : ℕ) (stages : List Stage)
      → IsReady (HoldsCommitted c) (ContentsShow next) long stages
      (gone_through (checkpoint_plan c) contents)
      → IsReady (HoldsCommitted c) (ContentsShow next) long (checkpoint_plan c ++ stages) contents

abbrev pub CheckpointsRenew : Type 0
CheckpointsRenew =
    (c : Committed) (contents : List ℕ) → IsCommitted c
    → IsGoodHead c.sizes (renewed_framing c).head → ContentsShow c contents → IsRenewed c contents

-- ---- a group, with a checkpoint if it has no room

-- The stages lead from what is committed to what is committed after the group, and leave what is
-- committed alone until the group's gate is written.
pub record MayCommit (c : Committed) (group : Handed) (contents : List ℕ)
    (plan : List Stage) : Type 0 where
  pub ready : IsReady (HoldsCommitted c)
      (ContentsShow (committed_after (ready_for c group.entries) group))
      (length (gone_through plan contents)) plan contents
  pub right : IsCommitted (committed_after (ready_for c group.entries) group)
  pub roots : roots_then (whole_roots c.sizes (length contents)) group
      ≡ whole_roots c.sizes (length (gone_through plan contents))

abbrev pub GroupsGoThrough : Type 0
GroupsGoThrough =
    (c : Committed) (group : Handed) (contents : List ℕ) → IsCommitted c → IsGroup group
    → MayCome c.sizes c.rows c.number group → CountsNewest c
    → AllByRecursion TellsWords group.entries → ContentsShow c contents
    → MayCommit c group contents
    (plan_of (journal_of c) (bare c.rows) (whole_roots c.sizes (length contents)) group.entries)

-- ---- a trim

-- What rows need ends with the last root that they use. A cut there leaves what is committed at
-- each moment, and the file then has exactly the roots that rows use.
pub record MayTrim (c : Committed) (contents : List ℕ) : Type 0 where
  pub needed : needs c.sizes c.rows ≡ root_at c.sizes (roots_of_rows c.rows)
  pub ready : IsReady (HoldsCommitted c) (ContentsShow c) (root_at c.sizes (roots_of_rows c.rows))
      (trim_plan c.sizes (roots_of_rows c.rows)) contents
  pub roots : whole_roots c.sizes (root_at c.sizes (roots_of_rows c.rows)) ≡ roots_of_rows c.rows

abbrev pub TrimsStand : Type 0
TrimsStand =
    (c : Committed) (contents : List ℕ) → IsCommitted c → ContentsShow c contents
    → MayTrim c contents
