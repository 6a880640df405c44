-- What a committer keeps once it has taken a group.
-- For `Committer::offer`.
use Rattle.std.proofs.Common.{◌≡◌, ℕ, ◌+◌, ◌-◌, Bool, true, false, cond, List, [], ◌++◌}
use Rattle.std.proofs.Common.{length}
use Rattle.std.proofs.Common.{Some, None, refl, sym, ap, subst, ◌∙◌, Option, is_some}
use Rattle.std.specs.List.{AllByRecursion}
use Rattle.cm_disk.specs.Disk.{View}
use Rattle.cm_pool.specs.Geometry.{Sizes}
use Rattle.cm_layout.specs.declared.row.Row.{Row}
use Rattle.cm_layout.specs.Offsets.{root_at}
use Rattle.cm_layout.specs.Rows.{bare, rows_with, rows_after_all}
use Rattle.cm_guards.specs.Stages.{Stage, StagesStand, IsReady, calls_left, gone_through}
use Rattle.cm_guards.proofs.{ready_stands}
use Rattle.cm_rows.specs.Rows.{LiveRows}
use Rattle.cm_group.specs.Groups.{Carried, Handed, IsGroup, entries_in}
use Rattle.cm_commit.specs.Committed.{Committed, journal_of}
use Rattle.cm_commit.specs.Checkpoints.{ready_for, is_due, is_due_at, checkpoint_of, target_of}
use Rattle.cm_commit.specs.GroupPlans.{plan_of, plan_at, whole_roots, roots_to_add, all_writes}
use Rattle.cm_commit.specs.GroupPlans.{roots_of_entries}
use Rattle.cm_commit.specs.Guarding.{ContentsShow, HoldsCommitted}
use Rattle.cm_commit.specs.Keeps.{IsCommitter, IsIdle, IsBusy, StandsDuring, StandsBroken}
use Rattle.cm_commit.specs.Keeps.{roots_then}
use Rattle.cm_commit.specs.Keeps.{rows_then}
use Rattle.cm_commit.specs.Laws.{TellsWords}
use Rattle.cm_commit.specs.Offers.{rows_after_group, committed_after}
use Rattle.cm_commit.specs.States.{Work, Storing, Trimming, CommitterState, TakesGroup, with_taken}
use Rattle.cm_commit.specs.States.{journal_at}
use Rattle.cm_commit.specs.Trims.{roots_of_rows, trim_plan}
use Rattle.cm_commit.proofs.Advancing.{some_behind}
use Rattle.cm_commit.proofs.Counted.{counted-held}
use Rattle.cm_commit.proofs.Counting.{plan_counts}
use Rattle.cm_commit.proofs.Rights.{all-bare}
use Rattle.cm_commit.proofs.Through.{groups_go_through}
use Rattle.cm_commit.proofs.Trims.{trims_stand}
use Rattle.cm_commit.proofs.With.{bare-with}

-- ---- the live rows

pub none_under_way : (o : Option Work) → is_some o ≡ false → o ≡ None
none_under_way None e = refl
none_under_way (Some work) e = absurd (cc)

-- before a group the next rows are the committed ones
pub next_before : {P : Type 0} (f : P → List ℕ) (sizes held : Sizes) (rows : List (Row P))
    (o : Option Work) (next : LiveRows (Unit {0})) → held ≡ sizes → o ≡ None
    → next ≡ record { sizes = sizes; rows = bare (rows_then (rows_with f rows) o) }
    → next ≡ record { sizes = held; rows = bare rows }
next_before f sizes held rows o next same none is =
    let before : next ≡ record { sizes = held; rows = bare (rows_with f rows) } =
    is ∙ (λ k. record {
      sizes = sym same k;
      rows = bare (rows_then (rows_with f rows) (none k));
    }) in
    before ∙ (λ k. record { sizes = held; rows = bare-with f rows k })

-- once it is taken, they are those after it
pub next_after : {P : Type 0} (f : P → List ℕ) (sizes held : Sizes) (rows : List (Row P))
    (carried : List Carried) (old new : LiveRows (Unit {0})) (t : Bool) → held ≡ sizes → t ≡ true
    → old ≡ record { sizes = held; rows = bare rows }
    → new ≡ cond t (record old { rows = rows_after_all old.rows (entries_in carried) }) old
    → new ≡ record { sizes = sizes; rows = bare (rows_after_group (rows_with f rows) carried) }
next_after f sizes held rows carried old new t same taken is then =
    let after : new ≡ record {
      sizes = sizes;
      rows = rows_after_all (bare (rows_with f rows)) (entries_in carried);
    } =
    then
    ∙ ((λ k. cond (taken k) (record (is k) {
      rows = rows_after_all (is k).rows (entries_in carried);
    }) (is k))
    ∙ (λ k. record {
      sizes = same k;
      rows = rows_after_all (sym (bare-with f rows) k) (entries_in carried);
    })) in
    after ∙ (λ k. record { sizes = sizes; rows = sym (all-bare (rows_with f rows) carried) k })

-- ---- the committer, with a trim

module _ {D : Type 0} (view : View D) (s : CommitterState D)
    (sizes : Sizes) (next : LiveRows (Unit {0})) (roots room : ℕ)
    (i : IsCommitter view s sizes next roots room) where
  pub trim_taken : s.broken ≡ false → s.underway ≡ None → (used : ℕ) → used ≡ roots_of_rows s.rows
      → IsCommitter view
      (record s { underway = Some Trimming; left = trim_plan s.sizes used }) sizes next used room
  trim_taken sound none used used_is = record {
    is = i.is;
    beside = record {
      sizes_are = i.beside.sizes_are;
      next_is = i.beside.next_is
          ∙ ap (λ (o : Option Work). record {
            sizes = s.sizes;
            rows = bare (rows_then s.rows o);
          }) none;
      room_is = i.beside.room_is;
    };
    at = record {
      some = λ e. absurd (cc);
      roots_are = used_is;
      stands = subst (λ (b : Bool). StandsBroken b c c (root_at s.sizes used)
          (trim_plan s.sizes used) now (view.unsynced s.disk)) (sym sound)
          (ready_stands (HoldsCommitted c) (ContentsShow c) (root_at s.sizes used)
          (trim_plan s.sizes used) now
          (view.unsynced s.disk) idle.durable
          (subst (λ (n : ℕ). IsReady (HoldsCommitted c) (ContentsShow c) (root_at s.sizes n)
          (trim_plan s.sizes n) now) (sym used_is)
          (trims_stand c now i.is.right idle.shows).ready));
    };
  }
    where
      c : Committed
      c = record { sizes = s.sizes; rows = s.rows; number = s.number; framing = i.is.framing }

      now : List ℕ
      now = view.contents s.disk

      idle : IsIdle c roots s.broken now (view.unsynced s.disk)
      idle =
          subst (λ (o : Option Work). StandsDuring c roots o s.left s.broken now
          (view.unsynced s.disk))
          none
          i.at

-- ---- with a group

module _ {D : Type 0} (view : View D) (s : CommitterState D)
    (sizes : Sizes) (next : LiveRows (Unit {0})) (roots room : ℕ)
    (i : IsCommitter view s sizes next roots room) (group : Handed) where
  abbrev before : Committed
  before = record { sizes = s.sizes; rows = s.rows; number = s.number; framing = i.is.framing }

  -- the stages of its plan
  abbrev pub plan : List Stage
  plan = plan_of (journal_at s) (bare s.rows) roots group.entries

  abbrev pub with_group_underway : CommitterState D
  with_group_underway = record s { underway = Some (Storing group); left = plan }

  module _ (takes : TakesGroup s group) (is : IsGroup group)
      (tells : AllByRecursion TellsWords group.entries) where
    abbrev now : List ℕ
    now = view.contents s.disk

    idle : IsIdle before roots s.broken now (view.unsynced s.disk)
    idle =
        subst (λ (o : Option Work). StandsDuring before roots o s.left s.broken now
        (view.unsynced s.disk))
        takes.idle i.at

    same_plan : plan_of (journal_of before) (bare s.rows) (whole_roots s.sizes (length now))
        group.entries
        ≡ plan
    same_plan =
        λ j. plan_of (sym i.is.journal_is j) (bare s.rows) (sym idle.roots_are j) group.entries

    abbrev after : Committed
    after = committed_after (ready_for before group.entries) group

    abbrev behind : List ℕ
    behind = gone_through plan now

    stands : StagesStand (HoldsCommitted before) (ContentsShow after) (length behind) plan now
        (view.unsynced s.disk)
    stands =
        let through = groups_go_through before group now i.is.right is takes.next i.is.newest tells
        idle.shows in
        subst (λ (l : List Stage). StagesStand (HoldsCommitted before) (ContentsShow after)
        (length (gone_through l now)) l now (view.unsynced s.disk)) same_plan
        (ready_stands (HoldsCommitted before) (ContentsShow after) _ _ now (view.unsynced s.disk)
        idle.durable
        through.ready)

    some_plan : plan ≡ [] → ⊥
    some_plan e = by_test (is_due (journal_at s) group.entries) e
      where
        by_test : (t : Bool)
            → (cond t (checkpoint_of (journal_at s) (bare s.rows)) []
            ++ plan_at (target_of (journal_at s) (bare s.rows) group.entries).geometry
            (target_of (journal_at s) (bare s.rows) group.entries).half
            (target_of (journal_at s) (bare s.rows) group.entries).end
            (target_of (journal_at s) (bare s.rows) group.entries).number roots group.entries ≡ [])
            → ⊥
        by_test true e = some_behind (checkpoint_of (journal_at s) (bare s.rows)) _ _ e
        by_test false e = absurd (cc)

    roots_so : roots_then roots group ≡ whole_roots s.sizes (length behind)
    roots_so =
        let through = groups_go_through before group now i.is.right is takes.next i.is.newest tells
        idle.shows in
        ap (λ (k : ℕ). roots_then k group) idle.roots_are
        ∙ through.roots
        ∙ ap (λ (l : List Stage). whole_roots s.sizes (length (gone_through l now))) same_plan

    busy : IsBusy before roots group plan s.broken now (view.unsynced s.disk)
    busy = record {
      is = is;
      next = takes.next;
      counted = counted-held s.sizes now s.rows idle.shows.records;
      some = some_plan;
      long = length behind;
      roots_are = roots_so;
      stands = subst (λ (b : Bool). StandsBroken b before after (length behind) plan now
          (view.unsynced s.disk)) (sym takes.sound) stands;
    }

    pub taken : (new : LiveRows (Unit {0}))
        → new ≡ record {
          sizes = s.sizes;
          rows = bare (rows_after_group s.rows group.entries);
        }
        → IsCommitter view with_group_underway sizes new roots room
    taken new new_is = record {
      is = i.is;
      beside = record {
        sizes_are = i.beside.sizes_are;
        next_is = new_is;
        room_is = i.beside.room_is;
      };
      at = busy;
    }

    pub as_taken : with_group_underway ≡ with_taken view s group
    as_taken =
        ap (λ (k : ℕ). record s {
          underway = Some (Storing group);
          left = plan_of (journal_at s) (bare s.rows) k group.entries;
        }) idle.roots_are

    pub steps : calls_left plan
        ≡ 4 + roots_to_add s.sizes (length now) (entries_in group.entries)
        + length (all_writes group.entries)
        + cond (is_due_at s.sizes s.end group.entries) 6 0
    steps =
        plan_counts (journal_at s) (bare s.rows) roots group.entries
        ∙ ap (λ (k : ℕ). 4 + (roots_of_entries
        (entries_in group.entries) - k) + length (all_writes group.entries)
        + cond (is_due_at s.sizes s.end group.entries) 6 0) idle.roots_are
