-- The records of a group, written one after another: the records of all rows after it are in their
-- places, and nothing that is committed is touched.
-- For `Committer::advance`, `Committer::images`, `Committer::offer` and others.
use Rattle.std.proofs.Common.{◌≡◌, ℕ, ◌+◌, ◌≤◌}
use Rattle.std.proofs.Common.{List, [], ◌∷◌, length, sym, ap, subst, ◌∙◌, arith}
use Rattle.std.specs.Prelude.{max, None}
use Rattle.std.specs.List.{AllByRecursion}
use Rattle.cm_record_layout.specs.Packing.{word_bytes}
use Rattle.cm_disk.specs.Calls.{overwritten}
use Rattle.cm_pool.specs.Geometry.{Sizes}
use Rattle.cm_layout.specs.declared.row.Row.{Row}
use Rattle.cm_layout.specs.declared.row.Row.TheVariants.{Loader, Class}
use Rattle.cm_layout.specs.declared.entry.Entry.{Entry}
use Rattle.cm_layout.specs.declared.entry.Entry.TheVariants as entry
use Rattle.cm_layout.specs.Offsets.{root_at, record_at}
use Rattle.cm_layout.specs.Rows.{bare, rows_after}
use Rattle.cm_layout.specs.Rules.{broken_rule}
use Rattle.cm_layout.specs.Frames.{bare_entry}
use Rattle.cm_guards.specs.Plans.{Write, written}
use Rattle.cm_guards.proofs.{overwritten_size}
use Rattle.cm_group.specs.Groups.{Carried, entries_in, records_of}
use Rattle.cm_commit.specs.Offers.{filled, HasRecords, MayJoin, MayJoinAll}
use Rattle.cm_commit.specs.Offers.{rows_after_group}
use Rattle.cm_commit.specs.GroupPlans.{writes_of, all_writes, record_writes}
use Rattle.cm_commit.specs.GroupPlans.{roots_of_entry, roots_of_entries}
use Rattle.cm_commit.specs.Laws.{AreTold, TellsWords}
use Rattle.cm_commit.proofs.Places.{ends_in_root}
use Rattle.cm_commit.proofs.Writing.{written-append}
use Rattle.cm_commit.proofs.Held.{HoldRows, hold-append, hold-without, hold-without-all}
use Rattle.cm_commit.proofs.Counted.{counted-held}
use Rattle.cm_commit.proofs.MovedRecords.{move-keeps, move-holds}
use Rattle.cm_commit.proofs.Records.{class_inside, record-leaves, record-stands, roots-mono}
use Rattle.cm_commit.proofs.Records.{writes-append}
use Rattle.cm_commit.proofs.Rights.{AreKept, kept-after, rule-filled}

-- ---- an entry

-- what an entry's record leaves: no fewer bytes, and the rows' records after it in their places
pub record Stand (sizes : Sizes) (rows : List (Row (List ℕ))) (old new : List ℕ) : Type 0 where
  pub longer : length old ≤ length new
  pub held : HoldRows sizes new rows

entry-stands : (sizes : Sizes) (n : ℕ) (committed rows : List (Row (List ℕ))) (c : Carried)
    (contents : List ℕ) → AreKept sizes n rows → MayJoin sizes committed rows n c → TellsWords c
    → root_at sizes (roots_of_entry (bare_entry c.entry)) ≤ length contents
    → HoldRows sizes contents rows
    → Stand sizes (rows_after rows (filled c)) contents
    (written (record_writes sizes (writes_of c.entry c.moved)) contents)
entry-stands sizes n committed rows c contents kept joins tells long held =
    by_entry c.entry c.moved (rule-filled sizes rows (n + 1) c joins.follows.keeps) joins.records
    tells long
  where
    by_entry : (e : Entry (List ℕ)) (moved : List (List ℕ))
        → broken_rule sizes (bare rows) (n + 1) (bare_entry e) ≡ None → HasRecords rows e moved
        → AllByRecursion AreTold (records_of e moved)
        → root_at sizes (roots_of_entry (bare_entry e)) ≤ length contents
        → Stand sizes (rows_after rows e) contents
        (written (record_writes sizes (writes_of e moved)) contents)
    by_entry (entry.Live (Loader r)) moved keeps has back roots = record {
      longer = omega arith;
      held = hold-append sizes contents rows (Loader r ∷ []) held (tt, tt);
    }
    by_entry (entry.Live (Class r words)) moved keeps has back roots =
        let place = class_inside sizes rows n r keeps in
        let at = record_at sizes r.place in
        let after = overwritten at (word_bytes words) contents in
        let ends = ends_in_root sizes r.place place.0 in
        let size = overwritten_size at (word_bytes words) contents (omega (arith, ends, roots)) in
        record {
          longer = omega (arith, size);
          held = hold-append sizes after rows (Class r words ∷ [])
              (record-leaves sizes n rows r words contents kept place.0 place.1 has.0 roots held)
              (record-stands sizes r words contents place.0 has.0 back.0 roots, tt);
        }
    by_entry (entry.Unload e) moved keeps has back roots = record {
      longer = omega arith;
      held = hold-without sizes contents e.loader rows held;
    }
    by_entry (entry.UnloadAll e) moved keeps has back roots = record {
      longer = omega arith;
      held = hold-without-all sizes contents e.loaders rows held;
    }
    by_entry (entry.Move e) moved keeps has back roots =
        let holds = move-holds sizes n rows e moved contents kept
        (move-keeps sizes rows (n + 1) e keeps) (counted-held sizes contents rows held) has.1 back
        roots held in
        record { longer = holds.0; held = holds.1 }

-- ---- all of them

pub records-stand : (sizes : Sizes) (n : ℕ) (committed rows : List (Row (List ℕ)))
    (carried : List Carried) (contents : List ℕ) → AreKept sizes n rows
    → MayJoinAll sizes committed rows n carried → AllByRecursion TellsWords carried
    → root_at sizes (roots_of_entries (entries_in carried)) ≤ length contents
    → HoldRows sizes contents rows
    → Stand sizes (rows_after_group rows carried) contents
    (written (record_writes sizes (all_writes carried)) contents)
records-stand sizes n committed rows [] contents kept joins tells long held =
    record { longer = omega arith; held = held }
records-stand sizes n committed rows (c ∷ carried) contents kept joins tells long held =
    let es = entries_in carried in
    let own = roots_of_entry (bare_entry c.entry) in
    let all = max own (roots_of_entries es) in
    let here = roots-mono sizes own all (omega arith) in
    let there = roots-mono sizes (roots_of_entries es) all (omega arith) in
    let writes = record_writes sizes (writes_of c.entry c.moved) in
    let one = entry-stands sizes n committed rows c contents kept joins.0 tells.0
    (omega (arith, here, long)) held in
    let middle = written writes contents in
    let rest = records-stand sizes (n + 1) committed (rows_after rows (filled c)) carried middle
    (kept-after sizes committed rows n c kept joins.0) joins.1 tells.1
    (omega (arith, there, long, one.longer)) one.held in
    let same = ap (λ (l : List Write). written l contents)
    (writes-append sizes (writes_of c.entry c.moved) (all_writes carried))
    ∙ written-append writes (record_writes sizes (all_writes carried)) contents in
    record {
      longer = subst (λ (l : List ℕ). length contents ≤ length l) (sym same)
          (omega (arith, one.longer, rest.longer));
      held = subst (λ (l : List ℕ). HoldRows sizes l (rows_after_group rows (c ∷ carried)))
          (sym same)
          rest.held;
    }
