use Rattle.std.proofs.Common.{◌≡◌, drop}
use Rattle.std.specs.List.{list_all}
use Rattle.cm_layout.specs.Frames.{bare_entry}
use Rattle.cm_commit.specs.Offers.{writes_apart}
use Rattle.cm_commit.proofs.joining.all_write_apart.Given as goal

abbrev pub invariant-loop-carried : goal.invariant-loop-carried
invariant-loop-carried l =
    record {
      same : l.rows ≡ l.initial.rows;
      apart : list_all (λ c. writes_apart l.initial.rows.rows (bare_entry c.entry)) l.entries
          ≡ list_all (λ c. writes_apart l.initial.rows.rows (bare_entry c.entry))
          (drop l.carried-index l.entries);
    }
