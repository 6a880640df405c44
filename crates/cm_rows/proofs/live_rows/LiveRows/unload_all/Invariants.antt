use Rattle.std.proofs.Common.{◌≡◌, true, drop}
use Rattle.std.specs.Prelude.{◌&&◌}
use Rattle.cm_layout.specs.Rows.{without_loaders}
use Rattle.cm_layout.specs.Rules.{differ, are_live}
use Rattle.cm_rows.proofs.live_rows.LiveRows.unload_all.Given as goal

abbrev pub invariant-loop-number : goal.invariant-loop-number
invariant-loop-number g l =
    let left = drop l.number-index l.numbers in
    record {
      sizes : l.self.sizes ≡ l.initial.self.sizes;
      rows : without_loaders left l.self.rows ≡ without_loaders l.numbers l.initial.self.rows;
      live : (differ left && are_live left l.self.rows) ≡ true;
    }
