use Rattle.std.proofs.Common.{◌≡◌, take}
use Rattle.cm_index.specs.Index.{IsIndex}
use Rattle.cm_index.proofs.rows.IndexedRows.index_anew.Given as goal

abbrev pub invariant-loop-at : goal.invariant-loop-at
invariant-loop-at g l =
    record {
      index : IsIndex g.P.Kept.mark g.P.Kept.name (take l.at l.self.slots.items) l.self.index.items;
      room : l.self.index.room ≡ l.fn.self.index.room;
      slots : l.self.slots ≡ l.fn.self.slots;
      places : l.self.places ≡ l.fn.self.places;
    }
