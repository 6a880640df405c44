use Rattle.std.proofs.Common.{◌≡◌, ◌≤◌, take, length, true, vec_capacity}
use Rattle.std.specs.List.{AllByRecursion}
use Rattle.cm_layout.specs.Rows.{bare}
use Rattle.cm_index.specs.Living.{living}
use Rattle.cm_rows.proofs.rows.copy_rows.Given as goal

abbrev pub invariant-loop-slot : goal.invariant-loop-slot
invariant-loop-slot g l =
    record {
      rows : living l.slots.items ≡ bare (living (take l.slot-index l.others));
      live : AllByRecursion (λ s. s.live ≡ true) l.slots.items;
      count : length l.slots.items ≡ length (living (take l.slot-index l.others));
      capacity : vec_capacity l.initial.slots ≤ vec_capacity l.slots;
    }
