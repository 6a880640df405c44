use Rattle.std.proofs.Common.{◌≡◌, ◌≤◌, take, vec_capacity}
use Rattle.cm_rows.specs.Loaders.{numbers_of_loaders, items}
use Rattle.cm_rows.specs.Links.{AreLinked, last_places}
use Rattle.cm_rows.proofs.links.relink.Given as goal

abbrev pub invariant-loop-at : goal.invariant-loop-at
invariant-loop-at g l =
    record {
      linked : AreLinked (take l.at l.slots) l.before.items;
      newest : l.newest.items
          ≡ last_places (take l.at l.slots) (numbers_of_loaders (items l.loaders));
      capacity : vec_capacity l.fn.before ≤ vec_capacity l.before;
      newest_capacity : vec_capacity l.fn.newest ≤ vec_capacity l.newest;
    }
