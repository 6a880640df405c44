use Rattle.std.proofs.Common.{◌≡◌, ◌*◌, ◌-◌, ◌&&◌, take, drop, length}
use Rattle.std.specs.List.{list_all}
use Rattle.cm_descriptors.specs.Marks.{not_both_slashes, neighbours}
use Rattle.cm_descriptors.proofs.joined.many_are_apart.Given as goal

abbrev pub invariant-loop-place : goal.invariant-loop-place
invariant-loop-place l =
    l.apart ≡ list_all not_both_slashes (drop (length l.bytes - 17) (neighbours l.bytes))
    && list_all not_both_slashes (take (16 * l.place) (neighbours l.bytes))
