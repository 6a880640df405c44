use Rattle.std.proofs.Common.{◌≡◌, ◌<◌, ◌+◌, ◌-◌, ◌*◌, ◌^◌, length, min}
use Rattle.cm_record_layout.specs.Layout.{attribute_runs}
use Rattle.cm_record_writing.proofs.places.attribute_words.Given as goal

abbrev pub invariant-loop-attribute : goal.invariant-loop-attribute
invariant-loop-attribute l =
    let rest = l.rest in
    record {
      small : l.total < 2 ^ 64;
      total : min (l.total + 2 * length rest + length (attribute_runs rest)) (2 ^ 64 - 1)
          ≡ min (2 * length l.these + length (attribute_runs l.these)) (2 ^ 64 - 1);
    }

abbrev pub decreases-loop-attribute : goal.decreases-loop-attribute
decreases-loop-attribute l = length l.rest
