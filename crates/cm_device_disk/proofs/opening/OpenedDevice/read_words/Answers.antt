use Rattle.std.proofs.Common.{length, sym, ◌∙◌}
use Rattle.std.proofs.lemmas.List.Elements.{All-from_recursion}
use Rattle.cm_device_disk.specs.Runs.{EndsInLimit}
use Rattle.cm_device_disk.proofs.RunBytes.{ranges_within}
use Rattle.cm_device_disk.proofs.opening.OpenedDevice.read_words.Goals as goal

pub read_runs-requires : goal.read_runs-requires
read_runs-requires g c =
    let f = c.args.self in
    All-from_recursion EndsInLimit c.args.ranges.now
    (ranges_within (length f.beginning.items) f.len c.args.ranges.now
    (sym c.are_in_order.ensures ∙ c.if-not-are_in_order.false) f.is_within_limit)
