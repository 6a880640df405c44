use Rattle.std.proofs.Common.{◌≡◌, map}
use Rattle.cm_maintenance.proofs.gathered.classes_in_order.Given as goal

abbrev pub invariant-loop-class : goal.invariant-loop-class
invariant-loop-class l = l.list.items ≡ map (λ c. c.now) l.yielded
