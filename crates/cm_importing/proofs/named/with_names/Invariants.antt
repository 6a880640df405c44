use Rattle.std.proofs.Common.{◌≡◌, ◌+◌, ◌≤◌, ◌++◌, length, map, vec_capacity}
use Rattle.cm_importing.specs.declared.named.NamedClass.{NamedClass}
use Rattle.cm_importing.proofs.named.with_names.Given as goal

abbrev pub invariant-classes : goal.invariant-classes
invariant-classes l =
    (length l.named.items + length l.class-iterator.rest.items ≤ vec_capacity l.named)
    × (map (λ (n : NamedClass). n.class) l.named.items ≡ l.yielded)
    × (l.yielded ++ l.class-iterator.rest.items ≡ l.fn.classes.items)
