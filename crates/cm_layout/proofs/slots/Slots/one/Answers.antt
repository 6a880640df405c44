use Rattle.std.proofs.Common.{◌++◌, refl, ap}
use Rattle.cm_layout.specs.Zeros.{zeros}
use Rattle.cm_layout.proofs.SlotsJoined.{of_one}
use Rattle.cm_layout.proofs.slots.Slots.one.Goals as goal

pub invariant_of-result : goal.invariant_of-result
invariant_of-result c =
    (of_one c.args.slot.now (zeros 64) _ c.told-slot refl
    (ap (λ l. l ++ zeros 64) c.copy_from_slice.ensures.after)).0

pub returns : goal.returns
returns c =
    (of_one c.args.slot.now (zeros 64) _ c.told-slot refl
    (ap (λ l. l ++ zeros 64) c.copy_from_slice.ensures.after)).1
