use Rattle.std.proofs.Common.{◌++◌, List, ℕ, refl, ap, ◌∙◌}
use Rattle.cm_layout.specs.Zeros.{zeros}
use Rattle.cm_layout.proofs.SlotsJoined.{of_two, put_second}
use Rattle.cm_layout.proofs.slots.Slots.two.Goals as goal

pub invariant_of-result : goal.invariant_of-result
invariant_of-result c =
    (of_two c.args.first.now c.args.second.now _ c.told-first c.told-second
    (put_second 64 c.args.first.now _ c.copy_from_slice.new.self (zeros 64) c.told-first
    c.copy_from_slice.ensures.after refl
    ∙ ap (λ (l : List ℕ). c.args.first.now ++ l) c.copy_from_slice-2.ensures.after)).0

pub returns : goal.returns
returns c =
    (of_two c.args.first.now c.args.second.now _ c.told-first c.told-second
    (put_second 64 c.args.first.now _ c.copy_from_slice.new.self (zeros 64) c.told-first
    c.copy_from_slice.ensures.after refl
    ∙ ap (λ (l : List ℕ). c.args.first.now ++ l) c.copy_from_slice-2.ensures.after)).1
