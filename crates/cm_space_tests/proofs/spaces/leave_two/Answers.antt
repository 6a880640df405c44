use Rattle.std.proofs.Common.{◌≡◌, ◌≤◌, [], sym, ◌∙◌, subst, arith}
use Rattle.std.specs.List.{AllByRecursion}
use Rattle.cm_space.specs.Space.{WaitingChunks}
use Rattle.cm_space_tests.proofs.spaces.leave_two.Goals as goal

pub leave-requires-2 : goal.leave-requires-2
leave-requires-2 c =
    let none : c.place-2.new.space.waiting ≡ [] =
    c.in_ok-_back.ensures ∙ c.in_ok-_front.ensures ∙ c.in_ok-add_loader-3.ensures
    ∙ c.in_ok-add_loader-2.ensures ∙ c.in_ok-add_loader.ensures ∙ c.requires in
    c.in_ok-leave.ensures 6 (omega arith)
    (subst (AllByRecursion (λ (w : WaitingChunks). w.number ≤ 4)) (sym none) tt)
