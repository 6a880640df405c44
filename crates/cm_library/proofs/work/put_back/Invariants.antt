use Rattle.std.proofs.Common.{◌≡◌, map}
use Rattle.cm_library.proofs.work.put_back.Given as goal

-- the outputs and the passes so far
abbrev pub invariant-loop-done : goal.invariant-loop-done
invariant-loop-done g l =
    (l.outputs.items ≡ map (λ done. done.output) l.yielded)
    × (l.passes.items ≡ map (λ done. done.pass) l.yielded)
