use Rattle.std.proofs.Common.{sym, ap, ◌∙◌, ◌+◌, drop, subst}
use Rattle.cm_pool.specs.FreeSpace.{FreeSpace}
use Rattle.cm_pool.specs.Held.{AreHeld}
use Rattle.cm_space.specs.Space.{with_chunks}
use Rattle.cm_space.proofs.Giving.{drop-held, drop-given}
use Rattle.cm_space.proofs.waiting.give_all.Goals as goal

pub loop-chunk-preserved : goal.loop-chunk-preserved
loop-chunk-preserved c =
    let cs = c.args.chunks.now in
    let i = c.loop-chunk.chunk-index in
    let p = c.loop-chunk.pool in
    record {
      held = subst (λ (q : FreeSpace). AreHeld q (drop (i + 1) cs)) (sym c.give.ensures)
          (drop-held p cs i _ c.loop-chunk-test.true c.loop-chunk.invariant.held);
      sofar = ap (λ (q : FreeSpace). with_chunks q (drop (i + 1) cs)) c.give.ensures
          ∙ sym (drop-given p cs i _ c.loop-chunk-test.true) ∙ c.loop-chunk.invariant.sofar;
    }
