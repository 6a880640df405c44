use Rattle.std.proofs.Common.{◌≡◌, ◌*◌, ◌^◌, ℕ, true, false, List, refl, sym, ap, ◌∙◌, subst}
use Rattle.std.proofs.lemmas.Bool.{false≢true, both_ways}
use Rattle.cm_pool.specs.declared.block.Block.{Block}
use Rattle.cm_pool.specs.FreeSpace.{FreeSpace, IsFreeChunk, without}
use Rattle.cm_pool.specs.Chunks.{IsBlock}
use Rattle.cm_pool.specs.Blocks.{IsSame, Inside}
use Rattle.cm_pool.specs.Rows.{is_marked}
use Rattle.cm_pool.proofs.Spaces.{space-without}
use Rattle.cm_pool.proofs.Pools.{free-held, held-free, pool-taken}
use Rattle.cm_pool.proofs.pool.Pool.take.Goals as goal
use Rattle.cm_pool.proofs.pool.Pool.take.Goals.{Else-chunk-self, After-of_chunk-wanted}

block : (c : Else-chunk-self)
    → IsBlock c.self.inside.geometry.top c.self.inside.roots c.args.chunk.now
block c =
    let within = c.is_within.ensures.0 c.if-not-is_within.false in
    record {
      within_top = within.within_top;
      in_a_root = c.if-chunk-self.false;
      aligned = within.aligned;
      inside = within.inside;
    }

same : (c : After-of_chunk-wanted)
    → IsSame c.self.inside.geometry.top c.args.chunk.now c.of_chunk-wanted.result
same c = subst
    (λ t. IsSame t c.args.chunk.now c.of_chunk-wanted.result) c.top.ensures.value
    c.of_chunk-wanted.ensures

pub returns-in_default-clause-free : goal.returns-in_default-clause-free
returns-in_default-clause-free c =
    let a = c.self.inside in
    let w = c.of_chunk-wanted.result in
    let none = subst (λ (rows : List (List ℕ)). (b : Block) → Inside w b
    → is_marked rows b ≡ false) c.deref.ensures.value c.in_default.ensures.none in (
      λ e. absurd (false≢true e),
      λ free.
          let held =
          free-held a.geometry a.roots a.rows.items c.args.chunk.now w c.self.invariant
          (same (goal.at.returns-in_default-clause-free c).After-of_chunk-wanted)
          (subst (λ (p : FreeSpace). IsFreeChunk p c.args.chunk.now) (sym c.self.view_is) free)
          in
          absurd (both_ways _ (none held.0 held.2) held.1),
    )

pub take_out-requires-clause-kept : goal.take_out-requires-clause-kept
take_out-requires-clause-kept c =
    let a = c.self.inside in
    (a.geometry.top, a.geometry.roots * 2 ^ a.geometry.top, c.self.invariant.kept)

pub invariant_of-self : goal.invariant_of-self
invariant_of-self c =
    let a = c.self.inside in
    pool-taken a.geometry a.roots a.rows.items c.take_out.new.rows.items c.of_chunk-wanted.result
    c.self.invariant
    (c.take_out.ensures.kept a.geometry.top (a.geometry.roots * 2 ^ a.geometry.top)
    c.self.invariant.kept) c.take_out.ensures.covered

pub returns-clause-free : goal.returns-clause-free
returns-clause-free c =
    let a = c.self.inside in
    let at = goal.at.returns-clause-free c in
    let w = c.of_chunk-wanted.result in
    let set = subst
    (λ (rows : List (List ℕ)). is_marked rows c.in-Some.from ≡ true) c.deref.ensures.value
    c.in-Some.ensures.some.0 in (
      λ _. subst (λ (p : FreeSpace). IsFreeChunk p c.args.chunk.now) c.self.view_is
          (held-free a.geometry a.roots a.rows.items c.args.chunk.now w c.in-Some.from
          (same at.After-of_chunk-wanted) (block at.Else-chunk-self) set
          c.in-Some.ensures.some.1),
      λ _. refl,
    )

pub returns-clause-left : goal.returns-clause-left
returns-clause-left c =
    let a = c.self.inside in
    space-without a.geometry a.roots a.rows.items c.take_out.new.rows.items c.args.chunk.now
    c.of_chunk-wanted.result (same (goal.at.returns-clause-left c).After-of_chunk-wanted)
    c.take_out.ensures.covered
    ∙ ap (λ p. without p c.args.chunk.now) c.self.view_is
