use Rattle.std.proofs.Common.{◌≡◌, ℕ, ◌*◌, ◌^◌, ◌<◌, true, sym, ap, ◌∙◌, subst, arith}
use Rattle.cm_pool.specs.FreeSpace.{FreeSpace, IsUsedChunk, with_chunk}
use Rattle.cm_pool.specs.Chunks.{IsBlock}
use Rattle.cm_pool.specs.Blocks.{IsSame, is_in}
use Rattle.cm_pool.specs.Rows.{AreBitRows, space_of}
use Rattle.cm_pool.proofs.Dyadic.{is_in-bounds}
use Rattle.cm_pool.proofs.Spaces.{used-uncovered, space-with_chunk}
use Rattle.cm_pool.proofs.Pools.{pool-given, same-stop, within-limit, few-roots}
use Rattle.cm_pool.proofs.pool.Pool.give.Goals as goal
use Rattle.cm_pool.proofs.pool.Pool.give.Goals.{After-top-top, After-of_chunk-block}

used : (c : After-top-top)
    → IsUsedChunk (space_of c.self.inside.geometry c.self.inside.roots c.self.inside.rows.items)
    c.args.chunk
used c = subst (λ (p : FreeSpace). IsUsedChunk p c.args.chunk) (sym c.self.view_is) c.requires

same : (c : After-of_chunk-block)
    → IsSame c.self.inside.geometry.top c.args.chunk c.of_chunk-block.result
same c = subst
    (λ t. IsSame t c.args.chunk c.of_chunk-block.result) c.top-top.ensures.value
    c.of_chunk-block.ensures

pub of_chunk-block-requires-clause-within : goal.of_chunk-block-requires-clause-within
of_chunk-block-requires-clause-within c =
    let a = c.self.inside in
    subst (λ t. IsBlock t 256 c.args.chunk) (sym c.top-top.ensures.value)
    (few-roots a.geometry a.roots a.rows.items c.args.chunk c.self.invariant
    (used (goal.at.of_chunk-block-requires-clause-within c).After-top-top).block)

pub give_back-requires-clause-order : goal.give_back-requires-clause-order
give_back-requires-clause-order c =
    omega (
      arith,
      c.of_chunk-block.ensures.order,
      c.top-top.ensures.value,
      (used (goal.at.give_back-requires-clause-order c).After-top-top).block.within_top,
    )

low : (c : After-of_chunk-block)
    → IsUsedChunk (space_of c.self.inside.geometry c.self.inside.roots c.self.inside.rows.items)
    c.args.chunk → (g : ℕ) → is_in c.of_chunk-block.result g ≡ true
    → g < c.self.inside.geometry.roots * 2 ^ c.self.inside.geometry.top
low c is_used g e =
    let a = c.self.inside in
    let b = c.of_chunk-block.result in
    within-limit a.geometry a.roots a.rows.items c.self.invariant g
    (omega (
      arith,
      (is_in-bounds b g e).1,
      same-stop a.geometry.top a.roots c.args.chunk b (same c) is_used.block,
    ))

pub give_back-requires-clause-kept : goal.give_back-requires-clause-kept
give_back-requires-clause-kept c =
    let a = c.self.inside in
    let at = goal.at.give_back-requires-clause-kept c in
    let limit = a.geometry.roots * 2 ^ a.geometry.top in (
      limit,
      subst
          (λ t. AreBitRows t limit a.rows.items) (sym c.top-top.ensures.value)
          c.self.invariant.kept,
      low at.After-of_chunk-block (used at.After-top-top),
    )

pub give_back-requires-clause-taken : goal.give_back-requires-clause-taken
give_back-requires-clause-taken c =
    let a = c.self.inside in
    let at = goal.at.give_back-requires-clause-taken c in
    used-uncovered a.geometry a.roots a.rows.items c.args.chunk c.of_chunk-block.result
    (same at.After-of_chunk-block) (used at.After-top-top)

pub invariant_of-self : goal.invariant_of-self
invariant_of-self c =
    let a = c.self.inside in
    let at = goal.at.invariant_of-self c in
    let b = c.of_chunk-block.result in
    let limit = a.geometry.roots * 2 ^ a.geometry.top in
    pool-given a.geometry a.roots a.rows.items c.give_back.new.rows.items b c.self.invariant
    (same-stop a.geometry.top a.roots c.args.chunk b (same at.After-of_chunk-block)
    (used at.After-top-top).block)
    (subst (λ t. AreBitRows t limit c.give_back.new.rows.items) c.top-top.ensures.value
    (c.give_back.ensures.kept limit (subst
    (λ t. AreBitRows t limit a.rows.items) (sym c.top-top.ensures.value) c.self.invariant.kept)
    (low at.After-of_chunk-block (used at.After-top-top))))
    c.give_back.ensures.covered

pub returns : goal.returns
returns c =
    let a = c.self.inside in
    space-with_chunk a.geometry a.roots a.rows.items c.give_back.new.rows.items c.args.chunk
    c.of_chunk-block.result (same (goal.at.returns c).After-of_chunk-block)
    c.give_back.ensures.covered
    ∙ ap (λ p. with_chunk p c.args.chunk) c.self.view_is
