use Rattle.std.proofs.Common.{◌≡◌, ◌*◌, ◌^◌, ◌≤◌, ℕ, true, List, length, sym, ap, ◌∙◌, subst, arith}
use Rattle.std.proofs.Common.{None}
use Rattle.std.specs.Option.{is_some}
use Rattle.std.proofs.lemmas.Bool.{true≢false}
use Rattle.cm_pool.specs.FreeSpace.{FreeSpace, IsFreeChunk, HasFree, without}
use Rattle.cm_pool.specs.Chunks.{IsBlock}
use Rattle.cm_pool.specs.Blocks.{IsSame, start, stop}
use Rattle.cm_pool.specs.Rows.{is_marked, IsFirstBlock, IsFirstFrom}
use Rattle.cm_pool.proofs.Dyadic.{inside-stop}
use Rattle.cm_pool.proofs.Spaces.{space-without}
use Rattle.cm_pool.proofs.Pools.{none-free, first-start, not-before, held-free, marked-stop}
use Rattle.cm_pool.proofs.Pools.{marked-small, pool-taken}
use Rattle.cm_pool.proofs.pool.Pool.alloc.Goals as goal
use Rattle.cm_pool.proofs.pool.Pool.alloc.Goals.{In_ok-from, After-to_chunk}

pub returns-in_err-from-clause-none : goal.returns-in_err-from-clause-none
returns-in_err-from-clause-none c =
    let a = c.self.inside in
    let none = subst
    (λ (rows : List (List ℕ)). IsFirstFrom rows c.args.order (length rows) None)
    c.deref.ensures.value c.in_err-from.ensures in (
      λ _ has. none-free a.geometry a.roots a.rows.items c.args.order c.self.invariant none
          (subst (λ (p : FreeSpace). HasFree p c.args.order) (sym c.self.view_is) has),
      λ _. ap is_some c.from_residual.ensures,
    )

first : (c : In_ok-from)
    → IsFirstBlock c.self.inside.rows.items c.args.order (length c.self.inside.rows.items)
    c.in_ok-from.from
first c = subst
    (λ (rows : List (List ℕ)). IsFirstBlock rows c.args.order (length rows) c.in_ok-from.from)
    c.deref.ensures.value c.in_ok-from.ensures

pub first-wanted-requires-clause-fits : goal.first-wanted-requires-clause-fits
first-wanted-requires-clause-fits c =
    let a = c.self.inside in
    marked-small a.geometry a.roots a.rows.items c.in_ok-from.from c.self.invariant
    (first (goal.at.first-wanted-requires-clause-fits c).In_ok-from).is_set

pub take_out-requires-clause-kept : goal.take_out-requires-clause-kept
take_out-requires-clause-kept c =
    let a = c.self.inside in
    (a.geometry.top, a.geometry.roots * 2 ^ a.geometry.top, c.self.invariant.kept)

pub take_out-requires-clause-from : goal.take_out-requires-clause-from
take_out-requires-clause-from c =
    (first (goal.at.take_out-requires-clause-from c).In_ok-from).is_set

pub invariant_of-self : goal.invariant_of-self
invariant_of-self c =
    let a = c.self.inside in
    pool-taken a.geometry a.roots a.rows.items c.take_out.new.rows.items c.first-wanted.result
    c.self.invariant
    (c.take_out.ensures.kept a.geometry.top (a.geometry.roots * 2 ^ a.geometry.top)
    c.self.invariant.kept) c.take_out.ensures.covered

same : (c : After-to_chunk)
    → IsSame c.self.inside.geometry.top c.to_chunk.result c.first-wanted.result
same c = subst
    (λ t. IsSame t c.to_chunk.result c.first-wanted.result) c.top-top.ensures.value
    c.to_chunk.ensures.same

block : (c : After-to_chunk) → is_marked c.self.inside.rows.items c.in_ok-from.from ≡ true
    → IsBlock c.self.inside.geometry.top c.self.inside.roots c.to_chunk.result
block c set =
    let a = c.self.inside in
    let stops : stop c.first-wanted.result ≤ a.roots * 2 ^ a.geometry.top =
    omega (
      arith,
      inside-stop c.first-wanted.result c.in_ok-from.from c.first-wanted.ensures.inside,
      marked-stop a.geometry a.roots a.rows.items c.in_ok-from.from c.self.invariant set,
    )
    in
    subst (λ t. IsBlock t a.roots c.to_chunk.result) c.top-top.ensures.value
    (c.to_chunk.ensures.within a.roots (subst
    (λ t. stop c.first-wanted.result ≤ a.roots * 2 ^ t) (sym c.top-top.ensures.value) stops))

free : (c : After-to_chunk) → is_marked c.self.inside.rows.items c.in_ok-from.from ≡ true
    → IsFreeChunk c.args.self.now c.to_chunk.result
free c set =
    let a = c.self.inside in
    subst (λ (p : FreeSpace). IsFreeChunk p c.to_chunk.result) c.self.view_is
    (held-free a.geometry a.roots a.rows.items c.to_chunk.result c.first-wanted.result
    c.in_ok-from.from (same c) (block c set) set c.first-wanted.ensures.inside)

of_order : (c : After-to_chunk) → c.to_chunk.result.order ≡ c.args.order
of_order c = sym (same c).order ∙ c.first-wanted.ensures.order

pub returns-clause-none : goal.returns-clause-none
returns-clause-none c =
    let at = goal.at.returns-clause-none c in (
      λ e. absurd (true≢false e),
      λ no. absurd (no (
        c.to_chunk.result,
        of_order at.After-to_chunk,
        free at.After-to_chunk (first at.In_ok-from).is_set,
      )),
    )

pub returns-clause-first : goal.returns-clause-first
returns-clause-first c =
    let a = c.self.inside in
    let at = goal.at.returns-clause-first c in
    let from : start c.first-wanted.result ≡ start c.in_ok-from.from =
    c.first-wanted.ensures.start in
    record {
      of_order = of_order at.After-to_chunk;
      free = free at.After-to_chunk (first at.In_ok-from).is_set;
      first = λ other e is_free.
          let there = subst (λ (p : FreeSpace). IsFreeChunk p other) (sym c.self.view_is) is_free in
          not-before a.geometry.top a.roots c.to_chunk.result other c.first-wanted.result
          (same at.After-to_chunk) there.block
          (omega (
            arith,
            from,
            first-start a.geometry a.roots a.rows.items c.args.order
                c.in_ok-from.from other c.self.invariant (first at.In_ok-from) there e,
          ));
    }

pub returns-clause-left : goal.returns-clause-left
returns-clause-left c =
    let a = c.self.inside in
    space-without a.geometry a.roots a.rows.items c.take_out.new.rows.items c.to_chunk.result
    c.first-wanted.result (same (goal.at.returns-clause-left c).After-to_chunk)
    c.take_out.ensures.covered
    ∙ ap (λ p. without p c.to_chunk.result) c.self.view_is
