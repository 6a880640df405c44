use Rattle.std.proofs.Common.{Bool, cond, ◌++◌, Ok, Err, OnErr, sym, ap, ◌∙◌, subst, arith}
use Rattle.std.proofs.Common.{IsTrue, ◌↔◌, IfOk, MatchResult}
use Rattle.std.specs.declared.result.Result.{Result}
use Rattle.std.proofs.lemmas.Result.{IfOk-weaker, on_err_weaker}
use Rattle.cm_pool.specs.Chunks.{IsChunk}
use Rattle.cm_pool.specs.Geometry.{Sizes}
use Rattle.cm_pool.specs.FreeSpace.{FreeSpace, IsFreeChunk, without}
use Rattle.cm_pool.specs.Held.{AreHeld}
use Rattle.cm_arena.specs.Chains.{chain_chunks}
use Rattle.cm_space.specs.Adopting.{reaching}
use Rattle.cm_space.proofs.Rooted.{reaching-held, way-all}
use Rattle.cm_space.proofs.Adopted.{IsAtFront, free-adoptable, new-adoptable, front-iff, front-left}
use Rattle.cm_space.proofs.adopt.adopt_place.Goals as goal
use Rattle.cm_space.proofs.adopt.adopt_place.Goals.{After-add_roots, In_ok-add_roots}
use Rattle.cm_space.proofs.adopt.adopt_place.Goals.{After-adopt_front}

on_err : {T E P : Type 0} (r : Result T E) → P → OnErr r P
on_err (Ok x) p = tt
on_err (Err e) p = p

at_front : (c : After-add_roots) → IsAtFront c.args.arena.now c.args.pool.now c.args.place
at_front c = record {
  front = omega arith;
  inside = c.is_inside.ensures.0 c.if-not-is_inside.false;
  within = subst
      (λ (g : Sizes). IsChunk g c.args.place.chunk) c.geometry.ensures.value
      (c.is_within.ensures.0 c.if-not-is_within.false);
  rest = c.requires.0;
  held = c.requires.1;
}

pub returns-in_err-add_roots-clause-memory : goal.returns-in_err-add_roots-clause-memory
returns-in_err-add_roots-clause-memory c =
    let at = at_front (goal.at.returns-in_err-add_roots-clause-memory c).After-add_roots in
    on_err c.from_residual.result
    (new-adoptable c.args.arena.now c.args.pool.now c.args.place at
    c.in_err-add_roots.ensures.memory)

pub adopt_front-requires-clause-held : goal.adopt_front-requires-clause-held
adopt_front-requires-clause-held c = (
  c.requires.0,
  subst (λ (p : FreeSpace). AreHeld p (chain_chunks c.args.arena.now ++ c.requires.0))
      (sym c.in_ok-add_roots.ensures.ok)
      (reaching-held c.args.pool.now c.args.place.chunk.root
      (chain_chunks c.args.arena.now ++ c.requires.0) c.requires.1),
)

-- the chunk is free if it was free once its root was present
free : (c : After-adopt_front) (taken : Bool)
    → (IsTrue taken ↔ IsFreeChunk c.add_roots.new.pool c.args.place.chunk)
    → (IsTrue taken ↔ IsFreeChunk (reaching c.args.pool.now c.args.place.chunk.root)
    c.args.place.chunk)
free c taken h = subst
    (λ (p : FreeSpace). IsTrue taken ↔ IsFreeChunk p c.args.place.chunk)
    c.in_ok-add_roots.ensures.ok h

pub returns-clause-next : goal.returns-clause-next
returns-clause-next c =
    let at = goal.at.returns-clause-next c in
    IfOk-weaker c.adopt_front.result _ _
    (λ taken h. front-iff c.args.arena.now c.args.pool.now c.args.place
    (at_front at.After-add_roots) taken (free at.After-adopt_front taken h))
    c.adopt_front.ensures.free

pub returns-clause-memory : goal.returns-clause-memory
returns-clause-memory c =
    let at = goal.at.returns-clause-memory c in
    on_err_weaker c.adopt_front.result (λ (h : IsFreeChunk c.add_roots.new.pool c.args.place.chunk).
    free-adoptable c.args.arena.now c.args.pool.now c.args.place (at_front at.After-add_roots)
    (subst (λ (p : FreeSpace). IsFreeChunk p c.args.place.chunk) c.in_ok-add_roots.ensures.ok h))
    c.adopt_front.ensures.memory

pub returns-clause-pool : goal.returns-clause-pool
returns-clause-pool c =
    let at = goal.at.returns-clause-pool c in
    let grown = c.in_ok-add_roots.ensures.ok in
    both c.adopt_front.result c.adopt_front.ensures.free c.adopt_front.ensures.pool
    (λ taken h e. front-left c.args.arena.now c.args.pool.now c.adopt_front.new.pool c.args.place
    (at_front at.After-add_roots) taken (free at.After-adopt_front taken h)
    (e ∙ ap (λ (p : FreeSpace). cond taken (without p c.args.place.chunk) p) grown))
    (λ e. way-all c.args.pool.now c.adopt_front.new.pool c.args.place.chunk.root (e ∙ grown))
  where
    both : {E : Type 0} {P Q R : Bool → Type 0} {S W : Type 0} (r : Result Bool E) → IfOk r P
        → MatchResult r Q (λ _. S) → ((b : Bool) → P b → Q b → R b) → (S → W)
        → MatchResult r R (λ _. W)
    both (Ok b) p q f g = f b p q
    both (Err e) p q f g = g q
