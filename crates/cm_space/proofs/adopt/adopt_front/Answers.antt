use Rattle.std.proofs.Common.{◌≡◌, cond, sym, ap, ◌∙◌, subst}
use Rattle.cm_pool.specs.FreeSpace.{FreeSpace, IsUsedChunk, without, with_chunk}
use Rattle.cm_pool.proofs.SpaceLaws.{giving_back_restores, taken_is_used}
use Rattle.cm_arena.specs.Placing.{with_place}
use Rattle.cm_space.proofs.Adopted.{front-next}
use Rattle.cm_space.proofs.adopt.adopt_front.Goals as goal

pub give-requires : goal.give-requires
give-requires c =
    let p = c.args.pool.now in
    let free = c.take.ensures.free.0 c.if-not-take.false in
    let left : c.take.new.self ≡ without p c.args.place.chunk = c.take.ensures.left ∙ ap
    (λ b. cond b (without p c.args.place.chunk) p) c.if-not-take.false in
    subst (λ (q : FreeSpace). IsUsedChunk q c.args.place.chunk) (sym left)
    (taken_is_used p c.args.place.chunk free)

pub returns-in-Err-clause-pool : goal.returns-in-Err-clause-pool
returns-in-Err-clause-pool c =
    let p = c.args.pool.now in
    let free = c.take.ensures.free.0 c.if-not-take.false in
    let left : c.take.new.self ≡ without p c.args.place.chunk = c.take.ensures.left ∙ ap
    (λ b. cond b (without p c.args.place.chunk) p) c.if-not-take.false in
    c.give.ensures ∙ ap (λ (q : FreeSpace). with_chunk q c.args.place.chunk) left
    ∙ giving_back_restores p c.args.place.chunk free

pub returns-clause-arena : goal.returns-clause-arena
returns-clause-arena c =
    let free = c.take.ensures.free.0 c.if-not-take.false in
    let next =
    front-next c.args.pool.now c.args.arena.now c.requires.held.0 c.args.place c.requires.held.1
    c.requires.inside c.requires.front free in
    c.in_default.ensures.left ∙ ap
    (λ b. cond b (with_place c.args.arena.now c.args.place) c.args.arena.now)
    (c.in_default.ensures.next.1 next)
