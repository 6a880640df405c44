use Rattle.std.proofs.Common.{◌≡◌, ◌<◌, Some, length, true, sym, ap, ◌∙◌, arith, refl}
use Rattle.std.specs.List.{slice_get}
use Rattle.std.proofs.lemmas.Option.{get_or_from_slice_get}
use Rattle.cm_rows.specs.Held.{own_chunk}
use Rattle.cm_rows.specs.Links.{ended}
use Rattle.cm_rows.proofs.Ending.{ended-gives, ended-keeps, get-at}
use Rattle.cm_rows.proofs.links.end_row.Goals as goal
use Rattle.cm_rows.proofs.links.end_row.Given.{Over}
use Rattle.cm_rows.proofs.links.end_row.Goals.{After-index_mut}

record Stands (g : Over) (c : After-index_mut g) : Type 0 where
  there : slice_get c.args.slots.now.items c.args.at ≡ Some c.index_mut.result.now
  lives : c.index_mut.result.now.live ≡ true
  chunk : own_chunk c.index_mut.result.now.item ≡ c.own_chunk-chunk.result

stands : (g : Over) (c : After-index_mut g) → Stands g c
stands g c =
    let slots = c.args.slots.now.items in
    let s = c.index_mut.result.now in
    let within : c.args.at < length slots =
    omega (arith, c.requires.within, c.args.slots.now.ok.0) in
    let there = get-at slots c.args.at s within ∙ ap Some (sym c.index_mut.ensures.value) in
    record {
      there = there;
      lives = ap (λ t. t.live) c.index_mut.ensures.value ∙ c.requires.lives.is s;
      chunk = sym (c.own_chunk-chunk.ensures
          ∙ ap (λ t. own_chunk t.item)
          (c.index.ensures ∙ get_or_from_slice_get slots c.args.at s c.index.result.now there));
    }

pub give-requires : goal.give-requires
give-requires g c =
    let at = stands g (goal.at.give-requires g c).After-index_mut in
    let s = c.index_mut.result.now in
    (ended-gives c.args.pool.now.geometry c.args.pool.now c.args.slots.now.items c.args.at s
    (ended s) c.in-Some.chunk at.there at.lives refl (at.chunk ∙ c.in-Some.is) c.requires.holds).0

pub returns-in-Some-clause-holds : goal.returns-in-Some-clause-holds
returns-in-Some-clause-holds g c =
    let at = stands g (goal.at.returns-in-Some-clause-holds g c).After-index_mut in
    let s = c.index_mut.result.now in
    rw (c.give.ensures) ((ended-gives c.args.pool.now.geometry c.args.pool.now
    c.args.slots.now.items c.args.at s (ended s) c.in-Some.chunk at.there at.lives refl
    (at.chunk ∙ c.in-Some.is) c.requires.holds).1)

pub returns-in_default-clause-holds : goal.returns-in_default-clause-holds
returns-in_default-clause-holds g c =
    let at = stands g (goal.at.returns-in_default-clause-holds g c).After-index_mut in
    let s = c.index_mut.result.now in
    ended-keeps c.args.pool.now.geometry c.args.pool.now c.args.slots.now.items c.args.at s
    (ended s) at.there at.lives refl (at.chunk ∙ c.in_default.is) c.requires.holds
