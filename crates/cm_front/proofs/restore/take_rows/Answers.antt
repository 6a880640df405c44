use Rattle.std.proofs.Common.{subst}
use Rattle.cm_front.specs.Restoring.{IsOnTheWay}
use Rattle.cm_front.proofs.Adopting.{SpaceLaws}
use Rattle.cm_front.proofs.Taking.{can_take, took}
use Rattle.cm_front.proofs.restore.take_rows.Goals as goal

pub take_row-requires : goal.take_row-requires
take_row-requires c =
    let laws : SpaceLaws = record {
      keep = c.roots_are_free.ensures.held;
      lose = c.roots_are_free.ensures.none_lost;
      each = c.each_word_has_its_place.ensures;
      reach = c.roots_reach_what_is_adopted.ensures;
    } in
    let b = c.args.book.now in
    can_take laws b.sizes c.requires.rows.0 b.rows c.next.new.self c.in-Some.row.now
    c.loop-row.space
    c.requires.lawful c.requires.rows.1
    (subst (λ l. IsOnTheWay b.sizes b.rows l c.loop-row.space) c.in-Some.ensures
    c.loop-row.invariant)

pub loop-row-preserved : goal.loop-row-preserved
loop-row-preserved c =
    let laws : SpaceLaws = record {
      keep = c.roots_are_free.ensures.held;
      lose = c.roots_are_free.ensures.none_lost;
      each = c.each_word_has_its_place.ensures;
      reach = c.roots_reach_what_is_adopted.ensures;
    } in
    let b = c.args.book.now in
    took laws b.sizes c.requires.rows.0 b.rows c.next.new.self c.in-Some.row.now c.loop-row.space
    c.take_row.new.space c.requires.lawful c.requires.rows.1
    (subst (λ l. IsOnTheWay b.sizes b.rows l c.loop-row.space) c.in-Some.ensures
    c.loop-row.invariant)
    c.in_ok-take_row.ensures
