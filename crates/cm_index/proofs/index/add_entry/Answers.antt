use Rattle.std.proofs.Common.{◌≤◌, length, take, drop, ap, sym, subst, ◌∙◌, arith}
use Rattle.std.specs.List.{AllByRecursion}
use Rattle.cm_index.specs.Index.{IsIndex, rank, owner_of, name_in, key}
use Rattle.cm_index.specs.Sought.{key_sought}
use Rattle.cm_index.specs.Blocks.{joined, place_of, half_size}
use Rattle.cm_index.proofs.Indexes.{further-new, further-known}
use Rattle.cm_index.proofs.index.add_entry.Goals as goal

pub returns-in-Err-clause-index : goal.returns-in-Err-clause-index
returns-in-Err-clause-index g c =
    let bs = c.args.blocks.now.items in
    let k = key_sought g.P.Kept.name c.row-sought.result in
    let absent = rw c.deref.ensures.value at c.in-Err.ensures.absent in
    let own = c.row-sought.ensures
    ∙ ap (λ s. key g.P.Kept.mark (rank (owner_of s.item)) (name_in g.P.Kept.name s.item))
    (sym c.index-slots-at.is) in
    rw (c.put_entry.ensures.items)
    (further-new g.P.Kept.mark g.P.Kept.name c.args.slots.now c.args.at c.index-slots-at.result
    (joined bs) (place_of bs c.in-Err.spot) c.row-sought.result.fingerprint k c.requires.within
    c.index-slots-at.is c.requires.lives c.requires.index own own absent)

pub returns-in-Ok-clause-index : goal.returns-in-Ok-clause-index
returns-in-Ok-clause-index g c =
    let bs = c.args.blocks.now.items in
    let k = key_sought g.P.Kept.name c.row-sought.result in
    let found = rw c.deref.ensures.value at c.in-Ok.ensures.found in
    let own = c.row-sought.ensures
    ∙ ap (λ s. key g.P.Kept.mark (rank (owner_of s.item)) (name_in g.P.Kept.name s.item))
    (sym c.index-slots-at.is) in
    rw (c.renew.ensures.items)
    (further-known g.P.Kept.mark g.P.Kept.name c.args.slots.now c.args.at c.index-slots-at.result
    (joined bs) (place_of bs c.in-Ok.spot) c.row-sought.result.fingerprint k c.requires.within
    c.index-slots-at.is c.requires.lives c.requires.index own own found)

pub search-requires : goal.search-requires
search-requires g c =
    let bs = c.requires.blocks in
    let value = sym c.deref.ensures.value in
    record {
      index = subst (λ b. IsIndex g.P.Kept.mark g.P.Kept.name (take c.args.at c.args.slots.now)
          (joined b)) value c.requires.index;
      some = omega (arith, ap length c.deref.ensures.value, bs.within);
      half = subst (λ b. AllByRecursion (λ entries. half_size ≤ length entries) (drop 1 b)) value
          bs.half;
    }

pub returns-in-Ok-clause-blocks : goal.returns-in-Ok-clause-blocks
returns-in-Ok-clause-blocks g c =
    let bs = c.requires.blocks in
    let renewed = c.renew.ensures in
    record {
      within = omega (arith, renewed.count, bs.within);
      half = renewed.half;
      empty = bs.empty;
      room = omega (arith, renewed.count, renewed.capacity, bs.room);
      spare_room = omega (arith, renewed.count, bs.spare_room);
    }
