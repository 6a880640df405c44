use Rattle.std.proofs.Common.{◌≡◌, ◌≤◌, ◌-◌, List, [], length, drop, ap, sym, subst, arith}
use Rattle.std.proofs.Common.{length-take}
use Rattle.std.specs.List.{AllByRecursion}
use Rattle.std.proofs.lemmas.List.{get_or_read}
use Rattle.cm_index.specs.Blocks.{halved}
use Rattle.cm_index.specs.declared.index.IndexEntry.{IndexEntry}
use Rattle.cm_index.proofs.Joined.{halved-half, length-halved, all-take}
use Rattle.cm_index.proofs.blocks.split.Goals as goal

pub returns-clause-blocks : goal.returns-clause-blocks
returns-clause-blocks c =
    let h = c.requires.blocks in
    let bs = c.args.blocks.now.items in
    let spare = c.args.spare.now.items in
    let at = c.args.at in
    let block =
    get_or_read bs at c.index_mut.result.now c.requires.within c.index_mut.ensures.value [] in
    let is : c.insert.new.self.items ≡ halved bs at =
    rw (c.unwrap.ensures, c.halve.ensures.lower, c.halve.ensures.upper, block) at
    c.insert.ensures.items in
    let long = length-halved bs at c.requires.within in
    let left = length-take (c.args.spare.now.len - 1) spare in
    record {
      within = omega (arith, ap length is, long);
      half = subst (λ (l : List (List IndexEntry)). AllByRecursion (λ b. 512 ≤ length b) (drop 1 l))
          (sym is) (halved-half bs at c.requires.within c.requires.full h.half);
      empty = rw (c.pop.ensures.rest)
          (all-take (λ (b : List IndexEntry). length b ≡ 0) (c.args.spare.now.len - 1)
          spare h.empty);
      room = omega (
        arith,
        ap length is,
        long,
        left,
        ap length c.pop.ensures.rest,
        h.room,
        c.args.spare.now.ok.0,
        c.insert.ensures.capacity,
        c.requires.spare,
      );
      spare_room =
          omega (
            arith,
            ap length is,
            long,
            left,
            ap length c.pop.ensures.rest,
            h.spare_room,
            c.args.spare.now.ok.0,
            c.pop.ensures.capacity,
            c.requires.spare,
          );
    }
