use Rattle.std.proofs.Common.{◌≡◌, ◌++◌, ◌-◌, length, take, drop, vec_len, arith, ap, length-append}
use Rattle.std.proofs.Common.{length-take, length-drop}
use Rattle.cm_index.proofs.Joined.{turned}
use Rattle.cm_index.proofs.block.IndexBlock.fill.Goals as goal

pub returns-clause-both : goal.returns-clause-both
returns-clause-both c =
    let xs = c.self.inside.entries.items in
    let ys = c.before-2.inside.entries.items in
    let kept = c.len-3.result - c.min-count.result in
    let n = vec_len c.extend_from_slice.new.self - c.min-count.result in
    let more : c.extend_from_slice.new.self.items ≡ xs ++ take (length ys - kept) (drop kept ys) =
    rw (c.unwrap.ensures, c.deref.ensures.value) at c.extend_from_slice.ensures.items in
    let long = length-append xs (take (length ys - kept) (drop kept ys)) in
    let behind = length-take (length ys - kept) (drop kept ys) in
    let is : n ≡ length xs =
    omega (
      arith,
      ap length more,
      long,
      behind,
      length-drop kept ys,
      c.extend_from_slice.new.self.ok.0,
      c.before-2.inside.entries.ok.0,
      c.self.inside.entries.ok.0,
    ) in
    rw (
      c.truncate.ensures.items,
      c.rotate_right.ensures.items,
      more,
      ← c.before-2.view_is,
      ← c.self.view_is,
    ) (turned xs ys kept n is)
