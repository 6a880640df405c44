use Rattle.std.proofs.Common.{◌≡◌, ◌<◌, List, length, get_or, ap, ◌∙◌, arith}
use Rattle.cm_index.specs.declared.index.IndexEntry.{IndexEntry}
use Rattle.cm_index.specs.Sweep.{shifted}
use Rattle.cm_index.proofs.Sweeping.{change-more, change-seam}
use Rattle.cm_index.proofs.sweep.move_up.Goals as goal

pub loop-i-preserved : goal.loop-i-preserved
loop-i-preserved c =
    let h = c.loop-i.invariant in
    let xs = c.args.index.now.items in
    let i = c.loop-i.i in
    let f = shifted c.args.places.now in
    let entry = c.index-entry.result.now in
    let within : i < length xs =
    omega (arith, c.len-i-end.ensures, c.args.index.now.ok.0, c.loop-i-test.true) in
    let here : entry ≡ get_or xs i entry =
    c.index-entry.ensures ∙ ap (λ (l : List IndexEntry). get_or l i entry) h.items
    ∙ change-seam f xs i entry within in
    record {
      items = change-more f xs c.loop-i.index.items i entry _ within h.items (ap f here);
      capacity = h.capacity;
    }
