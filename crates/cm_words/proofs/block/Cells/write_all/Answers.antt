use Rattle.std.proofs.Common.{◌∙◌, sym}
use Rattle.cm_words.proofs.Filled.{write_step}
use Rattle.cm_words.proofs.block.Cells.write_all.Goals as goal

pub loop-i-preserved : goal.loop-i-preserved
loop-i-preserved g c =
    let xs = c.args.items.now in
    let i = c.loop-i.i in
    record {
      base = c.loop-i.invariant.base ∙ sym c.write.ensures.0;
      place = c.write.ensures.0 ∙ c.loop-i.invariant.place;
      slots = c.write.ensures.1
          ∙ write_step c.args.self.now.slots c.loop-i.self.slots xs c.args.from i
          c.index-items-i.result c.loop-i.invariant.slots c.requires.within c.loop-i-test.true
          c.index-items-i.is;
    }
