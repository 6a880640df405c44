use Rattle.std.proofs.Common.{sym, subst}
use Rattle.cm_lines.proofs.Writing.{WrittenBut, written_more}
use Rattle.cm_lines.proofs.output.write_whole.Goals as goal

pub writes-preserved : goal.writes-preserved
writes-preserved g c =
    let first = g.W.Write.contents c.args.writer.now in
    let last = g.W.Write.contents c.write_some.new.writer in
    subst (WrittenBut first last c.args.text.now) (sym c.split_at.ensures.back)
    (written_more first (g.W.Write.contents c.writes.writer) last c.args.text.now c.writes.rest.now
    c.in_ok-count.count c.writes.invariant c.in_ok-count.ensures.ok)
