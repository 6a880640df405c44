use Rattle.std.proofs.Common.{◌+◌, true, ap, arith}
use Rattle.cm_layout.specs.declared.heads.HalfHead.{HalfHead}
use Rattle.cm_commit.proofs.journal_end.renewed.Goals as goal

pub overflow_add-result : goal.overflow_add-result
overflow_add-result c =
    let half = c.requires in
    let live = ap (λ (h : HalfHead). h.live) c.renewed_head-head.ensures in
    omega (arith, half.few, half.lawful.slots_to, live)

pub returns : goal.returns
returns c =
    let head = c.renewed_head-head.ensures in
    λ i. record c.args.journal.now {
      half = c.other.ensures i;
      end = 1 + (head i).live;
      epoch = (head i).epoch;
      other_open = true;
      number = (head i).base;
    }
