use Rattle.cm_front.proofs.Learning.{learnt_front}
use Rattle.cm_front.proofs.front.Front.learn.Goals as goal

pub invariant_of-self : goal.invariant_of-self
invariant_of-self c =
    let i = c.self.inside in
    learnt_front i.book i.space c.learn.new.self i.unsealed i.number i.sealed i.learnt
    c.max-self-inside.result c.args.receipt.number i.is_broken i.is_closed c.self.invariant
    c.max-self-inside.ensures c.if-receipt-self.false c.learn.ensures
    c.invariant_holds.ensures.arenas c.invariant_holds.ensures.pool
