use Rattle.std.proofs.Common.{subst, ◌+◌, ◌-◌}
use Rattle.cm_front.specs.Front.{front_of}
use Rattle.cm_front.specs.Accepting.{HandsOut}
use Rattle.cm_front.proofs.Learning.{handed, last_handed}
use Rattle.cm_front.proofs.front.Front.seal.Goals as goal

pub returns : goal.returns
returns c =
    let i = c.self.inside in
    let k = c.first.result + (c.count.result - 1) in
    let new = front_of i.book i.space c.take_oldest.new.self i.number k i.learnt i.is_broken
    i.is_closed in
    subst (λ s. HandsOut s c.set_learnt.new.self new) c.self.view_is
    (handed i.book i.space i.unsealed c.take_oldest.new.self i.number i.sealed i.learnt k
    i.is_broken
    i.is_closed c.in_ok-group.group c.set_learnt.new.self
    c.in_ok-group.ensures.some.is_oldest
    c.set_learnt.ensures
    (last_handed c.in_ok-group.group c.set_learnt.new.self i.learnt c.first.result c.count.result
    c.set_learnt.ensures c.first.ensures.value c.count.ensures c.first.ensures.lawful.some))
