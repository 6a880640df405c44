use Rattle.std.proofs.Common.{length, ap, arith}
use Rattle.cm_front.specs.Front.{FrontState}
use Rattle.cm_cache.specs.Channel.{entries_of}
use Rattle.cm_cache.specs.Handing.{HandingState}
use Rattle.cm_cache.specs.Closing.{TallyState}
use Rattle.cm_cache.proofs.Flushed.{entries_with_end}
use Rattle.cm_cache.proofs.shared.Shared.finish.Goals as goal

pub returns-clause-handed : goal.returns-clause-handed
returns-clause-handed g c =
    let sent = ap (λ l. length (entries_of l)) c.finish-outgoing.ensures in
    let end = ap length (entries_with_end c.self.inside.handing.sent) in
    let same = ap (λ (s : HandingState). length (entries_of s.sent)) c.self.view_is in
    let value = ap (λ (f : FrontState). f.number) c.front.ensures.value in
    let at = c.front.ensures.number in
    let number = c.number.ensures in
    let opened = c.requires.opened in
    let new = ap (λ (t : TallyState). t.handed) c.new.ensures in
    omega (arith, new, sent, end, same, value, at, number, opened)
