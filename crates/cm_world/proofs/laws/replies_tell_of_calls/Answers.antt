use Rattle.std.proofs.Common.{ap, sym, ◌∙◌}
use Rattle.cm_world.specs.Laws.{calls_told}
use Rattle.cm_world.proofs.Told.{told, strikes, has_cause}
use Rattle.cm_world.proofs.laws.replies_tell_of_calls.Goals as goal

pub returns-clause-told : goal.returns-clause-told
returns-clause-told c =
    λ sizes e r before after keeps step.
    told sizes e r step.begun before after keeps step.does

pub returns-clause-strikes : goal.returns-clause-strikes
returns-clause-strikes c =
    λ sizes r before after step armed one.
    let d = step.does in
    d.reply_is
    ∙ strikes before.disk after.disk d.result d.call armed
    (sym (ap calls_told d.reply_is) ∙ one)

pub returns-clause-cause : goal.returns-clause-cause
returns-clause-cause c =
    λ sizes before after step.
    let d = step.does in
    has_cause before.disk after.disk d.result d.call d.reply_is
