use Rattle.std.proofs.Common.{Some, ap}
use Rattle.cm_commit.specs.States.{CommitterState}
use Rattle.cm_commands.specs.Commands.{change_asked}
use Rattle.cm_tool.specs.Texts.{number_reply}
use Rattle.cm_tool.proofs.Commands.{command_replies, number_fits}
use Rattle.cm_tool.proofs.answer.change.Goals as goal

pub returns-clause-machine : goal.returns-clause-machine
returns-clause-machine g c =
    let s = c.args.session.now in
    let asked = change_asked c.args.command in
    let call = c.store-stored in
    let disk = g.D.Disk in
    λ request is k matches ready.
    command_replies disk.view (Some request) number_reply k asked
    (disk.view.failures s.committer.disk) (disk.view.failures call.new.self.committer.disk) s
    call.new.self call.result c.tell_number.result ready
    (number_fits s.committer.sizes request asked is)
    (call.ensures.machine k matches ready.rest) (call.ensures.cause k matches ready.rest)
    (λ none. ap (λ (x : CommitterState _). disk.view.failures x.disk) (call.ensures.no_call none))
    call.ensures.no_call c.tell_number.ensures
