use Rattle.std.proofs.Common.{◌-◌, sym, ap, subst, ◌∙◌}
use Rattle.cm_guards.specs.Guards.{EachImage}
use Rattle.cm_commit.specs.States.{CommitterState, MayLeave}
use Rattle.cm_cache.specs.Channel.{entries_of}
use Rattle.cm_cache.specs.Flushing.{EndedState}
use Rattle.cm_cache.specs.Closing.{ShowsBeginning}
use Rattle.cm_cache.proofs.Leaving.{sent_follow, shows_sent}
use Rattle.cm_cache.proofs.flushing.Ended.leave.Goals as goal

pub returns-clause-follow : goal.returns-clause-follow
returns-clause-follow g c = sent_follow _ _ c.settle-settled.ensures.ordered

pub returns-clause-images : goal.returns-clause-images
returns-clause-images g c =
    let view = g.D.Disk.view in
    let base = g.K.Naming.base in
    let sent = entries_of c.args.outgoing.sent in
    let i = c.self.invariant in
    let all = c.settle-settled.ensures.whole
    (i.ended (ap (λ (e : EndedState _). e.over) c.self.view_is ∙ c.requires.over)) in
    let images = subst
    (λ (s : CommitterState g.row.D.Denot). EachImage (view.contents s.disk) (view.unsynced s.disk)
    (MayLeave s))
    c.committer-committer.ensures c.images.ensures in
    let number = c.number-number.ensures
    ∙ ap (λ (s : CommitterState g.row.D.Denot). s.number) c.committer-committer.ensures in
    subst
    (λ n. EachImage (view.contents c.into_disk-disk.result) (view.unsynced c.into_disk-disk.result)
    (ShowsBeginning base sent (n - base.number))) (sym number)
    (subst
    (λ d. EachImage (view.contents d) (view.unsynced d)
    (ShowsBeginning base sent (c.self.inside.storage.number - base.number)))
    (sym c.into_disk-disk.ensures) (shows_sent _ _ _ _ i _ all _ _ images))
