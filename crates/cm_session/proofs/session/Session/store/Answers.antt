use Rattle.std.proofs.Common.{Err, subst, sym, ◌∙◌}
use Rattle.cm_guards.specs.Calls.{LeavesOnly}
use Rattle.cm_commands.specs.Commands.{change_asked}
use Rattle.cm_commit.specs.States.{CommitterState}
use Rattle.cm_commands.specs.Machine.{Machine}
use Rattle.cm_session.specs.Images.{StandsForSome}
use Rattle.cm_session.specs.declared.storing.NotStored.TheVariants.{Unsure}
use Rattle.cm_session.specs.Storing.{FailsOnly}
use Rattle.cm_session.proofs.Stored.{refuses, no_place, sealed, all_stored, handed, stores, loses}
use Rattle.cm_session.proofs.Stored.{fails}
use Rattle.cm_session.proofs.session.Session.store.Goals as goal

pub returns-in-Err-clause-machine : goal.returns-in-Err-clause-machine
returns-in-Err-clause-machine g c =
    let s = c.args.self.now in
    λ k matches rest.
    refuses s.committer.sizes k (change_asked c.args.command)
    (LeavesOnly g.D.Disk.view s.committer.disk
    c.accept.new.self.committer.disk)
    c.in-Err.refusal rest (c.in-Err.ensures.machine k matches)

pub returns-then-is_err-clause-machine : goal.returns-then-is_err-clause-machine
returns-then-is_err-clause-machine g c =
    let sizes = c.args.self.now.committer.sizes in
    λ k matches rest.
    let a = c.in-Ok.ensures.machine k matches in
    no_place c.seal.result c.if-is_err.ensures.value
    (c.seal.ensures.place a.reaches.next a.reaches.matches
    (all_stored sizes k a.change c.in-Ok.number a.reaches.next rest a.reaches.does))

pub returns-then-is_err-clause-cause : goal.returns-then-is_err-clause-cause
returns-then-is_err-clause-cause g c =
    let sizes = c.args.self.now.committer.sizes in
    λ k matches rest.
    let a = c.in-Ok.ensures.machine k matches in
    no_place c.seal.result c.if-is_err.ensures.value
    (c.seal.ensures.place a.reaches.next a.reaches.matches
    (all_stored sizes k a.change c.in-Ok.number a.reaches.next rest a.reaches.does))

pub returns-then-is_err-clause-told : goal.returns-then-is_err-clause-told
returns-then-is_err-clause-told g c =
    let sizes = c.args.self.now.committer.sizes in
    λ k matches rest.
    let a = c.in-Ok.ensures.machine k matches in
    no_place c.seal.result c.if-is_err.ensures.value
    (c.seal.ensures.place a.reaches.next a.reaches.matches
    (all_stored sizes k a.change c.in-Ok.number a.reaches.next rest a.reaches.does))

pub returns-in-Ok-progress-clause-machine : goal.returns-in-Ok-progress-clause-machine
returns-in-Ok-progress-clause-machine g c =
    let s = c.args.self.now in
    let disk = g.D.Disk in
    let sizes = s.committer.sizes in
    let left = c.learn.new.self.committer.disk in
    λ k matches rest.
    let a = c.in-Ok.ensures.machine k matches in
    let accepted = a.reaches.next in
    let answers = a.reaches.does in
    let number = c.in-Ok.number in
    let h : Machine = handed sizes k a.change number accepted rest answers in
    let with_it = sealed sizes k a.change number accepted rest answers c.seal.result
    (c.seal.ensures.place accepted a.reaches.matches
    (all_stored sizes k a.change number accepted rest answers))
    (c.seal.ensures.machine accepted a.reaches.matches) in
    let same = c.seal.ensures.disk ∙ c.accept.ensures.disk in
    let moments : LeavesOnly disk.view s.committer.disk left
    (StandsForSome sizes h) =
    subst (λ (d : CommitterState _). LeavesOnly disk.view s.committer.disk d.disk
    (StandsForSome sizes h)) (sym c.learn.ensures.disk)
    (subst (λ (b : CommitterState _). LeavesOnly disk.view b.disk
    c.advance_group-progress.new.self.committer.disk (StandsForSome b.sizes h)) same
    (c.advance_group-progress.ensures.any_moment h with_it)) in
    stores sizes k a.change number accepted rest answers (change_asked c.args.command) a.asks
    (LeavesOnly disk.view s.committer.disk left) moments c.in-Ok-progress.field-0
    c.in-Ok-progress.ensures.ends c.in-Ok-progress.ensures.past_trims
    (c.in-Ok-progress.ensures.machine h with_it) c.learn.result
    c.learn.ensures.machine

pub returns-in-Err-progress-clause-machine : goal.returns-in-Err-progress-clause-machine
returns-in-Err-progress-clause-machine g c =
    let s = c.args.self.now in
    let disk = g.D.Disk in
    let sizes = s.committer.sizes in
    let left = c.learn.new.self.committer.disk in
    λ k matches rest.
    let a = c.in-Ok.ensures.machine k matches in
    let accepted = a.reaches.next in
    let answers = a.reaches.does in
    let number = c.in-Ok.number in
    let h : Machine = handed sizes k a.change number accepted rest answers in
    let with_it = sealed sizes k a.change number accepted rest answers c.seal.result
    (c.seal.ensures.place accepted a.reaches.matches
    (all_stored sizes k a.change number accepted rest answers))
    (c.seal.ensures.machine accepted a.reaches.matches) in
    let same = c.seal.ensures.disk ∙ c.accept.ensures.disk in
    let moments : LeavesOnly disk.view s.committer.disk left
    (StandsForSome sizes h) =
    subst (λ (d : CommitterState _). LeavesOnly disk.view s.committer.disk d.disk
    (StandsForSome sizes h)) (sym c.learn.ensures.disk)
    (subst (λ (b : CommitterState _). LeavesOnly disk.view b.disk
    c.advance_group-progress.new.self.committer.disk (StandsForSome b.sizes h)) same
    (c.advance_group-progress.ensures.any_moment h with_it)) in
    loses sizes k a.change number accepted rest answers (change_asked c.args.command) a.asks
    (LeavesOnly disk.view s.committer.disk left) moments c.in-Err-progress.field-0
    (c.in-Err-progress.ensures.machine h with_it) c.learn.result c.learn.ensures.machine

pub returns-in-Err-progress-clause-cause : goal.returns-in-Err-progress-clause-cause
returns-in-Err-progress-clause-cause g c =
    let s = c.args.self.now in
    let failures = g.D.Disk.view.failures in
    let sizes = s.committer.sizes in
    λ k matches rest.
    let a = c.in-Ok.ensures.machine k matches in
    let accepted = a.reaches.next in
    let answers = a.reaches.does in
    let number = c.in-Ok.number in
    let h : Machine = handed sizes k a.change number accepted rest answers in
    let with_it = sealed sizes k a.change number accepted rest answers c.seal.result
    (c.seal.ensures.place accepted a.reaches.matches
    (all_stored sizes k a.change number accepted rest answers))
    (c.seal.ensures.machine accepted a.reaches.matches) in
    let same = c.seal.ensures.disk ∙ c.accept.ensures.disk in
    let now = failures c.advance_group-progress.new.self.committer.disk in
    subst (λ (d : CommitterState _). FailsOnly (failures s.committer.disk) (failures d.disk)
    (Err (Unsure number))) (sym c.learn.ensures.disk)
    (subst (λ (b : CommitterState _). FailsOnly (failures b.disk) now (Err (Unsure number))) same
    (fails sizes k a.change number accepted rest answers
    (failures c.seal.new.self.committer.disk) now c.in-Err-progress.field-0
    (c.in-Err-progress.ensures.machine h with_it) c.in-Err-progress.ensures.cause))

pub returns-in-Ok-progress-clause-told : goal.returns-in-Ok-progress-clause-told
returns-in-Ok-progress-clause-told g c =
    let sizes = c.args.self.now.committer.sizes in
    λ k matches rest.
    let a = c.in-Ok.ensures.machine k matches in
    let h = handed sizes k a.change c.in-Ok.number a.reaches.next rest a.reaches.does in
    let with_it = sealed sizes k a.change c.in-Ok.number a.reaches.next rest a.reaches.does
    c.seal.result (c.seal.ensures.place a.reaches.next a.reaches.matches
    (all_stored sizes k a.change c.in-Ok.number a.reaches.next rest a.reaches.does))
    (c.seal.ensures.machine a.reaches.next a.reaches.matches) in
    let stored = c.in-Ok-progress.ensures.machine h with_it in
    c.learn.ensures.told stored.next stored.matches

pub returns-in-Err-progress-clause-told : goal.returns-in-Err-progress-clause-told
returns-in-Err-progress-clause-told g c =
    let sizes = c.args.self.now.committer.sizes in
    λ k matches rest.
    let a = c.in-Ok.ensures.machine k matches in
    let h = handed sizes k a.change c.in-Ok.number a.reaches.next rest a.reaches.does in
    let with_it = sealed sizes k a.change c.in-Ok.number a.reaches.next rest a.reaches.does
    c.seal.result (c.seal.ensures.place a.reaches.next a.reaches.matches
    (all_stored sizes k a.change c.in-Ok.number a.reaches.next rest a.reaches.does))
    (c.seal.ensures.machine a.reaches.next a.reaches.matches) in
    let lost = c.in-Err-progress.ensures.machine h with_it in
    c.learn.ensures.told lost.next lost.matches

pub returns-in-Err-clause-past : goal.returns-in-Err-clause-past
returns-in-Err-clause-past g c = λ k p matches rest h. c.in-Err.ensures.past k p matches h

pub returns-then-is_err-clause-past : goal.returns-then-is_err-clause-past
returns-then-is_err-clause-past g c =
    let sizes = c.args.self.now.committer.sizes in
    λ k p matches rest h.
    let a = c.in-Ok.ensures.machine k matches in
    no_place c.seal.result c.if-is_err.ensures.value
    (c.seal.ensures.place a.reaches.next a.reaches.matches
    (all_stored sizes k a.change c.in-Ok.number a.reaches.next rest a.reaches.does))

pub returns-in-Ok-progress-clause-past : goal.returns-in-Ok-progress-clause-past
returns-in-Ok-progress-clause-past g c =
    let sizes = c.args.self.now.committer.sizes in
    λ k p matches rest past.
    let a = c.in-Ok.ensures.machine k matches in
    let h = handed sizes k a.change c.in-Ok.number a.reaches.next rest a.reaches.does in
    let with_it = sealed sizes k a.change c.in-Ok.number a.reaches.next rest a.reaches.does
    c.seal.result (c.seal.ensures.place a.reaches.next a.reaches.matches
    (all_stored sizes k a.change c.in-Ok.number a.reaches.next rest a.reaches.does))
    (c.seal.ensures.machine a.reaches.next a.reaches.matches) in
    let stored = c.in-Ok-progress.ensures.machine h with_it in
    c.learn.ensures.past stored.next stored.matches

pub returns-in-Err-progress-clause-past : goal.returns-in-Err-progress-clause-past
returns-in-Err-progress-clause-past g c =
    let sizes = c.args.self.now.committer.sizes in
    λ k p matches rest past.
    let a = c.in-Ok.ensures.machine k matches in
    let h = handed sizes k a.change c.in-Ok.number a.reaches.next rest a.reaches.does in
    let with_it = sealed sizes k a.change c.in-Ok.number a.reaches.next rest a.reaches.does
    c.seal.result (c.seal.ensures.place a.reaches.next a.reaches.matches
    (all_stored sizes k a.change c.in-Ok.number a.reaches.next rest a.reaches.does))
    (c.seal.ensures.machine a.reaches.next a.reaches.matches) in
    let lost = c.in-Err-progress.ensures.machine h with_it in
    c.learn.ensures.past lost.next lost.matches
