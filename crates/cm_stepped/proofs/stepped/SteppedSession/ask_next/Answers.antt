use Rattle.std.proofs.Common.{sym, subst, ap, ◌∙◌}
use Rattle.cm_commit.specs.States.{CommitterState}
use Rattle.cm_stepped.specs.Stepping.{SteppedMatches}
use Rattle.cm_stepped.proofs.Asking.{asks_first, asks_second, idle_asks}
use Rattle.cm_stepped.proofs.stepped.SteppedSession.ask_next.Goals as goal

pub returns-then-not-is_idle_step : goal.returns-then-not-is_idle_step
returns-then-not-is_idle_step g c =
    let s = c.args.self.now in
    λ k m.
    let a = c.ask-step.ensures.machine k m in
    record {
      next = a.next;
      does = asks_first g.D.Disk.view g.D.Disk.called k s c.ask-step.result c.ask-step.new.self
          a.next (sym c.is_idle_step.ensures ∙ c.if-not-is_idle_step.true) a.does;
      matches = a.matches;
    }

pub returns : goal.returns
returns g c =
    let s = c.args.self.now in
    let mid = c.ask-step.new.self in
    let idle = sym c.is_idle_step.ensures ∙ c.if-not-is_idle_step.false in
    let none = c.ask-step.ensures.none idle in
    let out = c.hand_out.ensures in
    λ k m.
    let a = c.ask-step.ensures.machine k m in
    let i = idle_asks g.D.Disk.view g.D.Disk.called k s c.ask-step.result mid a.next idle a.does in
    let h = out.machine k (subst (λ j. SteppedMatches j mid) i.0 a.matches) i.1 in
    let b = c.ask.ensures.machine h.next h.matches in
    record {
      next = b.next;
      does = asks_second g.D.Disk.view g.D.Disk.called k h.next s c.hand_out.new.self c.ask.result
          c.ask.new.self b.next (record {
            disk = ap (λ (x : CommitterState _). x.disk) out.disk ∙ none.disk;
            sizes = ap (λ (x : CommitterState _). x.sizes) out.disk ∙ none.sizes;
          }) i.1 h.does b.does;
      matches = b.matches;
    }
