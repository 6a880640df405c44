use Rattle.std.proofs.Common.{◌≡◌, ℕ, List, None, subst, sym, ap, ◌∙◌}
use Rattle.std.specs.Arc.{arc_value}
use Rattle.cm_layout.specs.declared.row.Row.TheVariants.{Class}
use Rattle.cm_layout.specs.Rules.{broken_live_rule}
use Rattle.cm_rows.specs.Rows.{LiveRows}
use Rattle.cm_verdict.proofs.Shared.{is_pushed, both}
use Rattle.cm_verdict.proofs.shared_rows.SharedRows.push_class.Goals as goal

pub invariant_of-self : goal.invariant_of-self
invariant_of-self c =
    let a = c.self.inside in
    let words = Class c.args.row c.args.class in
    let keeps =
    subst (λ (l : LiveRows (List ℕ)). broken_live_rule l.sizes c.args.base l.rows words ≡ None)
    (sym c.self.view_is) c.requires in
    let one = c.apply_live-accepted in
    let two = c.apply_live-committed in
    both arc_value c.args.base a.accepted a.committed c.self.invariant.0 c.self.invariant.1 words
    (Class c.args.row c.into_record.result)
    (ap (λ (w : List ℕ). Class c.args.row w) (c.into_record.ensures.record
    ∙ c.in_ok-shared.ensures))
    keeps one.new.self two.new.self two.result
    (is_pushed a.accepted one.new.self c.args.base words one.result keeps one.ensures.broken
    one.ensures.left)
    two.ensures.broken two.ensures.left
