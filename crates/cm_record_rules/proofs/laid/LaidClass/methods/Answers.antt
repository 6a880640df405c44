use Rattle.std.proofs.Common.{◌≡◌, ◌+◌, ◌*◌, ◌≤◌, ap, drop, get_or, ◌∙◌, arith}
use Rattle.cm_record_layout.specs.Packing.{second_of, third_of}
use Rattle.cm_record_layout.specs.Layout.{limit}
use Rattle.cm_record_rules.specs.Laid.{members_in}
use Rattle.cm_record_rules.proofs.Whole.{its_methods, members_near}
use Rattle.cm_record_rules.proofs.laid.LaidClass.methods.Goals as goal

pub returns : goal.returns
returns c =
    let words = c.self.inside.words.now in
    let count = c.third.ensures ∙ ap third_of c.word_at-counts.ensures in
    let fields = c.from.ensures ∙ (c.second.ensures ∙ ap second_of c.word_at-counts.ensures) in
    let near : get_or words 5 0 ≤ limit = members_near c.args.self.now c.self.inside.words.now
    c.self.inside.bytes.now
    c.self.inside.tags.now c.self.invariant c.self.view_is in
    let place : c.saturating_add-at.result ≡ get_or words 5 0 + 2 * second_of (get_or words 2 0) =
    omega (arith, c.saturating_add-at.ensures, c.word_at-fields.ensures, fields, near) in
    c.new.ensures
    ∙ ((λ i. members_in words c.self.inside.bytes.now (count i) (drop (place i) words))
    ∙ its_methods c.args.self.now c.self.inside.words.now c.self.inside.bytes.now
    c.self.inside.tags.now c.self.invariant c.self.view_is)
