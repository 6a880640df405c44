use Rattle.std.proofs.Common.{◌≡◌, ◌+◌, ◌∙◌, ap, get_or}
use Rattle.std.specs.Option.{option_map_or}
use Rattle.cm_class.specs.Names.{name_index, descriptor_index}
use Rattle.cm_record_rules.proofs.Whole.{its_pair, no_pair}
use Rattle.cm_record_rules.proofs.laid.LaidClass.name_and_type.Goals as goal

pub returns-then-tag-ne-NAME_AND_TYPE_TAG-clause-name :
    goal.returns-then-tag-ne-NAME_AND_TYPE_TAG-clause-name
returns-then-tag-ne-NAME_AND_TYPE_TAG-clause-name c =
    (no_pair c.args.self.now c.args.index c.tag.result c.tag.ensures
    c.if-tag-ne-NAME_AND_TYPE_TAG.true).0

pub returns-then-tag-ne-NAME_AND_TYPE_TAG-clause-descriptor :
    goal.returns-then-tag-ne-NAME_AND_TYPE_TAG-clause-descriptor
returns-then-tag-ne-NAME_AND_TYPE_TAG-clause-descriptor c =
    (no_pair c.args.self.now c.args.index c.tag.result c.tag.ensures
    c.if-tag-ne-NAME_AND_TYPE_TAG.true).1

pub returns-clause-name : goal.returns-clause-name
returns-clause-name c =
    let here : c.word_at-word.result ≡ get_or c.self.inside.words.now (8 + c.args.index) 0 =
    c.word_at-word.ensures ∙ ap (λ k. get_or c.self.inside.words.now (8 + k) 0) c.from.ensures in
    c.third.ensures ∙ ap (λ o. option_map_or name_index o 0)
    (its_pair c.args.self.now c.self.inside.words.now c.self.inside.bytes.now
    c.self.inside.tags.now c.self.invariant c.self.view_is c.args.index c.tag.result
    c.word_at-word.result c.tag.ensures c.if-tag-ne-NAME_AND_TYPE_TAG.false here)

pub returns-clause-descriptor : goal.returns-clause-descriptor
returns-clause-descriptor c =
    let here : c.word_at-word.result ≡ get_or c.self.inside.words.now (8 + c.args.index) 0 =
    c.word_at-word.ensures ∙ ap (λ k. get_or c.self.inside.words.now (8 + k) 0) c.from.ensures in
    c.fourth.ensures ∙ ap (λ o. option_map_or descriptor_index o 0)
    (its_pair c.args.self.now c.self.inside.words.now c.self.inside.bytes.now
    c.self.inside.tags.now c.self.invariant c.self.view_is c.args.index c.tag.result
    c.word_at-word.result c.tag.ensures c.if-tag-ne-NAME_AND_TYPE_TAG.false here)
