use Rattle.std.proofs.Common.{◌+◌, ◌++◌, ◌∙◌, drop, sym}
use Rattle.cm_record_rules.specs.Laid.{tags_from}
use Rattle.cm_record_rules.proofs.Filled.{tags_more, tags_end}
use Rattle.cm_record_rules.proofs.scratch.write_tags.Goals as goal

pub loop-word-preserved : goal.loop-word-preserved
loop-word-preserved c =
    (λ i. c.in_ok-push.ensures.items i ++ tags_from (c.is_wide_tag-is_second.ensures i)
    (drop (c.loop-word.word-index + 1) c.args.directory.now))
    ∙ (sym (tags_more c.loop-word.scratch.items c.loop-word.is_second c.args.directory.now
    c.loop-word.word-index c.tag_in-tag.result c.loop-word-test.true c.tag_in-tag.ensures)
    ∙ c.loop-word.invariant)

pub returns : goal.returns
returns c =
    sym (tags_end c.loop-word.scratch.items c.loop-word.is_second c.args.directory.now
    c.loop-word.word-index c.loop-word-test.false) ∙ c.loop-word.invariant
