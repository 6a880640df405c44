use Rattle.std.proofs.Common.{◌∙◌, ap, sym, arith}
use Rattle.cm_class.specs.Names.{names_utf8}
use Rattle.cm_record_layout.specs.Packing.{first_of}
use Rattle.cm_record_parts.specs.Parts.{attributes_of}
use Rattle.cm_record_parts.proofs.Listed.{named_found, none_named}
use Rattle.cm_record_parts.proofs.attributes.attribute_named.Goals as goal

pub returns-then-is_utf8 : goal.returns-then-is_utf8
returns-then-is_utf8 c = λ d is.
    let has = ap (λ n. names_utf8 d n c.args.name.now)
    (sym (c.first.ensures ∙ ap first_of c.word_at.ensures))
    ∙ (sym (c.is_utf8.ensures d is) ∙ c.if-is_utf8.true) in
    named_found d c.args.words.now is c.in-Some.those (attributes_of d c.args.owner)
    c.args.name.now c.loop-index.index c.read_attribute.result (c.in-Some.ensures d is)
    c.loop-index-test.true
    (λ k own there place. c.read_attribute.ensures d k own is there place)
    (c.loop-index.invariant d is) has

pub returns : goal.returns
returns c = λ d is.
    none_named d c.args.words.now is c.in-Some.those (attributes_of d c.args.owner)
    c.args.name.now (c.in-Some.ensures d is)
    (λ k lt. c.loop-index.invariant d is k (omega (arith, lt, c.loop-index-test.false)))
