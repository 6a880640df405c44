use Rattle.cm_record_parts.specs.Parts.{attributes_of}
use Rattle.cm_record_parts.proofs.Listed.{listed_at}
use Rattle.cm_record_parts.proofs.attributes.attribute_at.Goals as goal

pub returns : goal.returns
returns c = λ d is.
    listed_at d c.args.words.now is c.in-Some.those (attributes_of d c.args.owner) c.args.index
    c.read_attribute.result (c.in-Some.ensures d is) c.if-index-those.false
    (λ k own there place. c.read_attribute.ensures d k own is there place)
