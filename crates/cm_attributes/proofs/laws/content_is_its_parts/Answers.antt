use Rattle.cm_attributes.proofs.ExactContents.{content_has_parts, parts_are_content}
use Rattle.cm_attributes.proofs.laws.content_is_its_parts.Goals as goal

pub returns-clause-parts : goal.returns-clause-parts
returns-clause-parts c = content_has_parts

pub returns-clause-all : goal.returns-clause-all
returns-clause-all c = parts_are_content
