use Rattle.std.proofs.Common.{◌≡◌, ◌<◌, ◌+◌, ◌∙◌, Option, Some, length, slice_get, ap, subst, sym}
use Rattle.std.proofs.Common.{arith}
use Rattle.cm_class.specs.declared.class_file.Member.{Member as ClassMember}
use Rattle.cm_record_layout.specs.Layout.{all_members}
use Rattle.cm_record_parts.specs.Parts.{MayBeMember}
use Rattle.cm_record_parts.proofs.PartPlaces.{item_there, after_front}
use Rattle.cm_record_parts.proofs.members.method.Goals as goal

pub returns : goal.returns
returns c = λ d is.
    let words = c.args.words.now in
    let i = c.args.index in
    let lt : i < length d.methods =
    omega (arith, c.if-index-method_count.false, c.method_count.ensures d is) in
    let own = item_there d.methods i lt in
    let place : c.from-before.result + c.from.result ≡ length d.fields + i =
    omega (arith, c.from-before.ensures, c.from.ensures, c.field_count.ensures d is) in
    let there = ap (slice_get (all_members d)) place
    ∙ (after_front d.fields d.methods i ∙ own.1) in
    subst (λ (o : Option ClassMember). MayBeMember d words (Some c.member_at.result) o)
    (sym own.1) (c.member_at.ensures d own.0 is there)
