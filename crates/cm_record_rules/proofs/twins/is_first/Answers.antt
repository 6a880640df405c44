use Rattle.std.proofs.Common.{◌≡◌, ap, sym, ◌∙◌}
use Rattle.std.specs.Prelude.{◌&&◌, not, bytes_eq}
use Rattle.cm_class.specs.Names.{utf8}
use Rattle.cm_duplicates.specs.Duplicates.{same_member}
use Rattle.cm_record_rules.proofs.FirstMembers.{any_here, any_next}
use Rattle.cm_record_rules.proofs.twins.is_first.Goals as goal

pub returns-then-has_both : goal.returns-then-has_both
returns-then-has_both c =
    let class = c.args.class.now in
    let name : c.utf8-name.result.now ≡ utf8 class c.args.member.now.name =
    c.utf8-name.ensures ∙ ap (utf8 class) c.name.ensures in
    let descriptor : c.utf8-descriptor.result.now ≡ utf8 class c.args.member.now.descriptor =
    c.utf8-descriptor.ensures ∙ ap (utf8 class) c.descriptor.ensures in
    let same : c.has_both.result ≡ same_member class c.args.member.now c.in-Some.other =
    c.has_both.ensures ∙ (λ i. bytes_eq (name i) (utf8 class c.in-Some.other.name)
    && bytes_eq (descriptor i) (utf8 class c.in-Some.other.descriptor)) in
    ap not (sym (any_here (same_member class c.args.member.now) c.args.place c.loop.counter
    c.loop.rest c.next.new.self c.in-Some.other c.in-Some.ensures.steps c.loop-test.true
    (sym same ∙ c.if-has_both.true)) ∙ c.loop.invariant)

pub loop-preserved : goal.loop-preserved
loop-preserved c =
    let class = c.args.class.now in
    let name : c.utf8-name.result.now ≡ utf8 class c.args.member.now.name =
    c.utf8-name.ensures ∙ ap (utf8 class) c.name.ensures in
    let descriptor : c.utf8-descriptor.result.now ≡ utf8 class c.args.member.now.descriptor =
    c.utf8-descriptor.ensures ∙ ap (utf8 class) c.descriptor.ensures in
    let same : c.has_both.result ≡ same_member class c.args.member.now c.in-Some.other =
    c.has_both.ensures ∙ (λ i. bytes_eq (name i) (utf8 class c.in-Some.other.name)
    && bytes_eq (descriptor i) (utf8 class c.in-Some.other.descriptor)) in
    any_next (same_member class c.args.member.now) c.args.place c.loop.counter c.loop.rest
    c.next.new.self c.in-Some.other c.in-Some.ensures.steps c.loop-test.true
    (sym same ∙ c.if-has_both.false) ∙ c.loop.invariant
