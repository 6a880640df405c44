use Rattle.std.proofs.Common.{◌≡◌, ◌<◌, ◌+◌, ◌*◌, ◌^◌, ◌∷◌, [], ◌++◌, length, refl, sym, ap, subst}
use Rattle.std.proofs.Common.{◌∙◌, arith}
use Rattle.cm_class.specs.declared.class_file.Attribute.{Attribute}
use Rattle.cm_class.specs.Spelling.{u2, u4}
use Rattle.cm_record_layout.specs.Packing.{packed}
use Rattle.cm_record_laying.specs.Laying.{next_run}
use Rattle.cm_record_laying.proofs.Steps.{adds_then, adds_as}
use Rattle.cm_record_laying.proofs.ConstantsLaid.{both_spelled}
use Rattle.cm_record_laying.proofs.Joins.{attribute_laid}
use Rattle.cm_record_laying.proofs.lists.lay_attribute.Goals as goal

pub returns : goal.returns
returns c =
    let s = c.args.sections.now in
    let name = c.in_ok-name.ensures {u = tt} in
    let len = c.in_ok-len.ensures {u = tt} in
    let content = c.in_ok-content.content.now in
    let size : c.in_ok-len.len ≡ length content = sym c.in_ok-content.ensures.len in
    let at : c.in_ok-at.at ≡ next_run s = c.in_ok-at.ensures {u = tt} in
    let x : Attribute = record { name = c.in_ok-name.name; bytes = content } in
    let first : c.from.result + 4294967296 * c.from-2.result ≡ x.name + 2 ^ 32 * length content =
    omega (arith, c.from.ensures, c.from-2.ensures, size) in
    let second : c.from-3.result ≡ next_run s = c.from-3.ensures ∙ at in
    attribute_laid x c.args.bytes.now c.in_ok-content.rest.now s c.push_run.new.self
    (record {
      name = name.1;
      size = subst (λ n. n < 2 ^ 32) size len.1;
      bytes = c.in_ok-content.ensures.bytes;
    })
    (both_spelled c.args.bytes.now (u2 x.name ++ u4 (length content)) c.in_ok-len.rest.now content
    c.in_ok-content.rest.now
    (both_spelled c.args.bytes.now (u2 x.name) c.in_ok-name.rest.now (u4 (length content))
    c.in_ok-len.rest.now name.0 (len.0 ∙ ap (λ n. u4 n ++ c.in_ok-len.rest.now) size))
    c.in_ok-content.ensures.parts)
    (adds_as s c.push_run.new.self [] _ (packed content)
    (adds_then s c.push_attribute.new.self [] _ [] (c.in_ok-push_attribute.ensures {u = tt})
    c.push_run.new.self [] [] (packed content) (c.in_ok-push_run.ensures {u = tt}))
    [] ((x.name + 2 ^ 32 * length content) ∷ next_run s ∷ []) (packed content) refl
    (λ i. first i ∷ second i ∷ []) refl)
