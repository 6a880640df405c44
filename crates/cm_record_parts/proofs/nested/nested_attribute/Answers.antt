use Rattle.std.proofs.Common.{◌≡◌, ◌∙◌, ◌+◌, ◌≤◌, ◌%◌, ◌^◌, ℕ, Option, Some, length, take}
use Rattle.std.proofs.Common.{drop, sym, subst, arith}
use Rattle.cm_class.specs.declared.class_file.Attribute.{Attribute as ClassAttribute}
use Rattle.cm_class.specs.Names.{utf8}
use Rattle.cm_record.specs.Code.{u2_at, u4_at}
use Rattle.cm_record_parts.specs.Parts.{MayBeAttribute}
use Rattle.cm_record_parts.specs.declared.places.Place.{Place}
use Rattle.cm_record_parts.specs.declared.attributes.Attribute.{Attribute}
use Rattle.cm_record_parts.specs.Places.{LieAt}
use Rattle.cm_record_parts.proofs.NestedPlaces.{lie_within, nested_is}
use Rattle.cm_record_parts.proofs.nested.nested_attribute.Goals as goal

pub returns : goal.returns
returns c = λ d bytes is lies.
    let words = c.args.words.now in
    let from = c.args.from in
    let size : c.from-len.result ≡ length bytes = c.from-len.ensures ∙ lies.len in
    let own : c.u4-own.result ≡ u4_at bytes (2 + from) =
    c.u4-own.ensures bytes lies (omega (arith, size, c.if-len-from.false)) in
    let name : c.u2.result ≡ u2_at bytes from =
    c.u2.ensures bytes lies (omega (arith, size, c.if-len-from.false)) in
    let place : Place = record {
      at = (c.from-2.result + 6 + from) % 2 ^ 32;
      len = c.u4-own.result;
    } in
    let fits : 6 + from + c.u4-own.result ≤ length bytes =
    omega (arith, size, c.if-len-from-2.false, c.from.ensures) in
    let at : place.at ≡ c.args.content.at + (6 + from) =
    omega (arith, size, fits, lies.within, is.short, lies.len, c.from-2.ensures) in
    let found : Attribute = record { name = c.utf8_place.result; content = place } in
    subst (λ (o : Option ClassAttribute). MayBeAttribute d words (Some found) o)
    (sym (nested_is bytes from (omega (arith, size, c.if-len-from.false))
    (omega (arith, fits, own))))
    (record {
      name =
          subst (λ (n : ℕ). LieAt words c.utf8_place.result (utf8 d n)) name
          (c.utf8_place.ensures d is);
      content =
          subst (λ (n : ℕ). LieAt words place (take n (drop (6 + from) bytes))) own
          (lie_within words bytes c.args.content place (6 + from) lies fits at);
    })
