use Rattle.std.proofs.Common.{◌≡◌, ◌<◌, ◌+◌, ◌*◌, ◌^◌, ◌∷◌, [], ◌++◌, length, refl, sym, ap, subst}
use Rattle.std.proofs.Common.{◌∙◌, arith}
use Rattle.cm_class.specs.declared.constant.Constant.TheVariants as constant
use Rattle.cm_class.specs.Spelling.{u2}
use Rattle.cm_record_layout.specs.Packing.{packed}
use Rattle.cm_record_laying.specs.Laying.{next_run}
use Rattle.cm_record_laying.proofs.Steps.{adds_then, adds_as}
use Rattle.cm_record_laying.proofs.ConstantsLaid.{both_spelled}
use Rattle.cm_record_laying.proofs.constants.lay_utf8.Goals as goal

pub returns : goal.returns
returns c =
    let len = c.in_ok-len.ensures {u = tt} in
    let utf8 = c.in_ok-utf8.utf8.now in
    let size : c.in_ok-len.len ≡ length utf8 =
    sym c.from.ensures ∙ sym c.in_ok-utf8.ensures.len in
    let s = c.args.sections.now in
    record {
      constant = constant.Utf8 utf8;
      fits = (subst (λ n. n < 2 ^ 16) size len.1, c.in_ok-utf8.ensures.bytes);
      kind_is = refl;
      wide_is = refl;
      spelled = both_spelled c.args.bytes.now (u2 (length utf8)) c.in_ok-len.rest.now utf8
          c.in_ok-utf8.rest.now (len.0 ∙ ap (λ n. u2 n ++ c.in_ok-len.rest.now) size)
          c.in_ok-utf8.ensures.parts;
      adds = adds_as s c.push_run.new.self _ [] (packed utf8)
          (adds_then s c.push_word.new.self _ [] [] (c.in_ok-push_word.ensures {u = tt})
          c.push_run.new.self [] [] (packed utf8) (c.in_ok-push_run.ensures {u = tt}))
          ((1 + 2 ^ 16 * length utf8 + 2 ^ 32 * next_run s) ∷ []) [] (packed utf8)
          (ap (λ n. n ∷ []) (omega (
            arith,
            size,
            c.tag.ensures.number,
            c.from-2.ensures,
            c.from-3.ensures,
            c.from-4.ensures,
            c.in_ok-at.ensures {u = tt},
          )))
          refl refl;
    }
