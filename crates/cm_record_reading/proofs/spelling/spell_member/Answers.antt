use Rattle.std.proofs.Common.{◌≡◌, ◌<◌, ◌^◌, ◌-◌, ◌++◌, ◌∙◌, ℕ, List, length, take, drop, get_or}
use Rattle.std.proofs.Common.{refl, ap, arith}
use Rattle.std.proofs.lemmas.Result.{err_from_is_err_and}
use Rattle.cm_class.specs.Spelling.{u2, attribute_bytes, member_bytes, counted}
use Rattle.cm_record_layout.specs.Packing.{first_of, second_of, third_of, fourth_of}
use Rattle.cm_record_reading.specs.Reading.{attributes_from, member_at, behind3, behind4}
use Rattle.cm_record_reading.proofs.Counts.{member_spelled, with_main}
use Rattle.cm_record_reading.proofs.Turns.{fails_through}
use Rattle.cm_record_reading.proofs.spelling.spell_member.Goals as goal

pub returns-in_err-attributes-clause-read : goal.returns-in_err-attributes-clause-read
returns-in_err-attributes-clause-read c =
    let main = c.args.main.now in
    let attrs = c.args.attributes.now in
    let out = c.args.out.now.items in
    let w = get_or main 0 0 in
    let rest = take (length main - 2) (drop 2 main) in
    let put : c.put_u16-3.new.out.items
    ≡ out ++ u2 (first_of w) ++ u2 (second_of w) ++ u2 (third_of w) =
    rw (
      c.in_ok-put_u16-3.ensures,
      c.in_ok-put_u16-2.ensures,
      c.in_ok-put_u16.ensures,
      c.first.ensures,
      c.second.ensures,
      c.third.ensures,
    ) refl in
    let small : w < 2 ^ 64 = omega (arith, c.type_inv.main 0) in
    let same =
    member_spelled c.args.total main attrs c.args.runs.now out c.put_u16-3.new.out.items
    c.in-len2-up.len_at_least small c.if-at-total.false put in
    let p = err_from_is_err_and c.from_residual-in_err-attributes.result
    c.from_residual-in_err-attributes.ensures.1 in
    rw (p.1, p.2) (fails_through c.in_err-attributes.field-0.0
    (behind3 c.put_u16-3.new.out.items (counted attribute_bytes)
    (attributes_from c.args.total (fourth_of w) attrs c.args.runs.now))
    (behind4 out member_bytes (member_at c.args.total main attrs c.args.runs.now))
    (λ none. same ∙ ap (with_main {A = List ℕ} {B = List ℕ} {C = List ℕ} {D = List ℕ} rest) none)
    (rw c.fourth.ensures at c.in_err-attributes.ensures.read))

pub returns-clause-read : goal.returns-clause-read
returns-clause-read c =
    let main = c.args.main.now in
    let attrs = c.args.attributes.now in
    let out = c.args.out.now.items in
    let w = get_or main 0 0 in
    let rest = take (length main - 2) (drop 2 main) in
    let put : c.put_u16-3.new.out.items
    ≡ out ++ u2 (first_of w) ++ u2 (second_of w) ++ u2 (third_of w) =
    rw (
      c.in_ok-put_u16-3.ensures,
      c.in_ok-put_u16-2.ensures,
      c.in_ok-put_u16.ensures,
      c.first.ensures,
      c.second.ensures,
      c.third.ensures,
    ) refl in
    let small : w < 2 ^ 64 = omega (arith, c.type_inv.main 0) in
    member_spelled c.args.total main attrs c.args.runs.now out c.put_u16-3.new.out.items
    c.in-len2-up.len_at_least small c.if-at-total.false put
    ∙ ap (with_main {A = List ℕ} {B = List ℕ} {C = List ℕ} {D = List ℕ} rest)
    (rw c.fourth.ensures at c.in_ok-attributes.ensures.read)
