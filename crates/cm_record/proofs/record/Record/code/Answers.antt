use Rattle.std.proofs.Common.{◌≡◌, ◌∙◌, ◌*◌, ◌+◌, ap, sym, subst, refl, arith}
use Rattle.std.proofs.Common.{ℕ}
use Rattle.cm_record_layout.specs.Layout.{IsRecordOf}
use Rattle.cm_record.specs.Code.{code_in}
use Rattle.cm_record.specs.Runs.{attribute_run_at}
use Rattle.cm_record.proofs.MemberPlaces.{index_there, item_there, methods_count}
use Rattle.cm_record.proofs.AttributePlaces.{none_named, code_there, found_run, found_place}
use Rattle.cm_record.proofs.AttributePlaces.{found_is, none_there}
use Rattle.cm_record.proofs.record.Record.code.Goals as goal

pub returns-in_default-clause-code : goal.returns-in_default-clause-code
returns-in_default-clause-code c = λ d own j a is has.
    let words = c.as_slice-words.result.now in
    let of : IsRecordOf d words = subst (IsRecordOf d) (sym c.as_slice-words.ensures.words) is in
    let those = c.method_attributes-at.ensures.attributes d own of has.method in
    absurd (none_named d words of c.args.member.now.index own has.method
    c.method_attributes-at.result.at c.method_attributes-at.result.count (λ n. (those n).at)
    (λ n. (those n).count) (c.in_default.ensures.none d of refl) j a has.there has.named)

pub code_in_run-requires-clause-run : goal.code_in_run-requires-clause-run
code_in_run-requires-clause-run c =
    let words = c.as_slice-words.result.now in
    let d = c.as_slice-words.ensures.record.0 in
    let of = c.as_slice-words.ensures.record.1 in
    let i = c.args.member.now.index in
    let own = item_there d.methods i
    (omega (arith, c.if-member-third.false, c.third.ensures, methods_count d words of)) in
    let those = c.method_attributes-at.ensures.attributes d own.0 of own.1 in
    let at = c.method_attributes-at.result.at in
    let count = c.method_attributes-at.result.count in
    let it = code_there d words of i own.0 own.1 at count (λ n. (those n).at)
    (λ n. (those n).count) c.in-Some.found (c.in-Some.ensures.some d of) in (
      it.0.bytes,
      found_run d words of i own.0 own.1 at count (λ n. (those n).at)
          (λ n. (those n).count) c.in-Some.found it.0 it.1 c.attribute_run.result
          c.attribute_run.ensures,
    )

pub returns-clause-code : goal.returns-clause-code
returns-clause-code c = λ d own j a is has.
    let words = c.as_slice-words.result.now in
    let of : IsRecordOf d words = subst (IsRecordOf d) (sym c.as_slice-words.ensures.words) is in
    let i = c.args.member.now.index in
    let those = c.method_attributes-at.ensures.attributes d own of has.method in
    let at = c.method_attributes-at.result.at in
    let count = c.method_attributes-at.result.count in
    let found = c.in-Some.found in
    let same : found ≡ j = found_is d words of i own has.method at count (λ n. (those n).at)
    (λ n. (those n).count) found (c.in-Some.ensures.some d of) j a has.there has.named has.first in
    let run = c.attribute_run.result in
    let er : run ≡ attribute_run_at words (at + 2 * j) =
    c.attribute_run.ensures ∙ ap (λ (n : ℕ). attribute_run_at words (at + 2 * n)) same in
    c.code_in_run.ensures a.bytes (found_run d words of i own has.method at count
    (λ n. (those n).at) (λ n. (those n).count) j a has.there run er)
    ∙ ap (λ n. code_in (8 * n) a.bytes) (found_place d words of i own has.method at count
    (λ n. (those n).at) (λ n. (those n).count) j a has.there run er)

pub returns-clause-none : goal.returns-clause-none
returns-clause-none c = λ d is no.
    let words = c.as_slice-words.result.now in
    let of : IsRecordOf d words = subst (IsRecordOf d) (sym c.as_slice-words.ensures.words) is in
    let i = c.args.member.now.index in
    let own = item_there d.methods i
    (omega (arith, c.if-member-third.false, c.third.ensures, methods_count d words of)) in
    let those = c.method_attributes-at.ensures.attributes d own.0 of own.1 in
    absurd (none_there d words of i own.0 own.1 c.method_attributes-at.result.at
    c.method_attributes-at.result.count (λ n. (those n).at) (λ n. (those n).count)
    c.in-Some.found (c.in-Some.ensures.some d of)
    (λ j a there. no own.0 j a c.if-not-member.false own.1 there))

pub returns-then-member-third-clause-code : goal.returns-then-member-third-clause-code
returns-then-member-third-clause-code c = λ d own j a is has.
    let words = c.as_slice-words.result.now in
    let of : IsRecordOf d words = subst (IsRecordOf d) (sym c.as_slice-words.ensures.words) is in
    absurd (omega (
      arith,
      index_there d.methods c.args.member.now.index own has.method,
      c.if-member-third.true,
      c.third.ensures,
      methods_count d words of,
    ))
