use Rattle.std.proofs.Common.{◌∙◌, ◌+◌, ◌*◌, get_or, ap, arith}
use Rattle.cm_record_layout.proofs.{record_long}
use Rattle.cm_record.proofs.MemberPlaces.{members_fit, methods_count, item_there}
use Rattle.cm_record.proofs.AttributePlaces.{attributes_found, attributes_counted}
use Rattle.cm_record.proofs.AttributePlaces.{attributes_inside}
use Rattle.cm_record.proofs.code.method_attributes.Goals as goal

pub bounds-words-5 : goal.bounds-words-5
bounds-words-5 c = omega (arith, record_long c.args.words.now c.requires.record)

pub overflow_add-place-2 : goal.overflow_add-place-2
overflow_add-place-2 c = let is = c.requires.record in
    record {
      fits =
          omega (
            arith,
            c.second.ensures,
            c.requires.there,
            members_fit is.0 c.args.words.now is.1,
            is.1.short,
          );
    }

pub overflow_add-result : goal.overflow_add-result
overflow_add-result c = let is = c.requires.record in
    record {
      fits =
          omega (
            arith,
            c.second.ensures,
            c.requires.there,
            members_fit is.0 c.args.words.now is.1,
            is.1.short,
          );
    }

pub offset_bounds-words-place : goal.offset_bounds-words-place
offset_bounds-words-place c = let is = c.requires.record in
    record {
      fits =
          omega (
            arith,
            c.second.ensures,
            c.requires.there,
            members_fit is.0 c.args.words.now is.1,
            is.1.short,
          );
    }

pub bounds-words-place : goal.bounds-words-place
bounds-words-place c = let is = c.requires.record in
    omega (arith, c.second.ensures, c.requires.there, members_fit is.0 c.args.words.now is.1)

pub offset_bounds-words-place-2 : goal.offset_bounds-words-place-2
offset_bounds-words-place-2 c = let is = c.requires.record in
    record {
      fits =
          omega (
            arith,
            c.second.ensures,
            c.requires.there,
            members_fit is.0 c.args.words.now is.1,
            is.1.short,
          );
    }

pub bounds-words-place-2 : goal.bounds-words-place-2
bounds-words-place-2 c = let is = c.requires.record in
    omega (arith, c.second.ensures, c.requires.there, members_fit is.0 c.args.words.now is.1)

pub returns-clause-attributes : goal.returns-clause-attributes
returns-clause-attributes c = λ d own is method.
    let w = c.args.words.now in
    let i = c.args.index in
    let place = get_or w 5 0 + 2 * (c.second.result + i) in
    let here = ap (λ n. get_or w 5 0 + 2 * (n + i)) c.second.ensures in
    let at = attributes_found d w is i own method place here in
    let count = c.fourth.ensures ∙ attributes_counted d w is i own method place here in
    λ n. record { at = at n; count = count n }

pub returns-clause-within : goal.returns-clause-within
returns-clause-within c =
    let w = c.args.words.now in
    let i = c.args.index in
    let d = c.requires.record.0 in
    let is = c.requires.record.1 in
    let own = item_there d.methods i (omega (arith, c.requires.there, methods_count d w is)) in
    let place = get_or w 5 0 + 2 * (c.second.result + i) in
    let here = ap (λ n. get_or w 5 0 + 2 * (n + i)) c.second.ensures in
    omega (
      arith,
      attributes_found d w is i own.0 own.1 place here,
      c.fourth.ensures
          ∙ attributes_counted d w is i own.0 own.1 place here,
      attributes_inside d w is i own.0 own.1,
    )
