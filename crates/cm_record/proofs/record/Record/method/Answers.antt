use Rattle.std.proofs.Common.{sym, subst, arith}
use Rattle.cm_record_layout.specs.Layout.{IsRecordOf}
use Rattle.cm_record.proofs.MemberPlaces.{methods_are, members_fit}
use Rattle.cm_record.proofs.record.Record.method.Goals as goal

pub overflow_add-methods : goal.overflow_add-methods
overflow_add-methods c =
    let is = c.as_slice-words.ensures.record in
    record {
      fits =
          omega (
            arith,
            c.second-fields.ensures,
            members_fit is.0 c.as_slice-words.result.now is.1,
            is.1.short,
          );
    }

pub find-requires-clause-within : goal.find-requires-clause-within
find-requires-clause-within c =
    let is = c.as_slice-words.ensures.record in
    omega (
      arith,
      c.second-fields.ensures,
      c.third.ensures,
      members_fit is.0 c.as_slice-words.result.now is.1,
    )

pub returns : goal.returns
returns c = λ d is.
    let words = c.as_slice-words.result.now in
    let of : IsRecordOf d words = subst (IsRecordOf d) (sym c.as_slice-words.ensures.words) is in
    c.find.ensures d d.methods of (methods_are d words of c.second-fields.result c.third.result
    c.second-fields.ensures c.third.ensures)
