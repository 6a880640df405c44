use Rattle.std.proofs.Common.{sym, subst, arith}
use Rattle.cm_record_layout.specs.Layout.{IsRecordOf}
use Rattle.cm_record.proofs.MemberPlaces.{fields_are, members_fit}
use Rattle.cm_record.proofs.record.Record.field.Goals as goal

pub find-requires-clause-within : goal.find-requires-clause-within
find-requires-clause-within c =
    let is = c.as_slice-words.ensures.record in
    omega (arith, c.second.ensures, members_fit is.0 c.as_slice-words.result.now is.1)

pub returns : goal.returns
returns c = λ d is.
    let words = c.as_slice-words.result.now in
    let of : IsRecordOf d words = subst (IsRecordOf d) (sym c.as_slice-words.ensures.words) is in
    c.find.ensures d d.fields of (fields_are d words of c.second.result c.second.ensures)
