use Rattle.std.proofs.Common.{◌≡◌, length, sym, ◌∙◌, arith}
use Rattle.std.proofs.lemmas.Bool.{eqb-true}
use Rattle.cm_duplicates.specs.declared.fingerprints.Strength.TheVariants.{Quick}
use Rattle.cm_duplicates.specs.Fingerprints.{AreNumbers, HasRepeated}
use Rattle.cm_duplicates.proofs.SeenMembers.{are_numbers, none_repeated}
use Rattle.cm_duplicates.proofs.duplicates.first_duplicate.Goals as goal

pub returns-then-is_empty : goal.returns-then-is_empty
returns-then-is_empty c =
    let class = c.args.class.now in
    let members = c.args.members.now in
    let numbers = c.in_ok-fingerprints.fingerprints.items in
    let repeated = c.in_ok-meeting.meeting.items in
    let are : AreNumbers class members numbers =
    are_numbers Quick class members numbers c.in_ok-fingerprints.ensures in
    let has : HasRepeated numbers repeated =
    rw c.deref.ensures.value at c.in_ok-meeting.ensures.all in
    let none : length repeated ≡ 0 =
    omega (
      arith,
      eqb-true _ 0 (sym c.is_empty.ensures ∙ c.if-is_empty.true),
      c.in_ok-meeting.meeting.ok.0,
    ) in
    sym (none_repeated class members numbers repeated are has none)
