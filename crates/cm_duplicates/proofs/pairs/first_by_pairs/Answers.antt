use Rattle.std.proofs.Common.{◌≡◌, sym, ◌∙◌, true, false, take}
use Rattle.std.specs.List.{list_any}
use Rattle.std.proofs.lemmas.Bool.{not_from_true, not_from_false}
use Rattle.cm_duplicates.specs.Duplicates.{same_member, is_first, first_duplicate}
use Rattle.cm_duplicates.proofs.FirstDuplicate.{fails_here, passes_here, none_fails}
use Rattle.cm_duplicates.proofs.pairs.first_by_pairs.Goals as goal

pub returns-then-is_among : goal.returns-then-is_among
returns-then-is_among c =
    let class = c.args.class.now in
    let members = c.args.members.now in
    let i = c.loop-place.place in
    let x = c.index-members-place.result in
    let any : list_any (same_member class x) (take i members) ≡ true =
    sym c.is_among.ensures ∙ c.if-is_among.true in
    fails_here (is_first class members) members i x (first_duplicate class members)
    c.loop-place-test.true c.index-members-place.is (not_from_true _ any) c.loop-place.invariant

pub loop-place-preserved : goal.loop-place-preserved
loop-place-preserved c =
    let class = c.args.class.now in
    let members = c.args.members.now in
    let i = c.loop-place.place in
    let x = c.index-members-place.result in
    let any : list_any (same_member class x) (take i members) ≡ false =
    sym c.is_among.ensures ∙ c.if-is_among.false in
    passes_here (is_first class members) members i x (first_duplicate class members)
    c.loop-place-test.true c.index-members-place.is (not_from_false _ any)
    c.loop-place.invariant

pub returns : goal.returns
returns c = none_fails (is_first c.args.class.now c.args.members.now) c.args.members.now
    c.loop-place.place (first_duplicate c.args.class.now c.args.members.now) c.loop-place-test.false
    c.loop-place.invariant
