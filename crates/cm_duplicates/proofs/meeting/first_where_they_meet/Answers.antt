use Rattle.std.proofs.Common.{◌≡◌, true, false, get_or, sym, ap, ◌∙◌}
use Rattle.std.specs.Prelude.{not}
use Rattle.std.specs.List.{Contains}
use Rattle.std.specs.Ordering.{nat_cmp}
use Rattle.std.specs.BTreeSet.{contains}
use Rattle.std.proofs.lemmas.Bool.{not-true, both_ways}
use Rattle.cm_duplicates.specs.Duplicates.{is_first, first_duplicate}
use Rattle.cm_duplicates.proofs.FirstDuplicate.{fails_here, passes_here}
use Rattle.cm_duplicates.proofs.SeenMembers.{first_without, numbers_without, first_of_number}
use Rattle.cm_duplicates.proofs.SeenMembers.{numbers_with}
use Rattle.cm_duplicates.proofs.meeting.first_where_they_meet.Goals as goal

pub loop-place-preserved-then-not-is_among : goal.loop-place-preserved-then-not-is_among
loop-place-preserved-then-not-is_among c =
    let class = c.args.class.now in
    let members = c.args.members.now in
    let repeated = c.args.repeated.now in
    let numbers = c.args.fingerprints.now in
    let i = c.loop-place.place in
    let m = c.index-members-place.result in
    let are = c.requires.of_members in
    let has = c.requires.repeats in
    let lacks : Contains repeated (get_or numbers i 0) → ⊥ =
    λ h. both_ways c.is_among.result c.if-not-is_among.true (c.is_among.ensures.1 h) in
    record {
      seen = numbers_without class members numbers repeated are has c.loop-place.seen i m
          c.loop-place-test.true c.index-members-place.is c.loop-place.invariant.seen lacks;
      so_far = passes_here (is_first class members) members i m (first_duplicate class members)
          c.loop-place-test.true c.index-members-place.is
          (first_without class members numbers repeated are has i m c.loop-place-test.true
          c.index-members-place.is lacks) c.loop-place.invariant.so_far;
    }

pub loop-place-preserved : goal.loop-place-preserved
loop-place-preserved c =
    let class = c.args.class.now in
    let members = c.args.members.now in
    let repeated = c.args.repeated.now in
    let numbers = c.args.fingerprints.now in
    let i = c.loop-place.place in
    let m = c.index-members-place.result in
    let are = c.requires.of_members in
    let has = c.requires.repeats in
    let candidate : Contains repeated (get_or numbers i 0) =
    c.is_among.ensures.0 c.if-not-is_among.false in
    let fresh : contains nat_cmp c.loop-place.seen (get_or numbers i 0) ≡ false =
    not-true (contains nat_cmp c.loop-place.seen (get_or numbers i 0))
    (sym c.in_ok-insert.ensures.added ∙ c.if-branch.true) in
    record {
      seen = numbers_with class members numbers repeated are has c.loop-place.seen i m
          c.loop-place-test.true c.index-members-place.is c.loop-place.invariant.seen
          c.insert.new.self c.in_ok-insert.ensures.updates.0;
      so_far = passes_here (is_first class members) members i m (first_duplicate class members)
          c.loop-place-test.true c.index-members-place.is
          (first_of_number class members numbers repeated are has c.loop-place.seen i m
          c.loop-place-test.true c.index-members-place.is c.loop-place.invariant.seen candidate
          fresh) c.loop-place.invariant.so_far;
    }

pub returns-then-is_met : goal.returns-then-is_met
returns-then-is_met c =
    let class = c.args.class.now in
    let members = c.args.members.now in
    sym (fails_here (is_first class members) members c.loop-place.place
    c.index-members-place.result (first_duplicate class members) c.loop-place-test.true
    c.index-members-place.is (ap not (c.is_met.ensures c.if-is_met.true))
    c.loop-place.invariant.so_far)
