use Rattle.std.proofs.Common.{◌≡◌, true, false, get_or, refl, sym, ◌∙◌}
use Rattle.std.specs.List.{Contains}
use Rattle.std.specs.BTreeSet.{contains}
use Rattle.std.proofs.lemmas.Bool.{not-true, not-false, both_ways}
use Rattle.cm_duplicates.specs.Duplicates.{is_first, first_duplicate}
use Rattle.cm_duplicates.proofs.FirstDuplicate.{fails_here, passes_here, none_fails}
use Rattle.cm_duplicates.proofs.SeenMembers.{key_cmp, nothing_seen, names_of, first_without}
use Rattle.cm_duplicates.proofs.SeenMembers.{seen_without, again, first, seen_with}
use Rattle.cm_duplicates.proofs.candidates.first_among_repeated.Goals as goal

pub loop-place-init : goal.loop-place-init
loop-place-init c = record {
  class = c.in_ok-interner.ensures;
  seen = nothing_seen c.args.class.now c.args.members.now c.args.fingerprints.now
      c.args.repeated.now c.in_ok-interner.interner.interned c.new-seen.result
      c.new-seen.ensures.empty;
  so_far = refl;
}

pub loop-place-preserved-then-not-is_among : goal.loop-place-preserved-then-not-is_among
loop-place-preserved-then-not-is_among c =
    let class = c.args.class.now in
    let members = c.args.members.now in
    let repeated = c.args.repeated.now in
    let i = c.loop-place.place in
    let m = c.index-members-place.result in
    let numbers = c.args.fingerprints.now in
    let are = c.requires.of_members in
    let has = c.requires.repeats in
    let lacks : Contains repeated (get_or numbers i 0) → ⊥ =
    λ h. both_ways c.is_among.result c.if-not-is_among.true (c.is_among.ensures.1 h) in
    record {
      class = c.loop-place.invariant.class;
      seen = seen_without class members numbers repeated are has c.loop-place.interner.interned
          c.loop-place.seen i m c.loop-place-test.true c.index-members-place.is
          c.loop-place.invariant.seen lacks;
      so_far = passes_here (is_first class members) members i m (first_duplicate class members)
          c.loop-place-test.true c.index-members-place.is
          (first_without class members numbers repeated are has i m c.loop-place-test.true
          c.index-members-place.is lacks) c.loop-place.invariant.so_far;
    }

pub loop-place-preserved : goal.loop-place-preserved
loop-place-preserved c =
    let class = c.args.class.now in
    let members = c.args.members.now in
    let repeated = c.args.repeated.now in
    let i = c.loop-place.place in
    let m = c.index-members-place.result in
    let numbers = c.args.fingerprints.now in
    let are = c.requires.of_members in
    let has = c.requires.repeats in
    let candidate : Contains repeated (get_or numbers i 0) =
    c.is_among.ensures.0 c.if-not-is_among.false in
    let old = c.loop-place.interner.interned in
    let new = c.key_for.new.self.interned in
    let key = c.in_ok-key.key in
    let right = names_of class c.key_for.new.self.class.now new
    (c.in_ok-key.ensures.class ∙ c.loop-place.invariant.class) c.key_for.new.self.names in
    let name = rw c.loop-place.invariant.class at c.in_ok-key.ensures.name in
    let descriptor = rw c.loop-place.invariant.class at c.in_ok-key.ensures.descriptor in
    let fresh : contains key_cmp c.loop-place.seen key ≡ false =
    not-true (contains key_cmp c.loop-place.seen key)
    (sym c.in_ok-insert.ensures.added ∙ c.if-not-branch.false) in
    record {
      class = c.in_ok-key.ensures.class ∙ c.loop-place.invariant.class;
      seen = seen_with class members numbers repeated are has old c.loop-place.seen i m
          c.loop-place-test.true c.index-members-place.is c.loop-place.invariant.seen new
          c.in_ok-key.ensures.kept right key name descriptor c.insert.new.self
          c.in_ok-insert.ensures.updates.0;
      so_far = passes_here (is_first class members) members i m (first_duplicate class members)
          c.loop-place-test.true c.index-members-place.is
          (first class members numbers repeated are has old c.loop-place.seen i m
          c.loop-place-test.true c.index-members-place.is c.loop-place.invariant.seen new
          c.in_ok-key.ensures.kept right key name descriptor candidate fresh)
          c.loop-place.invariant.so_far;
    }

pub returns-then-not-branch : goal.returns-then-not-branch
returns-then-not-branch c =
    let class = c.args.class.now in
    let members = c.args.members.now in
    let repeated = c.args.repeated.now in
    let i = c.loop-place.place in
    let m = c.index-members-place.result in
    let numbers = c.args.fingerprints.now in
    let are = c.requires.of_members in
    let has = c.requires.repeats in
    let old = c.loop-place.interner.interned in
    let new = c.key_for.new.self.interned in
    let key = c.in_ok-key.key in
    let right = names_of class c.key_for.new.self.class.now new
    (c.in_ok-key.ensures.class ∙ c.loop-place.invariant.class) c.key_for.new.self.names in
    let name = rw c.loop-place.invariant.class at c.in_ok-key.ensures.name in
    let descriptor = rw c.loop-place.invariant.class at c.in_ok-key.ensures.descriptor in
    let known : contains key_cmp c.loop-place.seen key ≡ true =
    not-false (contains key_cmp c.loop-place.seen key)
    (sym c.in_ok-insert.ensures.added ∙ c.if-not-branch.true) in
    fails_here (is_first class members) members i m (first_duplicate class members)
    c.loop-place-test.true c.index-members-place.is
    (again class members numbers repeated are has old c.loop-place.seen i m
    c.loop-place-test.true c.index-members-place.is c.loop-place.invariant.seen new
    c.in_ok-key.ensures.kept right key name descriptor known) c.loop-place.invariant.so_far

pub returns : goal.returns
returns c = none_fails (is_first c.args.class.now c.args.members.now) c.args.members.now
    c.loop-place.place (first_duplicate c.args.class.now c.args.members.now) c.loop-place-test.false
    c.loop-place.invariant.so_far
