use Rattle.std.proofs.Common.{◌≡◌, ap, refl, subst, inl, inr, List, ℕ, Option, Some}
use Rattle.std.proofs.Common.{option_map}
use Rattle.std.specs.Arc.{arc_value}
use Rattle.cm_handover.specs.Laws.{Finds}
use Rattle.cm_core.proofs.comparing.compare.Goals as goal

pub returns-then-has_same_words : goal.returns-then-has_same_words
returns-then-has_same_words c =
    let words = c.deref.ensures in
    let others = c.deref-in-Some.ensures in
    let class_words = c.record.ensures.record in
    let is = c.has_same_words.ensures.0 c.if-has_same_words.true in
    let same : arc_value c.in-Some.record.now ≡ c.args.class.now = cc in
    record {
      answer = Some (arc_value c.in-Some.record.now);
      finds = λ k matches.
          subst (λ (found : Option (List ℕ)).
          Finds c.args.cache.now.session.committer.sizes k c.args.loader.now c.args.name.now found)
          (ap (λ o. option_map (λ r. arc_value r.now) o) c.in-Some.is) (c.find.ensures k matches);
      told = inl (refl, same);
    }

pub returns-else-has_same_words : goal.returns-else-has_same_words
returns-else-has_same_words c = record {
  answer = Some (arc_value c.in-Some.record.now);
  finds = λ k matches.
      subst (λ (found : Option (List ℕ)).
      Finds c.args.cache.now.session.committer.sizes k c.args.loader.now c.args.name.now found)
      (ap (λ o. option_map (λ r. arc_value r.now) o) c.in-Some.is) (c.find.ensures k matches);
  told = inr (
    refl,
    λ same.
        let words = c.deref.ensures in
        let others = c.deref-in-Some.ensures in
        let class_words = c.record.ensures.record in
        let is : c.deref.result.now ≡ c.deref-in-Some.result.now = cc in
        let yes = c.has_same_words.ensures.1 is in
        let no = c.if-has_same_words.false in absurd (cc),
  );
}
