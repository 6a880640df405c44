use Rattle.std.proofs.Common.{rules, ap, sym, subst, ℕ, List, Option, Some, refl, ◌∙◌, option_map}
use Rattle.std.specs.Arc.{arc_value}
use Rattle.cm_handover.specs.Laws.{Finds}
use Rattle.cm_core.proofs.cache.look_up.Goals as goal

pub returns-in-Ok : goal.returns-in-Ok
returns-in-Ok c = record {
  answer = Some (arc_value c.in-Ok.record);
  finds = λ k matches.
      subst (λ (found : Option (List ℕ)).
      Finds c.args.cache.now.session.committer.sizes k c.args.loader.now c.args.class.now found)
      (ap (λ o. option_map (λ r. arc_value r.now) o) c.in-Some.is
      ∙ ap Some (sym (c.in-Ok.ensures {u = tt}).cases)) (c.find.ensures k matches);
  given_is = refl;
}

pub returns-in-Err : goal.returns-in-Err
returns-in-Err c = record {
  answer = Some (arc_value c.in-Some.record.now);
  finds = λ k matches.
      subst (λ (found : Option (List ℕ)).
      Finds c.args.cache.now.session.committer.sizes k c.args.loader.now c.args.class.now found)
      (ap (λ o. option_map (λ r. arc_value r.now) o) c.in-Some.is) (c.find.ensures k matches);
  given_is = refl;
}
