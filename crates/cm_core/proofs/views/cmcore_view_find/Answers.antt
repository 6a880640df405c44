use Rattle.std.proofs.Common.{ℤ, rules, sym, subst}
use Rattle.std.proofs.lemmas.Int.{to_z-of_z}
use Rattle.std.specs.Int.{w32}
use Rattle.cm_core.specs.Views.{IsAnswerIn}
use Rattle.cm_core.proofs.views.cmcore_view_find.Goals as goal

pub returns-clause-exact : goal.returns-clause-exact
returns-clause-exact c sizes m arenas n stands p =
    subst (λ (status : ℤ). IsAnswerIn m c.args.bytes.now c.args.rows.now c.args.loader.now
    c.args.name.now c.tell_place.new.at status)
    (sym (to_z-of_z w32 c.tell_place.result (search rules)))
    (record {
      place = c.find_class.result;
      answer = c.find_class.ensures.exact sizes m arenas n stands p;
      before = c.args.at.now;
      told = c.tell_place.ensures;
    })
