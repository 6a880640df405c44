use Rattle.std.proofs.Common.{◌∙◌, ap, sym, subst, arith}
use Rattle.cm_record_layout.proofs.{directory_within}
use Rattle.cm_record.specs.declared.run.Run.{Run}
use Rattle.cm_record.specs.Names.{class_name_of}
use Rattle.cm_record.specs.Runs.{IsRunOf, name_run}
use Rattle.cm_record.proofs.RunPlaces.{own_name}
use Rattle.cm_record.proofs.record.class_name_run.Goals as goal

pub bounds-words-1 : goal.bounds-words-1
bounds-words-1 c = omega (arith, directory_within c.args.words.now c.requires)

pub name_run-requires : goal.name_run-requires
name_run-requires c = directory_within c.args.words.now c.requires

pub returns : goal.returns
returns c = λ d is.
    let words = c.args.words.now in
    subst (λ (r : Run). IsRunOf words r (class_name_of d))
    (sym (c.name_run.ensures ∙ ap (name_run words) c.second.ensures)) (own_name d words is)
