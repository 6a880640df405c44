use Rattle.std.proofs.Common.{Bor, List, ℕ, ◌∙◌, sym, rules, tests}
use Rattle.std.specs.Prelude.{not}
use Rattle.std.specs.Str.{bytes_eq}
use Rattle.std.proofs.lemmas.Iterator.{YieldsList-from_slice}
use Rattle.std.proofs.lemmas.Iterator.Search.{all_from_yields_List}
use Rattle.std.proofs.lemmas.List.Folds.{list_all-map}
use Rattle.cm_front.proofs.name_list.differs_from_all.Goals as goal

pub returns : goal.returns
returns c =
    let x = c.args.name.now in
    all_from_yields_List (λ (other : Bor (List ℕ)). not (bytes_eq x other.now)) _ _ _
    c.all.ensures.ran
    (YieldsList-from_slice c.args.others.now cc) (λ y b q k. search (rules, tests))
    ∙ sym (list_all-map (λ other. not (bytes_eq x other)) (λ (other : Bor (List ℕ)). other.now)
    c.args.others.now)
