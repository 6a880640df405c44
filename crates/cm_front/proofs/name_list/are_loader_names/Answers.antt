use Rattle.std.proofs.Common.{Bor, List, ℕ, ◌∙◌, sym, rules, tests}
use Rattle.std.proofs.lemmas.Iterator.{YieldsList-from_slice}
use Rattle.std.proofs.lemmas.Iterator.Search.{all_from_yields_List}
use Rattle.std.proofs.lemmas.List.Folds.{list_all-map}
use Rattle.cm_layout.specs.Names.{is_loader_name}
use Rattle.cm_front.proofs.name_list.are_loader_names.Goals as goal

pub returns : goal.returns
returns c =
    all_from_yields_List (λ (name : Bor (List ℕ)). is_loader_name name.now) _ _ _ c.all.ensures.ran
    (YieldsList-from_slice c.args.names.now cc) (λ x b q k. search (rules, tests))
    ∙ sym (list_all-map is_loader_name (λ (name : Bor (List ℕ)). name.now) c.args.names.now)
