use Rattle.std.proofs.Common.{ℕ, List, subst}
use Rattle.std.specs.Global.{Vec}
use Rattle.std.specs.List.Sorted.{IsPermutation}
use Rattle.std.proofs.lemmas.List.Sorted.{IsPermutation-map}
use Rattle.cm_listed_names.specs.Names.{texts}
use Rattle.cm_listed_names.proofs.names.class_names.Goals as goal

pub returns : goal.returns
returns c = record {
  same = subst (λ (all : List (List ℕ)). IsPermutation all (texts c.sort.new.names.items))
      c.in_ok-names.ensures
      (IsPermutation-map (λ (n : Vec ℕ). n.items) c.in_ok-names.names.items c.sort.new.names.items
      c.sort.ensures.same);
  in_order = c.sort.ensures.order;
}
