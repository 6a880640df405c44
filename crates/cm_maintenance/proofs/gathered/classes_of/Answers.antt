use Rattle.std.proofs.Common.{ℕ, ap, sym, ◌∙◌, map, List, Option}
use Rattle.std.proofs.lemmas.Result.{IfOk-weaker}
use Rattle.std.specs.BTreeMap.{BTreeMap}
use Rattle.std.specs.Global.{Vec}
use Rattle.cm_maintenance.specs.declared.listing.ListedClass.{ListedClass}
use Rattle.cm_maintenance.specs.Gathered.{classes_kept}
use Rattle.cm_maintenance.proofs.Entries.{values-by_bytes}
use Rattle.cm_maintenance.proofs.gathered.classes_of.Goals as goal

pub returns-in-Some : goal.returns-in-Some
returns-in-Some c =
    let there =
    ap (λ (o : Option (BTreeMap (Vec ℕ) ListedClass)). map (λ (e : List ℕ × ListedClass). e.1)
    (classes_kept o))
    c.in-Some.ensures.value in
    IfOk-weaker c.classes_in_order.result _ _
    (λ list is. is ∙ (sym (values-by_bytes c.in-Some.classes.now.entries) ∙ there))
    c.classes_in_order.ensures
