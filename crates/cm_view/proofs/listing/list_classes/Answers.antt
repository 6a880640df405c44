use Rattle.std.proofs.Common.{List, ◌∷◌, ap, subst, ◌∙◌}
use Rattle.cm_layout.specs.declared.row.Row.{Row}
use Rattle.cm_verdict.specs.declared.defined_at.DefinedAt.{DefinedAt}
use Rattle.cm_view.proofs.Listings.{IsListing, loader_passed, class_listed}
use Rattle.cm_view.proofs.listing.list_classes.Goals as goal

pub loop-row-preserved-in-Continue-branch-2 : goal.loop-row-preserved-in-Continue-branch-2
loop-row-preserved-in-Continue-branch-2 c =
    let bytes = c.args.bytes.now in
    let sizes = c.args.geometry in
    let all = c.args.found.now.rows in
    let rest = c.next.new.self in
    let rows = c.loop-row.rows.items in
    let next =
    subst (λ (left : List (Row DefinedAt)). IsListing bytes sizes all left rows)
    (c.in-Some.ensures {u = tt} ∙ ap (λ (row : Row DefinedAt). row ∷ rest) c.in-Class.is)
    c.loop-row.invariant.listing in
    record {
      listing = class_listed bytes sizes all rest rows c.in-Class.row c.in-Class.at c.in_ok-row.row
          c.push.new.self.items next c.in_ok-row.ensures.ok (c.in_ok-push.ensures {u = tt}).items;
    }

pub loop-row-preserved : goal.loop-row-preserved
loop-row-preserved c =
    let bytes = c.args.bytes.now in
    let sizes = c.args.geometry in
    let all = c.args.found.now.rows in
    let rest = c.next.new.self in
    let rows = c.loop-row.rows.items in
    let next =
    subst (λ (left : List (Row DefinedAt)). IsListing bytes sizes all left rows)
    (c.in-Some.ensures {u = tt} ∙ ap (λ (row : Row DefinedAt). row ∷ rest) c.in_default-row.is)
    c.loop-row.invariant.listing in
    record {
      listing = loader_passed bytes sizes all rest rows c.in_default-row.field-0 next;
    }
