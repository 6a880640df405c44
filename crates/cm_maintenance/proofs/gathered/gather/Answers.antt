use Rattle.std.proofs.Common.{ap, sym, ◌∙◌, append-nil, map, refl, [], ◌∷◌, arith}
use Rattle.std.proofs.lemmas.List.{map-append}
use Rattle.cm_maintenance.proofs.Orders.{none_gathered, none_mapped, gathering_on, gathering_ends}
use Rattle.cm_maintenance.proofs.gathered.gather.Goals as goal

pub loop-row-init : goal.loop-row-init
loop-row-init c = record {
  done = [];
  all = sym c.in_ok-left.ensures ∙ sym (append-nil (map (λ r. r.now) c.in_ok-left.left.items));
  gathers = none_gathered c.new.result c.new-2.result _ c.new.ensures.empty
      c.new-2.ensures.empty refl refl;
}

pub loop-row-preserved : goal.loop-row-preserved
loop-row-preserved c =
    gathering_on c.args.book.now.rows (map (λ r. r.now) c.loop-row.left.items)
    (map (λ r. r.now) c.pop.new.self.items) c.in-Some.row.now c.loop-row.gathered c.add.new.self
    (ap (map (λ r. r.now)) c.in-Some.ensures.items
    ∙ map-append (λ r. r.now) c.pop.new.self.items (c.in-Some.row ∷ [])) c.in_ok-add.ensures
    c.loop-row.invariant

pub returns : goal.returns
returns c = gathering_ends c.args.book.now.rows (map (λ r. r.now) c.loop-row.left.items)
    c.loop-row.gathered
    (none_mapped (λ r. r.now) c.loop-row.left.items
    (let none = c.in_default.ensures.cases.0 in let whole = c.loop-row.left.ok.0 in
    omega (arith, none, whole))) c.loop-row.invariant
