use Rattle.std.proofs.Common.{◌≡◌, ◌∷◌, ◌+◌, ◌-◌, ◌∙◌, length, sym, ap, arith}
use Rattle.cm_class.specs.Reading.{attribute_at, attributes_of}
use Rattle.cm_class.proofs.Lists.{positive}
use Rattle.cm_class.proofs.InPlace.{none, first, still, never_stops}
use Rattle.cm_class.proofs.attributes.AttributesIterator.next.Goals as goal

pub returns-then-self-eq0-clause-steps : goal.returns-then-self-eq0-clause-steps
returns-then-self-eq0-clause-steps c =
    let gone = sym c.self.view_is ∙ none attribute_at c.self.inside.count c.self.inside.bytes.now
    c.if-self-eq0.true in
    (gone, gone)

pub invariant_of-self : goal.invariant_of-self
invariant_of-self c =
    let less : c.self.inside.count ≡ c.self.inside.count - 1 + 1 =
    omega (arith, positive c.self.inside.count c.if-self-eq0.false) in
    still attribute_at c.self.inside.count (c.self.inside.count - 1) c.self.inside.bytes.now
    c.in-Ok.item c.in-Ok.rest.now less c.in-Ok.ensures c.self.invariant

pub unreachable-requires : goal.unreachable-requires
unreachable-requires c =
    never_stops attribute_at c.self.inside.count c.self.inside.bytes.now c.in-Err.field-0
    (positive c.self.inside.count c.if-self-eq0.false) c.in-Err.ensures c.self.invariant

pub returns-clause-steps : goal.returns-clause-steps
returns-clause-steps c =
    let less : c.self.inside.count ≡ c.self.inside.count - 1 + 1 =
    omega (arith, positive c.self.inside.count c.if-self-eq0.false) in
    sym c.self.view_is
    ∙ first attribute_at c.self.inside.count (c.self.inside.count - 1) c.self.inside.bytes.now
    c.in-Ok.item c.in-Ok.rest.now less c.in-Ok.ensures c.self.invariant

pub returns-clause-goes : goal.returns-clause-goes
returns-clause-goes c =
    let less : c.self.inside.count ≡ c.self.inside.count - 1 + 1 =
    omega (arith, positive c.self.inside.count c.if-self-eq0.false) in
    let these : c.args.self.now
    ≡ c.in-Ok.item ∷ attributes_of (c.self.inside.count - 1) c.in-Ok.rest.now =
    sym c.self.view_is
    ∙ first attribute_at c.self.inside.count (c.self.inside.count - 1) c.self.inside.bytes.now
    c.in-Ok.item c.in-Ok.rest.now less c.in-Ok.ensures c.self.invariant in
    record {
      on = λ finite. (tt, tt, omega (arith, ap length these));
      keeps = tt;
      rests = λ finite. tt;
    }
