use Rattle.std.proofs.Common.{◌≡◌, ◌∷◌, ◌-◌, ◌<◌, ◌∙◌, length, drop, get_or, sym, ap}
use Rattle.std.proofs.Common.{arith}
use Rattle.cm_record_layout.specs.Packing.{first_of, upper_of}
use Rattle.cm_record_rules.specs.Laid.{run_bytes, attributes_in}
use Rattle.cm_record_rules.proofs.Iterators.{no_attributes, attributes_short, next_attribute}
use Rattle.cm_record_rules.proofs.Iterators.{positive}
use Rattle.cm_record_rules.proofs.attributes.LaidAttributesIterator.next.Goals as goal

pub returns-then-self-eq0-clause-steps : goal.returns-then-self-eq0-clause-steps
returns-then-self-eq0-clause-steps c =
    let gone = sym c.self.view_is ∙ no_attributes c.self.inside.bytes.now c.self.inside.count
    c.self.inside.rest.now
    c.if-self-eq0.true in
    (gone, gone)

pub returns-then-self-lt2-clause-steps : goal.returns-then-self-lt2-clause-steps
returns-then-self-lt2-clause-steps c =
    let gone = sym c.self.view_is ∙ attributes_short c.self.inside.bytes.now c.self.inside.count
    c.self.inside.rest.now
    c.if-self-lt2.true in
    (gone, gone)

pub returns-clause-steps : goal.returns-clause-steps
returns-clause-steps c =
    let some : 0 < c.self.inside.count = positive c.self.inside.count c.if-self-eq0.false in
    let more : c.args.self.now
    ≡ record {
      name = first_of (get_or c.self.inside.rest.now 0 0);
      bytes = run_bytes c.self.inside.bytes.now (get_or c.self.inside.rest.now 1 0)
          (upper_of (get_or c.self.inside.rest.now 0 0));
    } ∷ attributes_in c.self.inside.bytes.now (c.self.inside.count - 1)
    (drop 2 c.self.inside.rest.now) =
    sym c.self.view_is ∙ next_attribute c.self.inside.bytes.now c.self.inside.count
    c.self.inside.rest.now some c.if-self-lt2.false in
    let bytes = c.of.ensures ∙ (c.run_bytes-bytes.ensures ∙ ap
    (run_bytes c.self.inside.bytes.now (get_or c.self.inside.rest.now 1 0)) c.upper.ensures) in
    more ∙ sym (λ i. record { name = c.first.ensures i; bytes = bytes i }
    ∷ attributes_in c.self.inside.bytes.now (c.self.inside.count - 1)
    (c.words_from-self-inside.ensures i))

pub returns-clause-goes : goal.returns-clause-goes
returns-clause-goes c =
    let some : 0 < c.self.inside.count = positive c.self.inside.count c.if-self-eq0.false in
    let more : c.args.self.now
    ≡ record {
      name = first_of (get_or c.self.inside.rest.now 0 0);
      bytes = run_bytes c.self.inside.bytes.now (get_or c.self.inside.rest.now 1 0)
          (upper_of (get_or c.self.inside.rest.now 0 0));
    } ∷ attributes_in c.self.inside.bytes.now (c.self.inside.count - 1)
    (drop 2 c.self.inside.rest.now) =
    sym c.self.view_is ∙ next_attribute c.self.inside.bytes.now c.self.inside.count
    c.self.inside.rest.now some c.if-self-lt2.false in
    record {
      on = λ finite. (
        tt,
        tt,
        omega (
          arith,
          ap length more,
          ap
              (λ ws. length (attributes_in c.self.inside.bytes.now (c.self.inside.count - 1) ws))
              c.words_from-self-inside.ensures,
        ),
      );
      keeps = tt;
      rests = λ finite. tt;
    }
