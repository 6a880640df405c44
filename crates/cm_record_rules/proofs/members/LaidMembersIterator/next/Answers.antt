use Rattle.std.proofs.Common.{◌≡◌, ◌∷◌, ◌-◌, ◌<◌, ◌∙◌, length, drop, get_or, sym, ap}
use Rattle.std.proofs.Common.{arith}
use Rattle.cm_record_rules.specs.Laid.{member_in, members_in}
use Rattle.cm_record_rules.proofs.Iterators.{no_members, members_short, next_member, positive}
use Rattle.cm_record_rules.proofs.members.LaidMembersIterator.next.Goals as goal

pub returns-then-self-eq0-clause-steps : goal.returns-then-self-eq0-clause-steps
returns-then-self-eq0-clause-steps c =
    let gone = sym c.self.view_is ∙ no_members c.self.inside.all.now c.self.inside.bytes.now
    c.self.inside.count c.self.inside.rest.now
    c.if-self-eq0.true in
    (gone, gone)

pub returns-then-self-lt2-clause-steps : goal.returns-then-self-lt2-clause-steps
returns-then-self-lt2-clause-steps c =
    let gone = sym c.self.view_is ∙ members_short c.self.inside.all.now c.self.inside.bytes.now
    c.self.inside.count c.self.inside.rest.now
    c.if-self-lt2.true in
    (gone, gone)

pub returns-clause-steps : goal.returns-clause-steps
returns-clause-steps c =
    let some : 0 < c.self.inside.count = positive c.self.inside.count c.if-self-eq0.false in
    let more : c.args.self.now
    ≡ member_in c.self.inside.all.now c.self.inside.bytes.now (get_or c.self.inside.rest.now 0 0)
    (get_or c.self.inside.rest.now 1 0)
    ∷ members_in c.self.inside.all.now c.self.inside.bytes.now (c.self.inside.count - 1)
    (drop 2 c.self.inside.rest.now) =
    sym c.self.view_is ∙ next_member c.self.inside.all.now c.self.inside.bytes.now
    c.self.inside.count c.self.inside.rest.now some c.if-self-lt2.false in
    more ∙ sym (λ i. member_in c.self.inside.all.now c.self.inside.bytes.now
    (get_or c.self.inside.rest.now 0 0) (get_or c.self.inside.rest.now 1 0)
    ∷ members_in c.self.inside.all.now c.self.inside.bytes.now (c.self.inside.count - 1)
    (c.words_from-self-inside.ensures i))

pub returns-clause-goes : goal.returns-clause-goes
returns-clause-goes c =
    let some : 0 < c.self.inside.count = positive c.self.inside.count c.if-self-eq0.false in
    let more : c.args.self.now
    ≡ member_in c.self.inside.all.now c.self.inside.bytes.now (get_or c.self.inside.rest.now 0 0)
    (get_or c.self.inside.rest.now 1 0)
    ∷ members_in c.self.inside.all.now c.self.inside.bytes.now (c.self.inside.count - 1)
    (drop 2 c.self.inside.rest.now) =
    sym c.self.view_is ∙ next_member c.self.inside.all.now c.self.inside.bytes.now
    c.self.inside.count c.self.inside.rest.now some c.if-self-lt2.false in
    record {
      on = λ finite. (
        tt,
        tt,
        omega (
          arith,
          ap length more,
          ap
              (λ ws. length (members_in c.self.inside.all.now c.self.inside.bytes.now
              (c.self.inside.count - 1) ws))
              c.words_from-self-inside.ensures,
        ),
      );
      keeps = tt;
      rests = λ finite. tt;
    }
