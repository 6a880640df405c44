use Rattle.std.proofs.Common.{refl, sym, subst}
use Rattle.cm_record.specs.Members.{IsLeastMember}
use Rattle.cm_record.proofs.MemberPlaces.{least_found, none_found}
use Rattle.cm_record.proofs.member.Members.find.Goals as goal

pub returns-in_default : goal.returns-in_default
returns-in_default c = λ d all of these.
    none_found d c.args.words.now c.args.self.at c.args.self.count all c.args.name.now
    c.args.descriptor.now these (c.in_default.ensures.none d of refl)

pub returns : goal.returns
returns c = λ d all of these.
    subst (IsLeastMember d all c.args.self.is_method c.args.name.now c.args.descriptor.now)
    (λ i. record {
      is_method = c.args.self.is_method;
      index = c.in-Some.index;
      flags = sym c.first.ensures i;
      attributes = sym c.fourth.ensures i;
    })
    (least_found d c.args.words.now c.args.self.at c.args.self.count all c.args.name.now
    c.args.descriptor.now these c.args.self.is_method c.in-Some.index
    (c.in-Some.ensures.some d of))
