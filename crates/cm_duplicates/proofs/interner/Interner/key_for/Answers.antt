use Rattle.std.proofs.Common.{ap, sym, ◌∙◌}
use Rattle.cm_class.specs.Names.{utf8}
use Rattle.cm_duplicates.specs.Interned.{interned}
use Rattle.cm_duplicates.proofs.interner.Interner.key_for.Goals as goal

pub returns-clause-descriptor : goal.returns-clause-descriptor
returns-clause-descriptor c =
    ap (λ class. interned c.index_for-2.new.self.interned (utf8 class c.args.member.now.descriptor))
    (sym c.in_ok-name.ensures.class) ∙ c.in_ok-descriptor.ensures.found
