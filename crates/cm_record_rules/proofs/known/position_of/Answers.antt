use Rattle.std.proofs.Common.{sym, arith}
use Rattle.std.proofs.lemmas.Iterator.Adapters.{position_from-zero}
use Rattle.cm_attributes.specs.Names.{is_known}
use Rattle.cm_record_rules.proofs.known.position_of.Goals as goal

pub loop-attribute-init : goal.loop-attribute-init
loop-attribute-init c =
    let attributes = c.args.class.now.attributes in
    record {
      short = omega (arith, c.attributes-rest.ensures.short);
      so_far = rw c.attributes-rest.ensures.same
          (sym (position_from-zero (is_known c.args.class.now c.args.known) attributes));
    }
