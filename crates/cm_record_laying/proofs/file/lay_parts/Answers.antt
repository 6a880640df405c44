use Rattle.std.proofs.Common.{[]}
use Rattle.std.proofs.lemmas.List.{nil_from_length}
use Rattle.std.proofs.lemmas.Bool.{eqb-true}
use Rattle.std.proofs.Common.{sym}
use Rattle.cm_record_laying.proofs.WholeFiles.{file_laid}
use Rattle.cm_record_laying.proofs.file.lay_parts.Goals as goal

pub returns : goal.returns
returns c =
    let flags = c.in_ok-flags.ensures {u = tt} in
    let this = c.in_ok-this_class.ensures {u = tt} in
    let super = c.in_ok-super_class.ensures {u = tt} in
    let interfaces = c.in_ok-interfaces.ensures {u = tt} in
    let fields = c.in_ok-fields.ensures {u = tt} in
    let methods = c.in_ok-methods.ensures {u = tt} in
    let attributes = c.in_ok-attributes.ensures {u = tt} in
    file_laid
    (record {
      slots = c.in_ok-slots.slots;
      flags = c.in_ok-flags.flags;
      this_class = c.in_ok-this_class.this_class;
      super_class = c.in_ok-super_class.super_class;
      interfaces = c.in_ok-interfaces.interfaces;
      fields = c.in_ok-fields.fields;
      methods = c.in_ok-methods.methods;
      attributes = c.in_ok-attributes.attributes;
    })
    c.args.bytes.now c.in_ok-slots.rest.now c.in_ok-flags.rest.now c.in_ok-this_class.rest.now
    c.in_ok-super_class.rest.now c.in_ok-interfaces.rest.now c.in_ok-rest.rest.now
    c.in_ok-fields.rest.now c.in_ok-rest-2.rest.now c.in_ok-methods.rest.now
    c.in_ok-rest-3.rest.now c.in_ok-attributes.rest.now c.in_ok-rest-4.rest.now
    c.args.sections.now c.lay_pool.new.sections c.lay_interfaces.new.sections
    c.lay_members.new.sections c.lay_members-2.new.sections c.lay_attributes.new.sections
    (c.in_ok-slots.ensures {u = tt}) flags.0 this.0 super.0 interfaces.0
    (c.in_ok-rest.ensures {u = tt}) fields.0 (c.in_ok-rest-2.ensures {u = tt}) methods.0
    (c.in_ok-rest-3.ensures {u = tt}) attributes.0 (c.in_ok-rest-4.ensures {u = tt})
    (nil_from_length c.in_ok-rest-4.rest.now
    (eqb-true _ _ (sym (c.if-not-is_empty.ensures {u = tt}))))
    flags.1 this.1 super.1 interfaces.1 fields.1 methods.1 attributes.1
