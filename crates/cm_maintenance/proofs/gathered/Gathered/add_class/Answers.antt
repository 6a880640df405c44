use Rattle.std.proofs.Common.{subst}
use Rattle.cm_maintenance.specs.declared.listing.ListedClass.{ListedClass}
use Rattle.cm_maintenance.specs.Gathered.{AddsClass}
use Rattle.cm_record.specs.Names.{class_name_in}
use Rattle.cm_maintenance.proofs.Entries.{adds_class}
use Rattle.cm_maintenance.proofs.gathered.Gathered.add_class.Goals as goal

pub returns-clause-classes : goal.returns-clause-classes
returns-clause-classes c =
    let taken = c.take_classes-classes.ensures in
    subst (λ (x : ListedClass). AddsClass c.args.self.now.classes c.insert-2.new.self
    c.args.row.now.loader (class_name_in c.args.class.now) x)
    (λ i. record { class = c.in_ok-share.ensures i; place = c.args.row.now.place })
    (adds_class c.args.self.now.classes c.take_classes-classes.new.self.classes c.insert-2.new.self
    c.args.row.now.loader c.in_ok-name.name (class_name_in c.args.class.now) _
    c.take_classes-classes.result c.insert.new.self taken.taken taken.updates.0
    c.in_ok-insert.ensures.entries c.in_ok-insert-2.ensures.updates.0 c.in_ok-name.ensures)
