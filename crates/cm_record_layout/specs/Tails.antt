-- The parts of a record from one of its sections on, and at which offsets the parts of sections
-- begin.
use Rattle.std.specs.Prelude.{ℕ, ◌+◌, ◌*◌, List, [], ◌++◌, length}
use Rattle.cm_class.specs.declared.class_file.Attribute.{Attribute}
use Rattle.cm_class.specs.declared.class_file.ClassFile.{ClassFile}
use Rattle.cm_record_layout.specs.Layout.{directory, utf8_runs, members, member_attributes}
use Rattle.cm_record_layout.specs.Layout.{attributes, attribute_runs, attributes_at, runs_at}
use Rattle.cm_record_layout.specs.Layout.{attribute_runs_at}

module _ (c : ClassFile) where
  abbrev pub of_fields : List Attribute
  of_fields = member_attributes c.fields

  abbrev pub of_methods : List Attribute
  of_methods = member_attributes c.methods

  -- where the runs of the attributes of methods, and of the class, begin
  abbrev pub method_runs_at : ℕ
  method_runs_at = attribute_runs_at c + length (attribute_runs of_fields)

  abbrev pub own_runs_at : ℕ
  own_runs_at = method_runs_at + length (attribute_runs of_methods)

  abbrev pub methods_at : ℕ
  methods_at = attributes_at c + 2 * length of_fields

  -- the record from the runs on, from the attributes on, from slot 1 on
  abbrev pub runs_tail : List ℕ
  runs_tail =
      utf8_runs c.slots ++ (attribute_runs of_fields
      ++ (attribute_runs of_methods ++ (attribute_runs c.attributes ++ [])))

  abbrev pub attributes_tail : List ℕ
  attributes_tail =
      attributes (attribute_runs_at c) of_fields
      ++ (attributes method_runs_at of_methods
      ++ (attributes own_runs_at c.attributes ++ runs_tail))

  abbrev pub main_tail : List ℕ
  main_tail =
      directory (runs_at c) c.slots
      ++ (c.interfaces ++ (members (attributes_at c) c.fields
      ++ (members methods_at c.methods ++ attributes_tail)))
