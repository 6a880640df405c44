-- The places of a class's sections in its record.
use Rattle.std.specs.Prelude.{◌≡◌}
use Rattle.cm_class.specs.declared.class_file.ClassFile.{ClassFile}
use Rattle.cm_record_writing.specs.declared.places.Places.{Places}
use Rattle.cm_record_layout.specs.Layout.{interfaces_at, members_at, attributes_at, runs_at}
use Rattle.cm_record_layout.specs.Layout.{attribute_runs_at, record_len}

pub record ArePlaces (c : ClassFile) (places : Places) : Type 0 where
  pub interfaces : places.interfaces ≡ interfaces_at c
  pub members : places.members ≡ members_at c
  pub attributes : places.attributes ≡ attributes_at c
  pub runs : places.runs ≡ runs_at c
  pub attribute_runs : places.attribute_runs ≡ attribute_runs_at c
  pub len : places.len ≡ record_len c
