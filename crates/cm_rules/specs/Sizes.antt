-- How many parts of each sort a class has.
use Rattle.std.specs.Prelude.{◌+◌, ◌<◌, ◌^◌, length}
use Rattle.cm_class.specs.declared.class_file.ClassFile.{ClassFile}

-- there are so few of each sort that a place is a number of two bytes
abbrev pub SizesFit : ClassFile → Type 0
SizesFit c =
    (length c.slots + 1 < 2 ^ 16) × (length c.interfaces < 2 ^ 16) × (length c.fields < 2 ^ 16)
    × (length c.methods < 2 ^ 16) × (length c.attributes < 2 ^ 16)
