-- What the rules require of the class itself (JVMS SE 8, section 4.1). For its flags see
-- `specs/Flags.antt`.
use Rattle.std.specs.Prelude.{ℕ, Bool, ◌||◌, not, List, ◌==◌, if◌then◌else◌, bytes_eq, codes}
use Rattle.cm_class.specs.Names.{class_name_of, class_name}
use Rattle.cm_class.specs.declared.class_file.ClassFile.{ClassFile}
use Rattle.cm_descriptors.specs.Forms.{begins_with, bracket}
use Rattle.cm_constraints.specs.Flags.{acc_interface, has}

abbrev pub this_is_no_array : ClassFile → Bool
this_is_no_array c = not (begins_with bracket (class_name_of c))

abbrev pub object : List ℕ
object = codes "java/lang/Object"

abbrev pub super_is_right : ClassFile → Bool
super_is_right c =
    (if has c.flags acc_interface
    then bytes_eq (class_name c c.super_class) object
    else not (c.super_class == 0) || bytes_eq (class_name_of c) object)
