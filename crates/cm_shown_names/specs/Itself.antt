-- A class that names itself: its own index leads to a Class, and that to a Utf8.
use Rattle.std.specs.Prelude.{◌≡◌, ℕ, suc, List, slice_get, Some}
use Rattle.cm_class.specs.declared.constant.Constant.TheVariants as constant
use Rattle.cm_class.specs.declared.constant.Slot.TheVariants.{Usable}
use Rattle.cm_class.specs.declared.class_file.ClassFile.{ClassFile}

pub record NamesItself (c : ClassFile) : Type 0 where
  pub class_at : ℕ
  pub text_at_slot : ℕ
  pub text : List ℕ
  pub this_is : c.this_class ≡ suc class_at
  pub class_is : slice_get c.slots class_at ≡ Some (Usable (constant.Class (suc text_at_slot)))
  pub text_is : slice_get c.slots text_at_slot ≡ Some (Usable (constant.Utf8 text))
