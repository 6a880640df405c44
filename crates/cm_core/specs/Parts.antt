-- The parts of a class, in what C asks and is told.
use Rattle.std.specs.Prelude.{◌≡◌, ◌<◌, ℕ, ℤ, pos, List, length, take, Option, Some, None}
use Rattle.std.specs.Prelude.{option_and_then, unwrap_or, ◌==◌, if◌then◌else◌}
use Rattle.cm_class.specs.declared.class_file.Attribute.{Attribute as ClassAttribute}
use Rattle.cm_class.specs.declared.class_file.ClassFile.{ClassFile}
use Rattle.cm_record_parts.specs.declared.attributes.Owner.{Owner}
use Rattle.cm_record_parts.specs.declared.attributes.Owner.TheVariants as owner
use Rattle.cm_record_parts.specs.declared.constants.PoolConstant.{PoolConstant}
use Rattle.cm_record_parts.specs.Parts.{attributes_of}
use Rattle.cm_record_parts.specs.Pool.{FindsNext}
use Rattle.cm_core.specs.declared.record.ConstantForC.{ConstantForC}
use Rattle.cm_core.specs.Class.{constant_told, found_status}

-- What is found is as it has to be, and C is told it, or that there is none.
pub record Tells {T : Type 0} (Is : Option T → Type 0) (old new : T) (status : ℤ) : Type 0 where
  pub found : Option T
  pub is : Is found
  pub status_is : status ≡ found_status found
  pub told : new ≡ unwrap_or found old

-- ---- owners of attributes

-- the class is 0, a field 1 and a method 2, with its index
abbrev pub owner_meant : ℕ → ℕ → Option Owner
owner_meant kind index =
    if kind == 0 then Some owner.Class
    else if kind == 1 then Some (owner.Field index)
    else if kind == 2 then Some (owner.Method index)
    else None

-- the attributes that C means; none if there is no such part
abbrev pub attributes_meant : ClassFile → ℕ → ℕ → Option (List ClassAttribute)
attributes_meant c kind index = option_and_then (attributes_of c) (owner_meant kind index)

-- ---- constants

abbrev pub index_of_next : ℕ → Option PoolConstant → ℕ
index_of_next before None = before
index_of_next before (Some found) = found.index

abbrev pub constant_of_next : ConstantForC → Option PoolConstant → ConstantForC
constant_of_next before None = before
constant_of_next before (Some found) = constant_told found.constant

-- The next constant after an index is told, with its index.
pub record TellsNext (c : ClassFile) (after old_index new_index : ℕ) (old new : ConstantForC)
    (status : ℤ) : Type 0 where
  pub found : Option PoolConstant
  pub is : FindsNext c after found
  pub status_is : status ≡ found_status found
  pub index : new_index ≡ index_of_next old_index found
  pub constant : new ≡ constant_of_next old found

-- ---- the class file

-- The bytes are written in front if there is room for them, and nothing is if there isn't; C is
-- told how many there are. Nothing else happens but that an allocation fails.
pub record TellsFile (bytes old new : List ℕ) (len : ℕ) (status : ℤ) : Type 0 where
  pub written : status ≡ pos 0 → (take (length bytes) new ≡ bytes) × (len ≡ length bytes)
  pub no_room : status ≡ pos 27
      → (new ≡ old) × (len ≡ length bytes) × (length old < length bytes)
  pub other : (status ≡ pos 0 → ⊥) → (status ≡ pos 27 → ⊥) → status ≡ pos 9
