-- What holds for bytes: that they spell a class that keeps the rules, or why not.
use Rattle.std.specs.Prelude.{◌≡◌, ℕ, List, Some, None, Result, Ok, Err}
use Rattle.cm_class.specs.declared.class_file.ClassFile.{ClassFile}
use Rattle.cm_class.specs.declared.fault.ShapeFault.{ShapeFault}
use Rattle.cm_class.specs.declared.fault.ShapeFault.TheVariants as shapes
use Rattle.cm_class.specs.Shape.{Spells, IsSpelling, IsTruncated, IsTrailing, IsMalformed}
use Rattle.cm_rules.specs.declared.rule.Broken.{Broken}
use Rattle.cm_rules.specs.declared.fault.BadClass.{BadClass}
use Rattle.cm_rules.specs.declared.fault.BadClass.TheVariants.{Truncated, Trailing, Malformed}
use Rattle.cm_rules.specs.declared.fault.BadClass.TheVariants.{Rule}
use Rattle.cm_rules.specs.declared.fault.ClassFault.{ClassFault}
use Rattle.cm_rules.specs.declared.fault.ClassFault.TheVariants.{Bad, NoMemory}
use Rattle.cm_rules.specs.Fault.{fault}

-- the bytes are the spelling of this class, which keeps the rules
pub record SpellsRightClass (bytes : List ℕ) (c : ClassFile) : Type 0 where
  pub spelled : Spells bytes c
  pub kept : fault c ≡ None

-- the bytes are the spelling of a class, and this is the first rule that it breaks, with the first
-- spot
abbrev pub IsBroken : List ℕ → Broken → Type 0
IsBroken bytes broken = (c : ClassFile) × Spells bytes c × (fault c ≡ Some broken)

-- what this says about the bytes
abbrev pub IsBadClass : List ℕ → BadClass → Type 0
IsBadClass bytes Truncated = IsTruncated bytes
IsBadClass bytes (Trailing at) = IsTrailing bytes at
IsBadClass bytes (Malformed at) = IsMalformed bytes at
IsBadClass bytes (Rule broken) = IsBroken bytes broken

-- what a fault says about the bytes; a failed allocation is reported only for bytes that spell a
-- class
abbrev pub IsClassFault : List ℕ → ClassFault → Type 0
IsClassFault bytes (Bad bad) = IsBadClass bytes bad
IsClassFault bytes NoMemory = IsSpelling bytes

-- what a result says about the bytes; a failed allocation is not an answer
abbrev pub IsReading : List ℕ → Result ClassFile ClassFault → Type 0
IsReading bytes (Ok c) = SpellsRightClass bytes c
IsReading bytes (Err (Bad bad)) = IsBadClass bytes bad
IsReading bytes (Err NoMemory) = ⊥

-- the result is correct, or an allocation failed
abbrev pub IsUnlessRefused : List ℕ → Result ClassFile ClassFault → Type 0
IsUnlessRefused bytes (Ok c) = SpellsRightClass bytes c
IsUnlessRefused bytes (Err fault) = IsClassFault bytes fault

-- a fault of the shape, as a fault of a class
abbrev pub class_fault_of : ShapeFault → ClassFault
class_fault_of shapes.Truncated = Bad Truncated
class_fault_of (shapes.Trailing at) = Bad (Trailing at)
class_fault_of (shapes.Malformed at) = Bad (Malformed at)
class_fault_of shapes.NoMemory = NoMemory
