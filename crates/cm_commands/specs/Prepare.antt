-- What prevents bytes from being prepared as a class.
use Rattle.std.specs.Prelude.{◌≡◌, ℕ, ◌<◌, List, length}
use Rattle.cm_class.specs.declared.class_file.ClassFile.{ClassFile}
use Rattle.cm_class.specs.Shape.{IsSpelling}
use Rattle.cm_record.specs.Layout.{lay, limit}
use Rattle.cm_rules.specs.declared.fault.ClassFault.{ClassFault}
use Rattle.cm_rules.specs.declared.fault.ClassFault.TheVariants as class
use Rattle.cm_rules.specs.Answer.{SpellsRightClass, IsBadClass}
use Rattle.cm_commands.specs.declared.fault.PrepareFault.{PrepareFault}
use Rattle.cm_commands.specs.declared.fault.PrepareFault.TheVariants.{BadClass, RecordTooLong}
use Rattle.cm_commands.specs.declared.fault.PrepareFault.TheVariants.{NoMemory}
use Rattle.cm_commands.specs.declared.refusal.Refusal.{Refusal}
use Rattle.cm_commands.specs.declared.refusal.Refusal.TheVariants as refusal

-- the class is right, but its record is longer than the limit
abbrev pub IsTooLong : List ℕ → Type 0
IsTooLong bytes = (c : ClassFile) × SpellsRightClass bytes c × (limit < length (lay c))

-- What may prevent a class from having a record: if it would be too long, exactly that, and never a
-- failed allocation.
abbrev pub IsUnbuilt : ClassFile → PrepareFault → Type 0
IsUnbuilt class (BadClass bad) = ⊥
IsUnbuilt class RecordTooLong = limit < length (lay class)
IsUnbuilt class NoMemory = ¬ (limit < length (lay class))

-- a failed allocation is reported only for bytes that spell a class
abbrev pub IsUnprepared : List ℕ → PrepareFault → Type 0
IsUnprepared bytes (BadClass bad) = IsBadClass bytes bad
IsUnprepared bytes RecordTooLong = IsTooLong bytes
IsUnprepared bytes NoMemory = IsSpelling bytes

-- the refusal that reports why bytes can't be prepared
abbrev pub refusal_for : PrepareFault → Refusal
refusal_for (BadClass bad) = refusal.BadClass bad
refusal_for RecordTooLong = refusal.RecordTooLong
refusal_for NoMemory = refusal.NoMemory

-- the bytes can't be prepared, which this refusal reports
abbrev pub IsRefusedBytes : List ℕ → Refusal → Type 0
IsRefusedBytes bytes r = (fault : PrepareFault) × IsUnprepared bytes fault × (r ≡ refusal_for fault)

-- why bytes can't be prepared if no class is read from them
abbrev pub fault_for : ClassFault → PrepareFault
fault_for (class.Bad bad) = BadClass bad
fault_for class.NoMemory = NoMemory
