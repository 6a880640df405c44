-- A class that isn't taken, and a record's constants, members and code, in C's numbers.
use Rattle.std.specs.Prelude.{◌≡◌, ℕ, ◌+◌, ◌*◌, ℤ, pos, Bool, ◌||◌, if◌then◌else◌, nat_lt}
use Rattle.std.specs.Prelude.{List, length, slice_index, Option, Some, None}
use Rattle.cm_class.specs.declared.constant.Constant.{Constant}
use Rattle.cm_class.specs.declared.constant.Constant.TheVariants as constant
use Rattle.cm_rules.specs.declared.rule.Spot.{Spot}
use Rattle.cm_rules.specs.declared.rule.Spot.TheVariants as spot
use Rattle.cm_rules.specs.declared.fault.BadClass.{BadClass}
use Rattle.cm_rules.specs.declared.fault.BadClass.TheVariants as bad
use Rattle.cm_rules.specs.Fault.{number}
use Rattle.cm_commands.specs.declared.fault.PrepareFault.{PrepareFault}
use Rattle.cm_commands.specs.declared.fault.PrepareFault.TheVariants as unprepared
use Rattle.cm_record.specs.declared.constant.Utf8Place.{Utf8Place}
use Rattle.cm_record.specs.declared.member.Member.{Member}
use Rattle.cm_record.specs.declared.code.Code.{Code}
use Rattle.cm_core.specs.declared.class.BadClassForC.{BadClassForC}
use Rattle.cm_core.specs.declared.record.ConstantForC.{ConstantForC}
use Rattle.cm_core.specs.declared.record.MemberForC.{MemberForC}
use Rattle.cm_core.specs.declared.record.CodeForC.{CodeForC}

-- ---- why a class isn't taken

abbrev pub spot_kind : Spot → ℕ
spot_kind (spot.Pool at) = 1
spot_kind spot.This = 2
spot_kind spot.Super = 3
spot_kind (spot.Interface at) = 4
spot_kind (spot.Field at) = 5
spot_kind (spot.Method at) = 6
spot_kind (spot.Attribute at) = 7

abbrev pub spot_index : Spot → ℕ
spot_index (spot.Pool at) = at
spot_index spot.This = 0
spot_index spot.Super = 0
spot_index (spot.Interface at) = at
spot_index (spot.Field at) = at
spot_index (spot.Method at) = at
spot_index (spot.Attribute at) = at

-- The major number times 65,536, plus the minor one, of bytes that begin as a class file of another
-- version: those of version 52.0 differ from them at this byte first.
abbrev pub other_version_of : List ℕ → ℕ → Option ℕ
other_version_of bytes at =
    if nat_lt at 4 || nat_lt 7 at || nat_lt (length bytes) 8 then None
    else Some (65536 * (256 * slice_index bytes 6 + slice_index bytes 7)
    + (256 * slice_index bytes 4 + slice_index bytes 5))

abbrev pub malformed_kind : Option ℕ → ℕ
malformed_kind None = 3
malformed_kind (Some version) = 5

-- the byte, or the version
abbrev pub malformed_at : ℕ → Option ℕ → ℕ
malformed_at at None = at
malformed_at at (Some version) = version

abbrev pub explained : List ℕ → BadClass → BadClassForC
explained bytes bad.Truncated = record { kind = 1; rule = 0; spot = 0; at = 0 }
explained bytes (bad.Trailing at) = record { kind = 2; rule = 0; spot = 0; at = at }
explained bytes (bad.Malformed at) = record {
  kind = malformed_kind (other_version_of bytes at);
  rule = 0;
  spot = 0;
  at = malformed_at at (other_version_of bytes at);
}
explained bytes (bad.Rule broken) = record {
  kind = 4;
  rule = number broken.rule;
  spot = spot_kind broken.spot;
  at = spot_index broken.spot;
}

-- a fault of the class is told; anything else leaves what was there
abbrev pub fault_told : List ℕ → BadClassForC → PrepareFault → BadClassForC
fault_told bytes before (unprepared.BadClass bad) = explained bytes bad
fault_told bytes before unprepared.RecordTooLong = before
fault_told bytes before unprepared.NoMemory = before

-- ---- a constant

-- a tag with numbers: a kind, two indexes, a length, a place and a value
abbrev pub told : ℕ → ℕ → ℕ → ℕ → ℕ → ℕ → ℕ → ConstantForC
told tag kind one two len at value = record {
  tag = tag;
  kind = kind;
  one = one;
  two = two;
  len = len;
  at = at;
  value = value;
}

-- the tags are those of JVMS table 4.4-A
abbrev pub constant_told : Constant Utf8Place → ConstantForC
constant_told (constant.Utf8 place) = told 1 0 0 0 place.len place.at 0
constant_told (constant.Integer bits) = told 3 0 0 0 0 0 bits
constant_told (constant.Float bits) = told 4 0 0 0 0 0 bits
constant_told (constant.Long bits) = told 5 0 0 0 0 0 bits
constant_told (constant.Double bits) = told 6 0 0 0 0 0 bits
constant_told (constant.Class name) = told 7 0 name 0 0 0 0
constant_told (constant.String utf8) = told 8 0 utf8 0 0 0 0
constant_told (constant.Fieldref owner named) = told 9 0 owner named 0 0 0
constant_told (constant.Methodref owner named) = told 10 0 owner named 0 0 0
constant_told (constant.InterfaceMethodref owner named) = told 11 0 owner named 0 0 0
constant_told (constant.NameAndType name descriptor) = told 12 0 name descriptor 0 0 0
constant_told (constant.MethodHandle kind reference) = told 15 kind reference 0 0 0 0
constant_told (constant.MethodType descriptor) = told 16 0 descriptor 0 0 0 0
constant_told (constant.InvokeDynamic bootstrap named) = told 18 0 bootstrap named 0 0 0

-- ---- members and code

-- found is 0, and none is 24
abbrev pub found_status : {T : Type 0} → Option T → ℤ
found_status None = pos 24
found_status (Some found) = pos 0

abbrev pub constant_found : ConstantForC → Option (Constant Utf8Place) → ConstantForC
constant_found before None = before
constant_found before (Some constant) = constant_told constant

abbrev pub member_told : MemberForC → Option Member → MemberForC
member_told before None = before
member_told before (Some member) = record {
  is_method = member.is_method;
  index = member.index;
  flags = member.flags;
  attributes = member.attributes;
}

abbrev pub member_meant : MemberForC → Member
member_meant told = record {
  is_method = told.is_method;
  index = told.index;
  flags = told.flags;
  attributes = told.attributes;
}

abbrev pub code_told : CodeForC → Option Code → CodeForC
code_told before None = before
code_told before (Some code) = record {
  max_stack = code.max_stack;
  max_locals = code.max_locals;
  handlers = code.handlers;
  code_at = code.code_at;
  code_len = code.code_len;
  handlers_at = code.handlers_at;
}
