-- Types of fields and methods, and the descriptors that spell them (JVMS SE 8, section 4.3).
use Rattle.std.specs.Prelude.{◌≡◌, ℕ, ◌+◌, ◌≤◌, IsTrue, List, [], ◌∷◌, ◌++◌, Option, Some, None}
use Rattle.std.specs.Prelude.{IfSome}
use Rattle.std.specs.List.{flat_map, AllByRecursion}
use Rattle.cm_descriptors.specs.Forms.{is_class_name, semicolon, bracket}

pub data BaseType : Type 0 where
  Byte : BaseType
  Char : BaseType
  Double : BaseType
  Float : BaseType
  Int : BaseType
  Long : BaseType
  Short : BaseType
  Boolean : BaseType

-- the letter of a base type; JVMS table 4.3-A
abbrev pub letter : BaseType → ℕ
letter Byte = 66
letter Char = 67
letter Double = 68
letter Float = 70
letter Int = 73
letter Long = 74
letter Short = 83
letter Boolean = 90

-- a base type, the class of a name, or an array of elements of a type
pub data FieldType : Type 0 where
  Base : BaseType → FieldType
  Class : (name : List ℕ) → FieldType
  Array : (element : FieldType) → FieldType

-- `L`, which is 76, with the name and a `;`; or `[` with the element's type
abbrev pub field_descriptor : FieldType → List ℕ
field_descriptor (Base base) = letter base ∷ []
field_descriptor (Class name) = 76 ∷ name ++ semicolon ∷ []
field_descriptor (Array element) = bracket ∷ field_descriptor element

abbrev pub dimensions : FieldType → ℕ
dimensions (Base base) = 0
dimensions (Class name) = 0
dimensions (Array element) = dimensions element + 1

abbrev pub NamesClasses : FieldType → Type 0
NamesClasses (Base base) = Unit {0}
NamesClasses (Class name) = IsTrue (is_class_name name)
NamesClasses (Array element) = NamesClasses element

-- the classes in it have class names, and it has at most 255 dimensions (JVMS 4.4.1)
pub record IsFieldType (type : FieldType) : Type 0 where
  pub named : NamesClasses type
  pub few_dimensions : dimensions type ≤ 255

-- the bytes spell the type of a field
abbrev pub SpellsFieldType : List ℕ → Type 0
SpellsFieldType bytes = (type : FieldType) × IsFieldType type × (field_descriptor type ≡ bytes)

-- what a method takes, and what it returns: none for nothing
pub record MethodType : Type 0 where
  pub parameters : List FieldType
  pub returned : Option FieldType

-- `V`, which is 86, for nothing
abbrev pub return_descriptor : Option FieldType → List ℕ
return_descriptor None = 86 ∷ []
return_descriptor (Some type) = field_descriptor type

-- `(` and `)`, which are 40 and 41, around the parameters, followed by what is returned
abbrev pub method_descriptor : MethodType → List ℕ
method_descriptor method =
    40 ∷ flat_map field_descriptor method.parameters ++ 41 ∷ return_descriptor method.returned

-- a long and a double take two units (JVMS 4.3.3)
abbrev pub units : FieldType → ℕ
units (Base Double) = 2
units (Base Long) = 2
units _ = 1

abbrev pub all_units : List FieldType → ℕ
all_units [] = 0
all_units (type ∷ types) = units type + all_units types

pub record IsMethodType (method : MethodType) : Type 0 where
  pub parameters : AllByRecursion IsFieldType method.parameters
  pub returned : IfSome method.returned IsFieldType
  pub few_units : all_units method.parameters ≤ 255

-- the bytes spell the type of a method whose parameters take this many units
abbrev pub SpellsMethodType : List ℕ → ℕ → Type 0
SpellsMethodType bytes n =
    (method : MethodType) × IsMethodType method × (method_descriptor method ≡ bytes)
    × (all_units method.parameters ≡ n)
