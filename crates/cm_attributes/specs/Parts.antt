-- What the content of each attribute is, as JVMS SE 8, section 4.7, lists it: numbers one after
-- another, and rows preceded by their count.
use Rattle.std.specs.Prelude.{◌≡◌, ◌⊎◌, ℕ, ◌<◌, ◌≤◌, true, List, [], ◌∷◌, ◌++◌, length, Some}
use Rattle.std.specs.List.{flat_map, AllByRecursion}
use Rattle.cm_class.specs.Spelling.{u2, u4, IsU2, IsU4, counted}
use Rattle.cm_class.specs.Names.{names}
use Rattle.cm_class.specs.declared.kind.Kind.{Kind}
use Rattle.cm_class.specs.declared.kind.Kind.TheVariants as kinds
use Rattle.cm_class.specs.declared.class_file.ClassFile.{ClassFile}
use Rattle.cm_attributes.specs.declared.known.Known.{Known}
use Rattle.cm_attributes.specs.declared.known.Known.TheVariants as known
use Rattle.cm_attributes.specs.declared.part.Part.{Part}
use Rattle.cm_attributes.specs.declared.part.Part.TheVariants.{Any, Names, Loadable}
use Rattle.cm_attributes.specs.Contents.{passes, value_kind, one_utf8, exception, enclosing_method}
use Rattle.cm_attributes.specs.Contents.{inner_class}

-- there is one number for each part, and it passes the part's test
abbrev pub Pass : ClassFile → List Part → List ℕ → Type 0
Pass c [] [] = Unit {0}
Pass c (part ∷ parts) (n ∷ numbers) = IsU2 n × (passes c part n ≡ true) × Pass c parts numbers
Pass c _ _ = ⊥

-- the bytes are the numbers of the parts
pub record IsRow (c : ClassFile) (parts : List Part) (bytes : List ℕ) : Type 0 where
  pub numbers : List ℕ
  pub pass : Pass c parts numbers
  pub spelled : bytes ≡ flat_map u2 numbers

-- the bytes are rows preceded by their count
pub record AreCounted (IsOne : List ℕ → Type 0) (bytes : List ℕ) : Type 0 where
  pub rows : List (List ℕ)
  pub count : IsU2 (length rows)
  pub each : AllByRecursion IsOne rows
  pub spelled : bytes ≡ counted (λ row. row) rows

-- ---- Code (JVMS 4.7.3)

-- a handler in a code of `size` bytes
pub record IsHandler (c : ClassFile) (size : ℕ) (bytes : List ℕ) : Type 0 where
  pub start : ℕ
  pub end : ℕ
  pub handler : ℕ
  pub catch : ℕ
  pub fits : IsU2 start × IsU2 end × IsU2 handler × IsU2 catch
  pub guards : start < end
  pub within : end ≤ size
  pub handles : handler < size
  pub catches : (catch ≡ 0) ⊎ (names kinds.Class c catch ≡ true)
  pub spelled : bytes ≡ u2 start ++ (u2 end ++ (u2 handler ++ u2 catch))

pub record IsAttribute (c : ClassFile) (bytes : List ℕ) : Type 0 where
  pub name : ℕ
  pub content : List ℕ
  pub fits : IsU2 name × IsU4 (length content)
  pub named : names kinds.Utf8 c name ≡ true
  pub spelled : bytes ≡ u2 name ++ (u4 (length content) ++ content)

pub record IsCode (c : ClassFile) (bytes : List ℕ) : Type 0 where
  pub stack : ℕ
  pub locals : ℕ
  pub code : List ℕ
  pub handlers : List ℕ
  pub attributes : List ℕ
  pub fits : IsU2 stack × IsU2 locals
  pub some : 0 < length code
  pub most : length code ≤ 65535
  pub are_handlers : AreCounted (IsHandler c (length code)) handlers
  pub are_attributes : AreCounted (IsAttribute c) attributes
  pub spelled :
      bytes ≡ u2 stack ++ (u2 locals ++ (u4 (length code) ++ (code ++ (handlers ++ attributes))))

-- ---- BootstrapMethods (JVMS 4.7.23)

pub record IsBootstrapMethod (c : ClassFile) (bytes : List ℕ) : Type 0 where
  pub method : List ℕ
  pub arguments : List ℕ
  pub is_method : IsRow c (Names kinds.MethodHandle ∷ []) method
  pub are_arguments : AreCounted (IsRow c (Loadable ∷ [])) arguments
  pub spelled : bytes ≡ method ++ arguments

-- ---- each attribute

abbrev pub IsContent : ClassFile → Known → List ℕ → Type 0
IsContent c known.Code bytes = IsCode c bytes
IsContent c known.ConstantValue bytes = IsRow c (Any ∷ []) bytes
IsContent c known.Exceptions bytes = AreCounted (IsRow c exception) bytes
IsContent c known.Signature bytes = IsRow c one_utf8 bytes
IsContent c known.Synthetic bytes = IsRow c [] bytes
IsContent c known.Deprecated bytes = IsRow c [] bytes
IsContent c known.SourceFile bytes = IsRow c one_utf8 bytes
IsContent c known.EnclosingMethod bytes = IsRow c enclosing_method bytes
IsContent c known.InnerClasses bytes = AreCounted (IsRow c inner_class) bytes
IsContent c known.BootstrapMethods bytes = AreCounted (IsBootstrapMethod c) bytes

-- the index of a constant of the kind that a field of this descriptor may have (JVMS 4.7.2)
abbrev pub IsValueOf : ClassFile → List ℕ → List ℕ → Type 0
IsValueOf c descriptor bytes =
    (kind : Kind) × (value_kind descriptor ≡ Some kind) × IsRow c (Names kind ∷ []) bytes
