-- Where the code of a method is in its record (JVMS 4.7.3).
use Rattle.std.specs.Prelude.{◌≡◌, ℕ, ◌+◌, ◌*◌, ◌^◌, ◌<◌, true, false, List, [], ◌∷◌, ◌++◌, length}
use Rattle.std.specs.Prelude.{take, get_or, slice_get, Option, Some, None, nat_lt, if◌then◌else◌}
use Rattle.cm_class.specs.declared.class_file.Attribute.{Attribute}
use Rattle.cm_class.specs.declared.class_file.Member.{Member as ClassMember}
use Rattle.cm_class.specs.declared.class_file.ClassFile.{ClassFile}
use Rattle.cm_class.specs.Names.{names_utf8}
use Rattle.cm_record.specs.declared.member.Member.{Member}
use Rattle.cm_record.specs.declared.code.Code.{Code}
use Rattle.cm_record_layout.specs.Layout.{member_attributes, attribute_runs, attributes_at}
use Rattle.cm_record_layout.specs.Layout.{attribute_runs_at}

-- the bytes of `Code`
abbrev pub code_name : List ℕ
code_name = 67 ∷ 111 ∷ 100 ∷ 101 ∷ []

-- numbers of two and of four bytes, the highest first
abbrev pub u2_at : List ℕ → ℕ → ℕ
u2_at bytes i = 2 ^ 8 * get_or bytes i 0 + get_or bytes (i + 1) 0

abbrev pub u4_at : List ℕ → ℕ → ℕ
u4_at bytes i = 2 ^ 16 * u2_at bytes i + u2_at bytes (i + 2)

-- Max stack, max locals, the length of the code and the code, the number of handlers and eight
-- bytes each; none if the bytes end before. They begin at byte `at` of the record.
abbrev pub code_in : ℕ → List ℕ → Option Code
code_in at bytes =
    if nat_lt (length bytes) 8 then None
    else if nat_lt (length bytes) (10 + u4_at bytes 4) then None
    else if nat_lt (length bytes) (10 + u4_at bytes 4 + 8 * u2_at bytes (8 + u4_at bytes 4))
    then None
    else Some (record {
      max_stack = u2_at bytes 0;
      max_locals = u2_at bytes 2;
      code_at = at + 8;
      code_len = u4_at bytes 4;
      handlers_at = at + 10 + u4_at bytes 4;
      handlers = u2_at bytes (8 + u4_at bytes 4);
    })

-- the attributes before attribute j of method i, which is `own`
abbrev pub attributes_before : ClassFile → ℕ → ClassMember → ℕ → List Attribute
attributes_before c i own j =
    member_attributes c.fields ++ member_attributes (take i c.methods) ++ take j own.attributes

-- the word at which the attributes of method i begin
abbrev pub attributes_place : ClassFile → ℕ → ℕ
attributes_place c i =
    attributes_at c + 2 * length
    (member_attributes c.fields ++ member_attributes (take i c.methods))

-- the word at which the run of attribute j begins
abbrev pub run_place : ClassFile → ℕ → ClassMember → ℕ → ℕ
run_place c i own j = attribute_runs_at c + length (attribute_runs (attributes_before c i own j))

-- `own` is the method that m names, and its attribute j, which is `a`, the first `Code`
pub record HasCode (c : ClassFile) (m : Member) (own : ClassMember) (j : ℕ)
    (a : Attribute) : Type 0 where
  pub kind : m.is_method ≡ true
  pub method : slice_get c.methods m.index ≡ Some own
  pub there : slice_get own.attributes j ≡ Some a
  pub named : names_utf8 c a.name code_name ≡ true
  pub first : (k : ℕ) (b : Attribute) → k < j → slice_get own.attributes k ≡ Some b
      → names_utf8 c b.name code_name ≡ false

-- m names no method, or one without a Code
abbrev pub HasNoCode : ClassFile → Member → Type 0
HasNoCode c m = (own : ClassMember) (j : ℕ) (a : Attribute) → m.is_method ≡ true
    → slice_get c.methods m.index ≡ Some own → slice_get own.attributes j ≡ Some a
    → names_utf8 c a.name code_name ≡ false
