-- The contents of attributes (JVMS SE 8, section 4.7), as far as they are checked: each is a list
-- of parts. What this means for all of the bytes is a law on top of these definitions
-- (`specs/Parts.antt`).
use Rattle.std.specs.Prelude.{ℕ, zero, suc, ◌+◌, ◌*◌, Bool, true, false, ◌&&◌, ◌||◌, List, [], ◌∷◌}
use Rattle.std.specs.Prelude.{length, drop, Option, Some, None, option_and_then, slice_get, nat_lt}
use Rattle.std.specs.Prelude.{nat_le, ◌==◌, if◌then◌else◌, bytes_eq, codes}
use Rattle.std.specs.Option.{option_map_or}
use Rattle.cm_class.specs.Names.{names, names_such}
use Rattle.cm_class.specs.declared.kind.Kind.{Kind}
use Rattle.cm_class.specs.declared.kind.Kind.TheVariants as kinds
use Rattle.cm_class.specs.declared.constant.Constant.TheVariants as constant
use Rattle.cm_class.specs.declared.class_file.Attribute.{Attribute}
use Rattle.cm_class.specs.declared.class_file.ClassFile.{ClassFile}
use Rattle.cm_class.specs.Spelling.{ClassConstant}
use Rattle.cm_attributes.specs.declared.known.Known.{Known}
use Rattle.cm_attributes.specs.declared.known.Known.TheVariants as known
use Rattle.cm_attributes.specs.declared.part.Part.{Part}
use Rattle.cm_attributes.specs.declared.part.Part.TheVariants.{Any, Names, ZeroOr, Loadable}
use Rattle.cm_attributes.specs.declared.code.Handler.{Handler}
use Rattle.cm_attributes.specs.Names.{first_place}

infixl 10 ◌>>=◌
abbrev pub ◌>>=◌ : {A B : Type 0} → Option A → (A → Option B) → Option B
o >>= f = option_and_then f o

-- ---- numbers

abbrev pub u2_of : List ℕ → Option (ℕ × List ℕ)
u2_of (a ∷ b ∷ bytes) = Some (256 * a + b, bytes)
u2_of _ = None

abbrev pub u4_of : List ℕ → Option (ℕ × List ℕ)
u4_of (a ∷ b ∷ c ∷ d ∷ bytes) = Some (256 * (256 * (256 * a + b) + c) + d, bytes)
u4_of _ = None

-- the bytes after the first n
abbrev pub past : ℕ → List ℕ → Option (List ℕ)
past n bytes = if nat_lt (length bytes) n then None else Some (drop n bytes)

-- nothing is left
abbrev pub is_whole : Option (List ℕ) → Bool
is_whole read = option_map_or (λ rest. length rest == 0) read false

-- ---- parts

-- what may be an argument of a bootstrap method (JVMS 4.7.23)
abbrev pub is_loadable : ClassConstant → Bool
is_loadable (constant.String utf8) = true
is_loadable (constant.Class name) = true
is_loadable (constant.Integer bits) = true
is_loadable (constant.Long bits) = true
is_loadable (constant.Float bits) = true
is_loadable (constant.Double bits) = true
is_loadable (constant.MethodHandle kind reference) = true
is_loadable (constant.MethodType descriptor) = true
is_loadable _ = false

-- what a part requires of its number
abbrev pub passes : ClassFile → Part → ℕ → Bool
passes c Any i = true
passes c (Names kind) i = names kind c i
passes c (ZeroOr kind) i = i == 0 || names kind c i
passes c Loadable i = names_such is_loadable c i

abbrev pub past_part : ClassFile → Part → List ℕ → Option (List ℕ)
past_part c part bytes = u2_of bytes >>= λ n. if passes c part n.0 then Some n.1 else None

unfoldable pub past_parts : ClassFile → List Part → List ℕ → Option (List ℕ)
past_parts c [] bytes = Some bytes
past_parts c (part ∷ parts) bytes = past_part c part bytes >>= λ rest. past_parts c parts rest

-- this many rows, each skipped in the same way
unfoldable pub past_many : (List ℕ → Option (List ℕ)) → ℕ → List ℕ → Option (List ℕ)
past_many row zero bytes = Some bytes
past_many row (suc n) bytes = row bytes >>= λ rest. past_many row n rest

-- after a count of two bytes, and that many rows
abbrev pub past_counted : (List ℕ → Option (List ℕ)) → List ℕ → Option (List ℕ)
past_counted row bytes = u2_of bytes >>= λ n. past_many row n.0 n.1

-- the bytes are the parts, and nothing else
abbrev pub is_row : ClassFile → List Part → List ℕ → Bool
is_row c parts bytes = is_whole (past_parts c parts bytes)

-- the bytes are a count and that many rows of the parts, and nothing else
abbrev pub are_rows : ClassFile → List Part → List ℕ → Bool
are_rows c parts bytes = is_whole (past_counted (past_parts c parts) bytes)

-- ---- the parts of each attribute

-- the index of a Utf8 (JVMS 4.7.9, 4.7.10)
abbrev pub one_utf8 : List Part
one_utf8 = Names kinds.Utf8 ∷ []

-- for each exception, its class (JVMS 4.7.5)
abbrev pub exception : List Part
exception = Names kinds.Class ∷ []

-- the enclosing class, and the method (JVMS 4.7.7)
abbrev pub enclosing_method : List Part
enclosing_method = Names kinds.Class ∷ ZeroOr kinds.NameAndType ∷ []

-- for each inner class: the class itself, its outer class, its name and its flags (JVMS 4.7.6)
abbrev pub inner_class : List Part
inner_class = Names kinds.Class ∷ ZeroOr kinds.Class ∷ ZeroOr kinds.Utf8 ∷ Any ∷ []

-- ---- ConstantValue (JVMS 4.7.2, table 4.7.2-A)

-- the kind of constant that a field of this descriptor may have
unfoldable pub value_kind : List ℕ → Option Kind
value_kind descriptor =
    if bytes_eq descriptor (codes "J") then Some kinds.Long
    else if bytes_eq descriptor (codes "F") then Some kinds.Float
    else if bytes_eq descriptor (codes "D") then Some kinds.Double
    else if bytes_eq descriptor (codes "I") || bytes_eq descriptor (codes "S")
    || bytes_eq descriptor (codes "C") || bytes_eq descriptor (codes "B")
    || bytes_eq descriptor (codes "Z")
    then Some kinds.Integer
    else if bytes_eq descriptor (codes "Ljava/lang/String;") then Some kinds.String
    else None

-- the bytes are the index of a constant that a field of this descriptor may have
abbrev pub is_value_of : ClassFile → List ℕ → List ℕ → Bool
is_value_of c descriptor bytes =
    option_map_or (λ kind. is_row c (Names kind ∷ []) bytes) (value_kind descriptor) false

-- ---- Code (JVMS 4.7.3)

abbrev pub handler_of : List ℕ → Option (Handler × List ℕ)
handler_of bytes =
    u2_of bytes >>= λ start. u2_of start.1 >>= λ end.
    u2_of end.1 >>= λ handler. u2_of handler.1 >>= λ catch.
    Some (record { start = start.0; end = end.0; handler = handler.0; catch = catch.0 }, catch.1)

-- in a code of `size` bytes, the handler covers some of them, is within them, and catches a class
-- or all
abbrev pub is_handler : ClassFile → ℕ → Handler → Bool
is_handler c size h =
    nat_lt h.start h.end && nat_le h.end size && nat_lt h.handler size
    && passes c (ZeroOr kinds.Class) h.catch

abbrev pub past_handler : ClassFile → ℕ → List ℕ → Option (List ℕ)
past_handler c size bytes =
    handler_of bytes >>= λ h. if is_handler c size h.0 then Some h.1 else None

-- after the index of a Utf8, a length and that many bytes
abbrev pub past_attribute : ClassFile → List ℕ → Option (List ℕ)
past_attribute c bytes = past_parts c one_utf8 bytes >>= λ rest. u4_of rest >>= λ n. past n.0 n.1

-- after the code's bytes, 1 to 65,535 of them; and how many there are
unfoldable pub code_of : List ℕ → Option (ℕ × List ℕ)
code_of bytes =
    u4_of bytes >>= λ size.
    if nat_lt 0 size.0 && nat_le size.0 65535
    then (past size.0 size.1 >>= λ rest. Some (size.0, rest)) else None

-- after stack, locals, code, handlers and attributes
abbrev pub past_code : ClassFile → List ℕ → Option (List ℕ)
past_code c bytes =
    past_parts c (Any ∷ Any ∷ []) bytes >>= λ rest. code_of rest >>= λ code.
    past_counted (past_handler c code.0) code.1 >>= λ rest. past_counted (past_attribute c) rest

-- ---- BootstrapMethods (JVMS 4.7.23)

-- after a method handle, a count and that many arguments
abbrev pub past_bootstrap_method : ClassFile → List ℕ → Option (List ℕ)
past_bootstrap_method c bytes =
    past_parts c (Names kinds.MethodHandle ∷ []) bytes
    >>= λ rest. past_counted (past_parts c (Loadable ∷ [])) rest

-- ---- contents

unfoldable pub is_content : ClassFile → Known → List ℕ → Bool
is_content c known.Code bytes = is_whole (past_code c bytes)
is_content c known.ConstantValue bytes = is_row c (Any ∷ []) bytes
is_content c known.Exceptions bytes = are_rows c exception bytes
is_content c known.Signature bytes = is_row c one_utf8 bytes
is_content c known.Synthetic bytes = is_row c [] bytes
is_content c known.Deprecated bytes = is_row c [] bytes
is_content c known.SourceFile bytes = is_row c one_utf8 bytes
is_content c known.EnclosingMethod bytes = is_row c enclosing_method bytes
is_content c known.InnerClasses bytes = are_rows c inner_class bytes
is_content c known.BootstrapMethods bytes = is_whole (past_counted (past_bootstrap_method c) bytes)

-- how many bootstrap methods the content states; 0 if it is malformed
abbrev pub stated_count : ClassFile → Attribute → ℕ
stated_count c a =
    if is_content c known.BootstrapMethods a.bytes
    then option_map_or (λ n. n.0) (u2_of a.bytes) 0 else 0

-- the count stated by the first such attribute of the class
unfoldable pub bootstrap_count : ClassFile → ℕ
bootstrap_count c =
    option_map_or (stated_count c) (slice_get c.attributes (first_place c known.BootstrapMethods)) 0
