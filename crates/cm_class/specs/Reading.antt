-- Reading bytes from left to right, as a function of lists: the value and the bytes that are left,
-- or where it stops. How reading relates to spellings is proved on top of it, in `read_shape` and
-- the laws of this crate.
use Rattle.std.specs.Prelude.{◌≡◌, ◌⊎◌, ℕ, zero, suc, ◌+◌, ◌-◌, Bool, true, false, List, [], ◌∷◌}
use Rattle.std.specs.Prelude.{length, take, drop, Option, Some, None, Result, Ok, Err, nat_lt, ◌==◌}
use Rattle.std.specs.Prelude.{◌&&◌, if◌then◌else◌}
use Rattle.byteorder.specs.Endian.{big_number}
use Rattle.cm_class.specs.declared.stop.Stop.{Stop}
use Rattle.cm_class.specs.declared.stop.Stop.TheVariants.{Short, Bad, NoMemory}
use Rattle.cm_class.specs.declared.fault.ShapeFault.{ShapeFault}
use Rattle.cm_class.specs.declared.fault.ShapeFault.TheVariants as faults
use Rattle.cm_class.specs.declared.kind.Kind.{Kind}
use Rattle.cm_class.specs.declared.kind.Kind.TheVariants as kinds
use Rattle.cm_class.specs.declared.constant.Constant.TheVariants as constant
use Rattle.cm_class.specs.declared.constant.Slot.{Slot}
use Rattle.cm_class.specs.declared.constant.Slot.TheVariants.{Usable, Unusable}
use Rattle.cm_class.specs.declared.class_file.Attribute.{Attribute}
use Rattle.cm_class.specs.declared.class_file.Member.{Member}
use Rattle.cm_class.specs.declared.class_file.ClassFile.{ClassFile}
use Rattle.cm_class.specs.Spelling.{ClassConstant, is_wide, heading}

infixl 10 ◌>>=◌
abbrev pub ◌>>=◌ : {A B : Type 0} → Result A Stop → (A → Result B Stop) → Result B Stop
(Ok x) >>= f = f x
(Err e) >>= f = Err e

-- What a function returned, seen by view, is what reading gives, unless an allocation failed.
abbrev pub Fails : {Y : Type 0} → Stop → Result Y Stop → Type 0
Fails NoMemory read = Unit {0}
Fails Short read = read ≡ Err Short
Fails (Bad left) read = read ≡ Err (Bad left)

abbrev pub Gives : {X Y : Type 0} → (X → Y) → Result X Stop → Result Y Stop → Type 0
Gives view (Ok x) read = read ≡ Ok (view x)
Gives view (Err e) read = Fails e read

-- the same for a function that doesn't allocate, so that no allocation fails
abbrev pub GivesExactly : {X Y : Type 0} → (X → Y) → Result X Stop → Result Y Stop → Type 0
GivesExactly view (Ok x) read = read ≡ Ok (view x)
GivesExactly view (Err e) read = read ≡ Err e

-- the bytes that are left after what is read
abbrev pub rest_of : {A : Type 0} → Result (A × List ℕ) Stop → Result (List ℕ) Stop
rest_of (Ok x) = Ok x.1
rest_of (Err e) = Err e

-- the same for a function that reads into a sink: if the sink keeps items, the result is what
-- reading gives, unless an allocation failed; if it keeps nothing, the result says exactly what is
-- left, and nothing of the value
pub record GivesTo {X Y : Type 0} (keeps : Bool) (view : X → Y × List ℕ) (result : Result X Stop)
    (read : Result (Y × List ℕ) Stop) : Type 0 where
  pub kept : keeps ≡ true → Gives view result read
  pub walked : keeps ≡ false → GivesExactly (λ x. (view x).1) result (rest_of read)

-- ---- putting readers together

-- one reader after another
abbrev pub both_at : {A B : Type 0} → (List ℕ → Result (A × List ℕ) Stop)
    → (List ℕ → Result (B × List ℕ) Stop) → List ℕ → Result ((A × B) × List ℕ) Stop
both_at one two bytes = do
  a ← one bytes
  b ← two a.1
  Ok ((a.0, b.0), b.1)

-- a value made from the one that was read
abbrev pub made_at : {A B : Type 0} → (A → B) → (List ℕ → Result (A × List ℕ) Stop) → List ℕ
    → Result (B × List ℕ) Stop
made_at make one bytes = do
  a ← one bytes
  Ok (make a.0, a.1)

-- ---- numbers and bytes

-- a number of `n` bytes
abbrev pub number_at : ℕ → List ℕ → Result (ℕ × List ℕ) Stop
number_at n bytes =
    if nat_lt (length bytes) n then Err Short else Ok (big_number n bytes, drop n bytes)

abbrev pub byte_at : List ℕ → Result (ℕ × List ℕ) Stop
byte_at [] = Err Short
byte_at (b ∷ bytes) = Ok (b, bytes)

-- `n` bytes
abbrev pub bytes_at : ℕ → List ℕ → Result (List ℕ × List ℕ) Stop
bytes_at n bytes = if nat_lt (length bytes) n then Err Short else Ok (take n bytes, drop n bytes)

-- this byte and no other
abbrev pub literal_at : ℕ → List ℕ → Result (Unit {0} × List ℕ) Stop
literal_at e [] = Err Short
literal_at e (b ∷ bytes) = if b == e then Ok (tt, bytes) else Err (Bad (length bytes + 1))

-- these bytes and no others
unfoldable pub expected_at : List ℕ → List ℕ → Result (Unit {0} × List ℕ) Stop
expected_at [] bytes = Ok (tt, bytes)
expected_at (e ∷ expected) bytes = do
  first ← literal_at e bytes
  expected_at expected first.1

-- the pool's count, which isn't 0
unfoldable pub count_at : List ℕ → Result (ℕ × List ℕ) Stop
count_at bytes = do
  n ← number_at 2 bytes
  if n.0 == 0 then Err (Bad (length n.1 + 1)) else Ok (n.0, n.1)

-- ---- lists

-- this many items
unfoldable pub many_at : {A : Type 0} → (List ℕ → Result (A × List ℕ) Stop) → ℕ → List ℕ
    → Result (List A × List ℕ) Stop
many_at item zero bytes = Ok ([], bytes)
many_at item (suc n) bytes = do
  first ← item bytes
  others ← many_at item n first.1
  Ok (first.0 ∷ others.0, others.1)

-- a count, and that many items
unfoldable pub counted_at : {A : Type 0} → (List ℕ → Result (A × List ℕ) Stop) → List ℕ
    → Result (List A × List ℕ) Stop
counted_at item bytes = do
  n ← number_at 2 bytes
  many_at item n.0 n.1

-- ---- the constant pool

-- the kind that has this tag (JVMS 4.4, table 4.4-A)
abbrev pub tag_of : ℕ → Option Kind
tag_of n =
    if n == 1 then Some kinds.Utf8
    else if n == 3 then Some kinds.Integer
    else if n == 4 then Some kinds.Float
    else if n == 5 then Some kinds.Long
    else if n == 6 then Some kinds.Double
    else if n == 7 then Some kinds.Class
    else if n == 8 then Some kinds.String
    else if n == 9 then Some kinds.Fieldref
    else if n == 10 then Some kinds.Methodref
    else if n == 11 then Some kinds.InterfaceMethodref
    else if n == 12 then Some kinds.NameAndType
    else if n == 15 then Some kinds.MethodHandle
    else if n == 16 then Some kinds.MethodType
    else if n == 18 then Some kinds.InvokeDynamic
    else None

-- the tag of a kind; no two kinds have the same
abbrev pub tag_number : Kind → ℕ
tag_number kinds.Utf8 = 1
tag_number kinds.Integer = 3
tag_number kinds.Float = 4
tag_number kinds.Long = 5
tag_number kinds.Double = 6
tag_number kinds.Class = 7
tag_number kinds.String = 8
tag_number kinds.Fieldref = 9
tag_number kinds.Methodref = 10
tag_number kinds.InterfaceMethodref = 11
tag_number kinds.NameAndType = 12
tag_number kinds.MethodHandle = 15
tag_number kinds.MethodType = 16
tag_number kinds.InvokeDynamic = 18

-- how many slots a constant of this kind takes
abbrev pub takes_two : Kind → Bool
takes_two kinds.Long = true
takes_two kinds.Double = true
takes_two _ = false

-- the tag of a constant for which `left` slots are left; a wide one takes two of them
abbrev pub tag_found : ℕ → Option Kind → List ℕ → Result (Kind × List ℕ) Stop
tag_found left None bytes = Err (Bad (length bytes + 1))
tag_found left (Some t) bytes =
    if takes_two t && nat_lt left 2 then Err (Bad (length bytes + 1)) else Ok (t, bytes)

unfoldable pub tag_at : ℕ → List ℕ → Result (Kind × List ℕ) Stop
tag_at left [] = Err Short
tag_at left (b ∷ bytes) = tag_found left (tag_of b) bytes

-- a length in `n` bytes, and bytes of that length
unfoldable pub sized_at : ℕ → List ℕ → Result (List ℕ × List ℕ) Stop
sized_at n bytes = do
  size ← number_at n bytes
  bytes_at size.0 size.1

-- one number, made into a constant
unfoldable pub one_at : (ℕ → ClassConstant) → ℕ → List ℕ → Result (ClassConstant × List ℕ) Stop
one_at make n bytes = made_at make (number_at n) bytes

-- two numbers, the second of two bytes, made into a constant
unfoldable pub two_at : (ℕ → ℕ → ClassConstant) → (List ℕ → Result (ℕ × List ℕ) Stop) → List ℕ
    → Result (ClassConstant × List ℕ) Stop
two_at make first bytes = made_at (λ x. make x.0 x.1) (both_at first (number_at 2)) bytes

unfoldable pub utf8_at : List ℕ → Result (ClassConstant × List ℕ) Stop
utf8_at bytes = made_at constant.Utf8 (sized_at 2) bytes

-- the kinds that have a number after their tag
abbrev pub is_number : Kind → Bool
is_number kinds.Integer = true
is_number kinds.Float = true
is_number kinds.Long = true
is_number kinds.Double = true
is_number _ = false

-- the kinds that name a field or a method
abbrev pub is_member : Kind → Bool
is_member kinds.Fieldref = true
is_member kinds.Methodref = true
is_member kinds.InterfaceMethodref = true
is_member _ = false

-- the kinds that have other indexes of the pool there, one or two
abbrev pub has_indexes : Kind → Bool
has_indexes kinds.Class = true
has_indexes kinds.String = true
has_indexes kinds.NameAndType = true
has_indexes kinds.MethodHandle = true
has_indexes kinds.MethodType = true
has_indexes kinds.InvokeDynamic = true
has_indexes _ = false

-- what is after a tag
abbrev pub info_at : Kind → List ℕ → Result (ClassConstant × List ℕ) Stop
info_at kinds.Utf8 bytes = utf8_at bytes
info_at kinds.Integer bytes = one_at constant.Integer 4 bytes
info_at kinds.Float bytes = one_at constant.Float 4 bytes
info_at kinds.Long bytes = one_at constant.Long 8 bytes
info_at kinds.Double bytes = one_at constant.Double 8 bytes
info_at kinds.Class bytes = one_at constant.Class 2 bytes
info_at kinds.String bytes = one_at constant.String 2 bytes
info_at kinds.Fieldref bytes = two_at constant.Fieldref (number_at 2) bytes
info_at kinds.Methodref bytes = two_at constant.Methodref (number_at 2) bytes
info_at kinds.InterfaceMethodref bytes = two_at constant.InterfaceMethodref (number_at 2) bytes
info_at kinds.NameAndType bytes = two_at constant.NameAndType (number_at 2) bytes
info_at kinds.MethodHandle bytes = two_at constant.MethodHandle byte_at bytes
info_at kinds.MethodType bytes = one_at constant.MethodType 2 bytes
info_at kinds.InvokeDynamic bytes = two_at constant.InvokeDynamic (number_at 2) bytes

unfoldable pub constant_at : ℕ → List ℕ → Result (ClassConstant × List ℕ) Stop
constant_at left bytes = do
  tag ← tag_at left bytes
  info_at tag.0 tag.1

-- this many slots, the first of which may be the second slot of a wide constant
unfoldable pub slots_at : Bool → ℕ → List ℕ → Result (List Slot × List ℕ) Stop
slots_at second zero bytes = Ok ([], bytes)
slots_at true (suc left) bytes = do
  others ← slots_at false left bytes
  Ok (Unusable ∷ others.0, others.1)
slots_at false (suc left) bytes = do
  c ← constant_at (suc left) bytes
  others ← slots_at (is_wide c.0) left c.1
  Ok (Usable c.0 ∷ others.0, others.1)

-- ---- members and classes

unfoldable pub attribute_at : List ℕ → Result (Attribute × List ℕ) Stop
attribute_at bytes =
    made_at (λ x. record { name = x.0; bytes = x.1 }) (both_at (number_at 2) (sized_at 4)) bytes

-- the items that are read, if reading succeeds; and that it succeeds
abbrev pub items_of : {A : Type 0} → Result (List A × List ℕ) Stop → List A
items_of (Ok x) = x.0
items_of (Err e) = []

abbrev pub Succeeds : {A : Type 0} → Result A Stop → Type 0
Succeeds (Ok x) = Unit {0}
Succeeds (Err e) = ⊥

-- this many attributes, if the bytes begin with them
abbrev pub attributes_of : ℕ → List ℕ → List Attribute
attributes_of n bytes = items_of (many_at attribute_at n bytes)

unfoldable pub member_at : List ℕ → Result (Member × List ℕ) Stop
member_at bytes =
    made_at (λ x. record { flags = x.0; name = x.1.0; descriptor = x.1.1.0; attributes = x.1.1.1 })
    (both_at (number_at 2)
    (both_at (number_at 2) (both_at (number_at 2) (counted_at attribute_at)))) bytes

-- the heading, the pool's count and its slots
unfoldable pub pool_at : List ℕ → Result (List Slot × List ℕ) Stop
pool_at bytes = do
  start ← expected_at heading bytes
  count ← count_at start.1
  slots_at false (count.0 - 1) count.1

-- the numbers and lists after the pool
abbrev pub Body : Type 0
Body = ℕ × (ℕ × (ℕ × (List ℕ × (List Member × (List Member × List Attribute)))))

abbrev pub body_at : List ℕ → Result (Body × List ℕ) Stop
body_at bytes =
    both_at (number_at 2)
    (both_at (number_at 2) (both_at (number_at 2) (both_at (counted_at (number_at 2))
    (both_at (counted_at member_at) (both_at (counted_at member_at) (counted_at attribute_at))))))
    bytes

unfoldable pub class_at : List ℕ → Result (ClassFile × List ℕ) Stop
class_at bytes =
    made_at (λ x. record {
      slots = x.0;
      flags = x.1.0;
      this_class = x.1.1.0;
      super_class = x.1.1.1.0;
      interfaces = x.1.1.1.1.0;
      fields = x.1.1.1.1.1.0;
      methods = x.1.1.1.1.1.1.0;
      attributes = x.1.1.1.1.1.1.1;
    })
    (both_at pool_at body_at) bytes

-- ---- whole texts

-- what reading a class file from bytes says about all of them
abbrev pub answer_of : List ℕ → Result (ClassFile × List ℕ) Stop → Result ClassFile ShapeFault
answer_of bytes (Ok x) =
    if length x.1 == 0 then Ok x.0 else Err (faults.Trailing (length bytes - length x.1))
answer_of bytes (Err Short) = Err faults.Truncated
answer_of bytes (Err (Bad left)) = Err (faults.Malformed (length bytes - left))
answer_of bytes (Err NoMemory) = Err faults.NoMemory

-- the result is this answer; or an allocation failed, if the answer is a class file
abbrev pub IsUnlessRefused : Result ClassFile ShapeFault → Result ClassFile ShapeFault → Type 0
IsUnlessRefused answer result =
    (result ≡ answer) ⊎ ((result ≡ Err faults.NoMemory) × ((c : ClassFile) × (answer ≡ Ok c)))
