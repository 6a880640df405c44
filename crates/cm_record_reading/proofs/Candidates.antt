-- What a directory word may denote, of the words of a class.
-- For `is_record`, `layout_determines_class`, `spell_class`.
use Rattle.std.proofs.Common.{◌≡◌, ◌<◌, ◌+◌, ◌*◌, ◌/◌, ◌%◌, ◌^◌, ℕ, Some, refl, arith}
use Rattle.cm_class.specs.declared.constant.Constant.TheVariants as constant
use Rattle.cm_record_layout.specs.Packing.{first_of, second_of, third_of, fourth_of, upper_of}
use Rattle.cm_record_reading.specs.declared.entry.DirectoryEntry.TheVariants as entry
use Rattle.cm_record_reading.specs.Reading.{candidate}

pub utf8_back : (n at : ℕ) → n < 2 ^ 16
    → candidate (1 + 2 ^ 16 * n + 2 ^ 32 * at) ≡ Some (entry.Utf8 n)
unfolding candidate
utf8_back n at h =
    let w = 1 + 2 ^ 16 * n + 2 ^ 32 * at in
    let tag : first_of w ≡ 1 = omega arith in
    let len : second_of w ≡ n = omega arith in
    rw (tag, len) refl

pub integer_back : (n : ℕ) → n < 2 ^ 32
    → candidate (3 + 2 ^ 32 * n) ≡ Some (entry.Whole (constant.Integer n))
unfolding candidate
integer_back n h =
    let w = 3 + 2 ^ 32 * n in
    let tag : first_of w ≡ 3 = omega arith in
    let bits : upper_of w ≡ n = omega arith in
    rw (tag, bits) refl

pub float_back : (n : ℕ) → n < 2 ^ 32
    → candidate (4 + 2 ^ 32 * n) ≡ Some (entry.Whole (constant.Float n))
unfolding candidate
float_back n h =
    let w = 4 + 2 ^ 32 * n in
    let tag : first_of w ≡ 4 = omega arith in
    let bits : upper_of w ≡ n = omega arith in
    rw (tag, bits) refl

pub class_back : (n : ℕ) → n < 2 ^ 16
    → candidate (7 + 2 ^ 32 * n) ≡ Some (entry.Whole (constant.Class n))
unfolding candidate
class_back n h =
    let w = 7 + 2 ^ 32 * n in
    let tag : first_of w ≡ 7 = omega arith in
    let one : third_of w ≡ n = omega arith in
    rw (tag, one) refl

pub string_back : (n : ℕ) → n < 2 ^ 16
    → candidate (8 + 2 ^ 32 * n) ≡ Some (entry.Whole (constant.String n))
unfolding candidate
string_back n h =
    let w = 8 + 2 ^ 32 * n in
    let tag : first_of w ≡ 8 = omega arith in
    let one : third_of w ≡ n = omega arith in
    rw (tag, one) refl

pub method_type_back : (n : ℕ) → n < 2 ^ 16
    → candidate (16 + 2 ^ 32 * n) ≡ Some (entry.Whole (constant.MethodType n))
unfolding candidate
method_type_back n h =
    let w = 16 + 2 ^ 32 * n in
    let tag : first_of w ≡ 16 = omega arith in
    let one : third_of w ≡ n = omega arith in
    rw (tag, one) refl

pub fieldref_back : (n k : ℕ) → n < 2 ^ 16 → k < 2 ^ 16
    → candidate (9 + 2 ^ 32 * n + 2 ^ 48 * k) ≡ Some (entry.Whole (constant.Fieldref n k))
unfolding candidate
fieldref_back n k hn hk =
    let w = 9 + 2 ^ 32 * n + 2 ^ 48 * k in
    let tag : first_of w ≡ 9 = omega arith in
    let one : third_of w ≡ n = omega arith in
    let two : fourth_of w ≡ k = omega arith in
    rw (tag, one, two) refl

pub methodref_back : (n k : ℕ) → n < 2 ^ 16 → k < 2 ^ 16
    → candidate (10 + 2 ^ 32 * n + 2 ^ 48 * k) ≡ Some (entry.Whole (constant.Methodref n k))
unfolding candidate
methodref_back n k hn hk =
    let w = 10 + 2 ^ 32 * n + 2 ^ 48 * k in
    let tag : first_of w ≡ 10 = omega arith in
    let one : third_of w ≡ n = omega arith in
    let two : fourth_of w ≡ k = omega arith in
    rw (tag, one, two) refl

pub interface_methodref_back : (n k : ℕ) → n < 2 ^ 16 → k < 2 ^ 16
    → candidate (11 + 2 ^ 32 * n + 2 ^ 48 * k)
    ≡ Some (entry.Whole (constant.InterfaceMethodref n k))
unfolding candidate
interface_methodref_back n k hn hk =
    let w = 11 + 2 ^ 32 * n + 2 ^ 48 * k in
    let tag : first_of w ≡ 11 = omega arith in
    let one : third_of w ≡ n = omega arith in
    let two : fourth_of w ≡ k = omega arith in
    rw (tag, one, two) refl

pub name_and_type_back : (n k : ℕ) → n < 2 ^ 16 → k < 2 ^ 16
    → candidate (12 + 2 ^ 32 * n + 2 ^ 48 * k) ≡ Some (entry.Whole (constant.NameAndType n k))
unfolding candidate
name_and_type_back n k hn hk =
    let w = 12 + 2 ^ 32 * n + 2 ^ 48 * k in
    let tag : first_of w ≡ 12 = omega arith in
    let one : third_of w ≡ n = omega arith in
    let two : fourth_of w ≡ k = omega arith in
    rw (tag, one, two) refl

pub invoke_dynamic_back : (n k : ℕ) → n < 2 ^ 16 → k < 2 ^ 16
    → candidate (18 + 2 ^ 32 * n + 2 ^ 48 * k) ≡ Some (entry.Whole (constant.InvokeDynamic n k))
unfolding candidate
invoke_dynamic_back n k hn hk =
    let w = 18 + 2 ^ 32 * n + 2 ^ 48 * k in
    let tag : first_of w ≡ 18 = omega arith in
    let one : third_of w ≡ n = omega arith in
    let two : fourth_of w ≡ k = omega arith in
    rw (tag, one, two) refl

pub method_handle_back : (n k : ℕ) → n < 2 ^ 8 → k < 2 ^ 16
    → candidate (15 + 2 ^ 32 * n + 2 ^ 48 * k) ≡ Some (entry.Whole (constant.MethodHandle n k))
unfolding candidate
method_handle_back n k hn hk =
    let w = 15 + 2 ^ 32 * n + 2 ^ 48 * k in
    let tag : first_of w ≡ 15 = omega arith in
    let kind : w / 2 ^ 32 % 2 ^ 8 ≡ n = omega arith in
    let two : fourth_of w ≡ k = omega arith in
    rw (tag, kind, two) refl

pub long_back : candidate 5 ≡ Some entry.Long
unfolding candidate
long_back = refl

pub double_back : candidate 6 ≡ Some entry.Double
unfolding candidate
double_back = refl
