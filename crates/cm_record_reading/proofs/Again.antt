-- What was laid out is read back, whatever follows it.
-- For `is_record`, `layout_determines_class`, `spell_class`.
use Rattle.std.proofs.Common.{◌≡◌, ◌+◌, ◌-◌, ◌*◌, ◌^◌, ℕ, Bool, true, false, List, [], ◌∷◌, ◌++◌}
use Rattle.std.proofs.Common.{length, Some, refl, ◌∙◌, ap, arith, append_assoc, length-append}
use Rattle.std.specs.Prelude.{◌==◌, nat_lt}
use Rattle.std.specs.List.{AllByRecursion}
use Rattle.std.proofs.lemmas.Bool.{eq-eqb, lt-ltb}
use Rattle.cm_class.specs.declared.constant.Constant.TheVariants as constant
use Rattle.cm_class.specs.declared.constant.Slot.{Slot}
use Rattle.cm_class.specs.declared.constant.Slot.TheVariants.{Usable, Unusable}
use Rattle.cm_class.specs.declared.class_file.Attribute.{Attribute}
use Rattle.cm_class.specs.declared.class_file.Member.{Member}
use Rattle.cm_class.specs.Spelling.{is_wide, IsU2, ConstantFits, SlotsFit, AttributeFits}
use Rattle.cm_class.specs.Spelling.{ClassConstant, MemberFits}
use Rattle.cm_record_reading.specs.declared.entry.DirectoryEntry.{DirectoryEntry}
use Rattle.cm_record_reading.specs.declared.entry.DirectoryEntry.TheVariants as entry
use Rattle.cm_record_layout.specs.Packing.{four_numbers, first_of, second_of, third_of, fourth_of}
use Rattle.cm_record_layout.specs.Packing.{upper_of}
use Rattle.cm_record_layout.specs.Layout.{constant_words, constant_run, directory, utf8_runs}
use Rattle.cm_record_layout.specs.Layout.{members, member_attributes, attributes, attribute_run}
use Rattle.cm_record_layout.specs.Layout.{attribute_runs, whole_word}
use Rattle.cm_record_reading.specs.Reading.{candidate, entry_word, entry_of, constant_at, slots_at}
use Rattle.cm_record_reading.specs.Reading.{run_at, interfaces_from, attribute_at, attributes_from}
use Rattle.cm_record_reading.specs.Reading.{member_at, members_from}
use Rattle.cm_record_layout.proofs.{first-attribute, upper-attribute, first-four_numbers}
use Rattle.cm_record_layout.proofs.{second-four_numbers, third-four_numbers, fourth-four_numbers}
use Rattle.cm_record_layout.proofs.{attributes_append, attribute_runs_append, attributes_len}
use Rattle.cm_record_reading.proofs.Candidates.{long_back, double_back, utf8_back, integer_back}
use Rattle.cm_record_reading.proofs.Candidates.{float_back, class_back, string_back}
use Rattle.cm_record_reading.proofs.Candidates.{method_type_back, fieldref_back, methodref_back}
use Rattle.cm_record_reading.proofs.Candidates.{interface_methodref_back, name_and_type_back}
use Rattle.cm_record_reading.proofs.Candidates.{invoke_dynamic_back, method_handle_back}
use Rattle.cm_record_reading.proofs.RunsBack.{run_again}

same_number : (n : ℕ) → (n == n) ≡ true
same_number n = eq-eqb n n refl

-- an entry is found at its word
entry_found : (at word : ℕ) (e : DirectoryEntry) → candidate word ≡ Some e → entry_word at e ≡ word
    → entry_of at word ≡ Some e
unfolding entry_of
entry_found at word e found same = let test : (entry_word at e == word) ≡ true =
    eq-eqb (entry_word at e) word same in rw (found, test) refl

-- a constant of a word of its own
whole_again : (total word : ℕ) (c : ClassConstant) (main runs : List ℕ)
    → candidate word ≡ Some (entry.Whole c) → whole_word c ≡ word
    → constant_at total (word ∷ main) runs ≡ Some (c, main, runs)
unfolding constant_at
whole_again total word c main runs found same =
    rw (entry_found (total - length runs) word (entry.Whole c) found same) refl

pub constant_again : (total at : ℕ) (c : ClassConstant) (main runs : List ℕ) → ConstantFits c
    → at ≡ total - length (constant_run c ++ runs)
    → constant_at total (constant_words at c ++ main) (constant_run c ++ runs)
    ≡ Some (c, main, runs)
unfolding constant_at
constant_again total at (constant.Utf8 bytes) main runs fits e =
    let found =
    entry_found at (1 + 2 ^ 16 * length bytes + 2 ^ 32 * at) (entry.Utf8 (length bytes))
    (utf8_back (length bytes) at fits.0) refl in
    rw (← e, found, run_again bytes runs fits.1) refl
constant_again total at (constant.Integer bits) main runs fits e =
    whole_again total (3 + 2 ^ 32 * bits) (constant.Integer bits) main runs
    (integer_back bits fits) refl
constant_again total at (constant.Float bits) main runs fits e =
    whole_again total (4 + 2 ^ 32 * bits) (constant.Float bits) main runs
    (float_back bits fits) refl
constant_again total at (constant.Long bits) main runs fits e =
    let test : nat_lt bits (2 ^ 64) ≡ true = lt-ltb bits (2 ^ 64) fits in
    rw (entry_found (total - length runs) 5 entry.Long long_back refl, test) refl
constant_again total at (constant.Double bits) main runs fits e =
    let test : nat_lt bits (2 ^ 64) ≡ true = lt-ltb bits (2 ^ 64) fits in
    rw (entry_found (total - length runs) 6 entry.Double double_back refl, test) refl
constant_again total at (constant.Class name) main runs fits e =
    whole_again total (7 + 2 ^ 32 * name) (constant.Class name) main runs
    (class_back name fits) refl
constant_again total at (constant.String utf8) main runs fits e =
    whole_again total (8 + 2 ^ 32 * utf8) (constant.String utf8) main runs
    (string_back utf8 fits) refl
constant_again total at (constant.Fieldref a b) main runs fits e =
    whole_again total (9 + 2 ^ 32 * a + 2 ^ 48 * b) (constant.Fieldref a b) main runs
    (fieldref_back a b fits.0 fits.1) refl
constant_again total at (constant.Methodref a b) main runs fits e =
    whole_again total (10 + 2 ^ 32 * a + 2 ^ 48 * b) (constant.Methodref a b) main runs
    (methodref_back a b fits.0 fits.1) refl
constant_again total at (constant.InterfaceMethodref a b) main runs fits e =
    whole_again total (11 + 2 ^ 32 * a + 2 ^ 48 * b) (constant.InterfaceMethodref a b) main runs
    (interface_methodref_back a b fits.0 fits.1) refl
constant_again total at (constant.NameAndType a b) main runs fits e =
    whole_again total (12 + 2 ^ 32 * a + 2 ^ 48 * b) (constant.NameAndType a b) main runs
    (name_and_type_back a b fits.0 fits.1) refl
constant_again total at (constant.MethodHandle a b) main runs fits e =
    whole_again total (15 + 2 ^ 32 * a + 2 ^ 48 * b) (constant.MethodHandle a b) main runs
    (method_handle_back a b fits.0 fits.1) refl
constant_again total at (constant.MethodType descriptor) main runs fits e =
    whole_again total (16 + 2 ^ 32 * descriptor) (constant.MethodType descriptor) main runs
    (method_type_back descriptor fits) refl
constant_again total at (constant.InvokeDynamic a b) main runs fits e =
    whole_again total (18 + 2 ^ 32 * a + 2 ^ 48 * b) (constant.InvokeDynamic a b) main runs
    (invoke_dynamic_back a b fits.0 fits.1) refl

pub slots_again : (total at : ℕ) (second : Bool) (slots : List Slot) (main runs : List ℕ)
    → SlotsFit second slots → at + length (utf8_runs slots ++ runs) ≡ total
    → slots_at total second (length slots) (directory at slots ++ main) (utf8_runs slots ++ runs)
    ≡ Some (slots, main, runs)
unfolding slots_at
slots_again total at true [] main runs fits e = absurd fits
slots_again total at true (Unusable ∷ slots) main runs fits e =
    rw (slots_again total at false slots main runs fits e) refl
slots_again total at true (Usable c ∷ slots) main runs fits e = absurd fits
slots_again total at false [] main runs fits e = refl
slots_again total at false (Unusable ∷ slots) main runs fits e = absurd fits
slots_again total at false (Usable c ∷ slots) main runs fits e =
    let next = at + length (constant_run c) in
    let front : constant_words at c ++ directory next slots ++ main ≡ constant_words at c
    ++ (directory next slots ++ main) =
    append_assoc (constant_words at c) (directory next slots) main in
    let back : constant_run c ++ utf8_runs slots ++ runs ≡ constant_run c
    ++ (utf8_runs slots ++ runs) = append_assoc (constant_run c) (utf8_runs slots) runs in
    let size = ap length back ∙ length-append (constant_run c) (utf8_runs slots ++ runs) in
    let here : at ≡ total - length (constant_run c ++ (utf8_runs slots ++ runs)) =
    omega (arith, e, size, length-append (constant_run c) (utf8_runs slots ++ runs)) in
    let one = constant_again total at c (directory next slots ++ main) (utf8_runs slots ++ runs)
    fits.0 here in
    let others =
    slots_again total next (is_wide c) slots main runs fits.1 (omega (arith, e, size)) in
    rw (front, back, one, others) refl

pub interfaces_again : (these main : List ℕ) → AllByRecursion IsU2 these
    → interfaces_from (length these) (these ++ main) ≡ Some (these, main)
unfolding interfaces_from
interfaces_again [] main fits = refl
interfaces_again (n ∷ these) main fits =
    let test : nat_lt n (2 ^ 16) ≡ true = lt-ltb n (2 ^ 16) fits.0 in
    rw (test, interfaces_again these main fits.1) refl

-- ---- attributes and members

pub attribute_again : (total at : ℕ) (a : Attribute) (attrs runs : List ℕ) → AttributeFits a
    → at ≡ total - length (attribute_run a ++ runs)
    → attribute_at total ((a.name + 2 ^ 32 * length a.bytes) ∷ at ∷ attrs) (attribute_run a ++ runs)
    ≡ Some (a, attrs, runs)
unfolding attribute_at
attribute_again total at a attrs runs fits e =
    let word = a.name + 2 ^ 32 * length a.bytes in
    let name : first_of word ≡ a.name =
    first-attribute a.name (length a.bytes) fits.name fits.size in
    let count : upper_of word ≡ length a.bytes =
    upper-attribute a.name (length a.bytes) fits.name fits.size in
    let here : (at == total - length (attribute_run a ++ runs)) ≡ true =
    eq-eqb at (total - length (attribute_run a ++ runs)) e in
    rw (name, count, same_number word, here, run_again a.bytes runs fits.bytes) refl

pub attributes_again : (total at : ℕ) (these : List Attribute) (attrs runs : List ℕ)
    → AllByRecursion AttributeFits these → at + length (attribute_runs these ++ runs) ≡ total
    → attributes_from total (length these) (attributes at these ++ attrs)
    (attribute_runs these ++ runs) ≡ Some (these, attrs, runs)
unfolding attributes_from
attributes_again total at [] attrs runs fits e = refl
attributes_again total at (a ∷ these) attrs runs fits e =
    let next = at + length (attribute_run a) in
    let back : attribute_run a ++ attribute_runs these ++ runs ≡ attribute_run a
    ++ (attribute_runs these ++ runs) =
    append_assoc (attribute_run a) (attribute_runs these) runs in
    let size = ap length back ∙ length-append (attribute_run a) (attribute_runs these ++ runs) in
    let here : at ≡ total - length (attribute_run a ++ (attribute_runs these ++ runs)) =
    omega (arith, e, size, length-append (attribute_run a) (attribute_runs these ++ runs)) in
    let one = attribute_again total at a (attributes next these ++ attrs)
    (attribute_runs these ++ runs) fits.0 here in
    let others = attributes_again total next these attrs runs fits.1 (omega (arith, e, size)) in
    rw (back, one, others) refl

pub member_again : (total at run_at : ℕ) (m : Member) (main attrs runs : List ℕ) → MemberFits m
    → at ≡ total - length (attributes run_at m.attributes ++ attrs)
    → run_at + length (attribute_runs m.attributes ++ runs) ≡ total
    → member_at total (four_numbers m.flags m.name m.descriptor (length m.attributes) ∷ at ∷ main)
    (attributes run_at m.attributes ++ attrs) (attribute_runs m.attributes ++ runs)
    ≡ Some (m, main, attrs, runs)
unfolding member_at
member_again total at run_at m main attrs runs fits e er =
    let count = length m.attributes in
    let word = four_numbers m.flags m.name m.descriptor count in
    let flags : first_of word ≡ m.flags =
    first-four_numbers m.flags m.name m.descriptor count fits.flags fits.name fits.descriptor
    fits.attributes.0 in
    let name : second_of word ≡ m.name =
    second-four_numbers m.flags m.name m.descriptor count fits.flags fits.name fits.descriptor
    fits.attributes.0 in
    let descriptor : third_of word ≡ m.descriptor =
    third-four_numbers m.flags m.name m.descriptor count fits.flags fits.name fits.descriptor
    fits.attributes.0 in
    let many : fourth_of word ≡ count =
    fourth-four_numbers m.flags m.name m.descriptor count fits.flags fits.name fits.descriptor
    fits.attributes.0 in
    let here : (at == total - length (attributes run_at m.attributes ++ attrs)) ≡ true =
    eq-eqb at (total - length (attributes run_at m.attributes ++ attrs)) e in
    rw (
      flags,
      name,
      descriptor,
      many,
      same_number word,
      here,
      attributes_again total run_at m.attributes attrs runs fits.attributes.1 er,
    ) refl

pub members_again : (total at run_at : ℕ) (these : List Member) (main attrs runs : List ℕ)
    → AllByRecursion MemberFits these
    → at + length (attributes run_at (member_attributes these) ++ attrs) ≡ total
    → run_at + length (attribute_runs (member_attributes these) ++ runs) ≡ total
    → members_from total (length these) (members at these ++ main)
    (attributes run_at (member_attributes these) ++ attrs)
    (attribute_runs (member_attributes these) ++ runs) ≡ Some (these, main, attrs, runs)
unfolding members_from
members_again total at run_at [] main attrs runs fits e er = refl
members_again total at run_at (m ∷ these) main attrs runs fits e er =
    let own = m.attributes in
    let rest = member_attributes these in
    let next = run_at + length (attribute_runs own) in
    let split : attributes run_at (own ++ rest) ++ attrs ≡ attributes run_at own
    ++ (attributes next rest ++ attrs) =
    ap (λ w. w ++ attrs) (attributes_append run_at own rest)
    ∙ append_assoc (attributes run_at own) (attributes next rest) attrs in
    let split_runs : attribute_runs (own ++ rest) ++ runs ≡ attribute_runs own
    ++ (attribute_runs rest ++ runs) =
    ap (λ w. w ++ runs) (attribute_runs_append own rest)
    ∙ append_assoc (attribute_runs own) (attribute_runs rest) runs in
    let size =
    ap length split ∙ length-append (attributes run_at own) (attributes next rest ++ attrs) in
    let size_runs =
    ap length split_runs ∙ length-append (attribute_runs own) (attribute_runs rest ++ runs) in
    let here : at ≡ total - length (attributes run_at own ++ (attributes next rest ++ attrs)) =
    omega (arith, e, ap length split) in
    let one = member_again total at run_at m (members (at + 2 * length own) these ++ main)
    (attributes next rest ++ attrs) (attribute_runs rest ++ runs) fits.0 here
    (omega (arith, er, ap length split_runs)) in
    let others =
    members_again total (at + 2 * length own) next these main attrs runs fits.1
    (omega (arith, e, size, attributes_len run_at own)) (omega (arith, er, size_runs)) in
    rw (split, split_runs, one, others) refl
