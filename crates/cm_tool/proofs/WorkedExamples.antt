-- The definitions computed on replies.
use Rattle.std.proofs.Common.{◌≡◌, [], ◌∷◌, refl}
use Rattle.std.specs.Prelude.{codes}
use Rattle.std.specs.Fmt.{digits}
use Rattle.hex.specs.Hex.{encode_with}
use Rattle.cm_class.specs.declared.constant.Constant.TheVariants as constant
use Rattle.cm_class.specs.declared.constant.Slot.TheVariants.{Usable}
use Rattle.cm_class.specs.declared.class_file.ClassFile.{ClassFile}
use Rattle.cm_rules.specs.declared.rule.Rule.TheVariants as rules
use Rattle.cm_rules.specs.declared.rule.Spot.TheVariants as spot
use Rattle.cm_rules.specs.declared.fault.BadClass.TheVariants as bad
use Rattle.cm_commands.specs.declared.refusal.Refusal.TheVariants as refusal
use Rattle.cm_tool.specs.declared.reply.ReplyKind.TheVariants as kind
use Rattle.cm_tool.specs.Texts.{number_reply, defined_reply, none_reply, class_reply}
use Rattle.cm_tool.specs.Texts.{bad_line_reply, refusal_reply}

abbrev class_a : ClassFile
class_a = record {
  slots = Usable (constant.Class 2) ∷ Usable (constant.Utf8 (codes "A")) ∷ Usable (constant.Class 4)
      ∷ Usable (constant.Utf8 (codes "java/lang/Object")) ∷ [];
  flags = 0x21;
  this_class = 1;
  super_class = 3;
  interfaces = [];
  fields = [];
  methods = [];
  attributes = [];
}

-- ---- replies

number_1 : (number_reply 1).text ≡ codes "ok 1"
unfolding digits
number_1 = refl

number_10 : (number_reply 10).text ≡ codes "ok 10"
unfolding digits
number_10 = refl

a_defined : (defined_reply 2 (codes "A")).text ≡ codes "ok 2 A"
unfolding digits
a_defined = refl

a_found : (class_reply (codes "A") class_a 16).text
    ≡ codes "class A flags 0021 super java/lang/Object words 16"
unfolding digits encode_with
a_found = refl

object_found : (class_reply (codes "java/lang/Object")
    (record class_a { super_class = 0; flags = 0xB7AF }) 8209).text
    ≡ codes "class java/lang/Object flags b7af super - words 8209"
unfolding digits encode_with
object_found = refl

escaped_name : (defined_reply 2 (0xC3 ∷ 0xA9 ∷ [])).text ≡ codes "ok 2 %C3%A9"
unfolding digits
escaped_name = refl

none_found : none_reply.text ≡ codes "none"
none_found = refl

bad_line : bad_line_reply.text ≡ codes "refused 15 line"
unfolding digits
bad_line = refl

-- ---- refusals

bad_name : (refusal_reply refusal.BadName).text ≡ codes "refused 1 name"
unfolding digits
bad_name = refl

loader_exists : (refusal_reply refusal.LoaderExists).text ≡ codes "refused 2 loader exists"
unfolding digits
loader_exists = refl

no_loader : (refusal_reply refusal.NoLoader).text ≡ codes "refused 3 no loader"
unfolding digits
no_loader = refl

class_exists : (refusal_reply refusal.ClassExists).text ≡ codes "refused 4 class exists"
unfolding digits
class_exists = refl

record_too_long : (refusal_reply refusal.RecordTooLong).text ≡ codes "refused 5 record too long"
unfolding digits
record_too_long = refl

region_full : (refusal_reply refusal.RegionFull).text ≡ codes "refused 6 region full"
unfolding digits
region_full = refl

journal_full : (refusal_reply refusal.JournalFull).text ≡ codes "refused 7 journal full"
unfolding digits
journal_full = refl

no_move : (refusal_reply refusal.NoMove).text ≡ codes "refused 8 no move"
unfolding digits
no_move = refl

no_memory : (refusal_reply refusal.NoMemory).text ≡ codes "refused 9 memory"
unfolding digits
no_memory = refl

broken : (refusal_reply refusal.Broken).text ≡ codes "refused 10 broken"
unfolding digits
broken = refl

closed : (refusal_reply refusal.Closed).text ≡ codes "refused 11 closed"
unfolding digits
closed = refl

numbers_spent : (refusal_reply refusal.NumbersSpent).text ≡ codes "refused 12 numbers spent"
unfolding digits
numbers_spent = refl

bad_list : (refusal_reply refusal.BadList).text ≡ codes "refused 16 list"
unfolding digits
bad_list = refl

truncated : (refusal_reply (refusal.BadClass bad.Truncated)).text ≡ codes "refused 14 truncated"
unfolding digits
truncated = refl

trailing_53 : (refusal_reply (refusal.BadClass (bad.Trailing 53))).text
    ≡ codes "refused 14 trailing 53"
unfolding digits
trailing_53 = refl

malformed_5 : (refusal_reply (refusal.BadClass (bad.Malformed 5))).text
    ≡ codes "refused 14 malformed 5"
unfolding digits
malformed_5 = refl

unsure_2 : (refusal_reply (refusal.Unsure 2)).text ≡ codes "unsure 2"
unfolding digits
unsure_2 = refl

unsure_is_no_refusal : (refusal_reply (refusal.Unsure 2)).kind ≡ kind.Unsure
unsure_is_no_refusal = refl

closed_is_a_refusal : (refusal_reply refusal.Closed).kind ≡ kind.Refused
closed_is_a_refusal = refl

this_is_no_class : (refusal_reply
    (refusal.BadClass (bad.Rule (record { rule = rules.EntryKinds; spot = spot.This })))).text
    ≡ codes "refused 14 V2 this"
unfolding digits
this_is_no_class = refl

fifth_text : (refusal_reply
    (refusal.BadClass (bad.Rule (record { rule = rules.Utf8Form; spot = spot.Pool 5 })))).text
    ≡ codes "refused 14 V1 pool 5"
unfolding digits
fifth_text = refl

first_method : (refusal_reply
    (refusal.BadClass (bad.Rule (record { rule = rules.MethodUnits; spot = spot.Method 0 })))).text
    ≡ codes "refused 14 V17 method 0"
unfolding digits
first_method = refl

second_field : (refusal_reply
    (refusal.BadClass (bad.Rule (record { rule = rules.FieldTwice; spot = spot.Field 1 })))).text
    ≡ codes "refused 14 V15 field 1"
unfolding digits
second_field = refl
