-- The texts of replies, without their newlines, and what each says of its command.
use Rattle.std.specs.Prelude.{ℕ, ◌/◌, ◌%◌, List, [], ◌∷◌, ◌++◌}
use Rattle.std.specs.Prelude.{codes, Option, Some, None}
use Rattle.std.specs.Fmt.{decimal}
use Rattle.hex.specs.Hex.{encode_lower}
use Rattle.cm_class.specs.declared.class_file.ClassFile.{ClassFile}
use Rattle.cm_record.specs.Names.{super_name_of}
use Rattle.cm_commands.specs.declared.refusal.Refusal.{Refusal}
use Rattle.cm_commands.specs.declared.refusal.Refusal.TheVariants as refusal
use Rattle.cm_commands.specs.Refusals.{refusal_number}
use Rattle.cm_commands.specs.Texts.{refusal_text}
use Rattle.cm_lines.specs.Escapes.{escaped}
use Rattle.cm_tool.specs.declared.reply.ReplyKind.{ReplyKind}
use Rattle.cm_tool.specs.declared.reply.ReplyKind.TheVariants as kind

-- what a reply says of its command, and its text
pub record ReplyText : Type 0 where
  pub kind : ReplyKind
  pub text : List ℕ

-- ---- of commands that are done

abbrev pub number_reply : ℕ → ReplyText
number_reply n = record { kind = kind.Done; text = codes "ok " ++ decimal n }

abbrev pub defined_reply : ℕ → List ℕ → ReplyText
defined_reply n name =
    record { kind = kind.Done; text = codes "ok " ++ decimal n ++ codes " " ++ escaped name }

abbrev pub none_reply : ReplyText
none_reply = record { kind = kind.Done; text = codes "none" }

-- flags, in four hexadecimal digits
abbrev pub flags_text : ℕ → List ℕ
flags_text flags = encode_lower (flags / 256 ∷ flags % 256 ∷ [])

abbrev pub super_text : Option (List ℕ) → List ℕ
super_text None = codes "-"
super_text (Some name) = escaped name

-- a class that is found under a name, with a record of this many words
abbrev pub class_reply : List ℕ → ClassFile → ℕ → ReplyText
class_reply name c words =
    record {
      kind =
          kind.Done;
      text =
          codes "class " ++ escaped name ++ codes " flags " ++ flags_text c.flags ++ codes " super "
          ++ super_text (super_name_of c) ++ codes " words " ++ decimal words;
    }

-- ---- of commands that aren't done

abbrev pub refused_reply : ℕ → List ℕ → ReplyText
refused_reply k why =
    record { kind = kind.Refused; text = codes "refused " ++ decimal k ++ codes " " ++ why }

-- a command that the device failed to store is unsure, and not refused
abbrev pub refusal_reply : Refusal → ReplyText
refusal_reply (refusal.Unsure n) =
    record { kind = kind.Unsure; text = refusal_text (refusal.Unsure n) }
refusal_reply r = refused_reply (refusal_number r) (refusal_text r)

abbrev pub unsure_reply : ℕ → ReplyText
unsure_reply n = refusal_reply (refusal.Unsure n)

abbrev pub bad_line_reply : ReplyText
bad_line_reply = refusal_reply refusal.BadLine
