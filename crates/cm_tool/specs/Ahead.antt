-- Lines that are read ahead, each with the class that it defines.
use Rattle.std.specs.Prelude.{◌≡◌, ◌⊎◌, ℕ, List, Option, Some, Result, Ok, Err, IfSome}
use Rattle.hex.specs.Hex.{decode_of}
use Rattle.hex.specs.declared.error.FromHexError.{FromHexError}
use Rattle.cm_class.specs.declared.class_file.ClassFile.{ClassFile}
use Rattle.cm_record.specs.Layout.{lay}
use Rattle.cm_record.specs.Names.{class_name_in}
use Rattle.cm_rules.specs.Answer.{SpellsRightClass}
use Rattle.cm_commands.specs.declared.refusal.Refusal.TheVariants as refusal
use Rattle.cm_commands.specs.Prepare.{IsRefusedBytes}
use Rattle.cm_lines.specs.declared.line_buffer.LineBuffer.{LineBuffer}
use Rattle.cm_lines.specs.Lines.{AsksDefine, asked_by}
use Rattle.cm_lines.specs.Streams.{HoldsLine}
use Rattle.cm_tool.specs.declared.ahead.Defined.{Defined}
use Rattle.cm_tool.specs.declared.ahead.LineClass.{LineClass}
use Rattle.cm_tool.specs.declared.ahead.LineClass.TheVariants.{Ready, Refused, NoMemory}

-- these are the words of the record of the class that the bytes are, which keeps the rules
pub record AreWordsOf (bytes words : List ℕ) : Type 0 where
  pub class : ClassFile
  pub right : SpellsRightClass bytes class
  pub laid : words ≡ lay class

-- the same for the bytes that digits stand for, if they are digits
abbrev pub IsClassOf : Result (List ℕ) FromHexError → LineClass → Type 0
IsClassOf decoded NoMemory = Unit {0}
IsClassOf decoded (Ready words name) =
    (bytes : List ℕ) × (decoded ≡ Ok bytes) × AreWordsOf bytes words
    × (name.items ≡ class_name_in words)
IsClassOf decoded (Refused r) =
    ((bytes : List ℕ) × (decoded ≡ Ok bytes) × IsRefusedBytes bytes r)
    ⊎ ((e : FromHexError) × (decoded ≡ Err e) × (r ≡ refusal.BadLine))

-- the line of this text defines that
pub record Defines (text : List ℕ) (d : Defined) : Type 0 where
  pub digits : List ℕ
  pub asked : asked_by text ≡ Some (AsksDefine d.loader.items digits)
  pub class : IsClassOf (decode_of digits) d.class

-- the line defines what is known of it
abbrev pub IsDefinedThere : LineBuffer → Option Defined → Type 0
IsDefinedThere line known =
    (text : List ℕ) → HoldsLine text line → IfSome known (Defines text)
