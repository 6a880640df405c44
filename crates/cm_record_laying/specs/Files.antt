-- Which class file was laid, and its record.
use Rattle.std.specs.Prelude.{◌≡◌, ℕ, ◌+◌, ◌<◌, ◌^◌, false, List, [], ◌∷◌, ◌++◌, length}
use Rattle.std.specs.List.{flat_map}
use Rattle.cm_class.specs.declared.constant.Slot.{Slot}
use Rattle.cm_class.specs.declared.class_file.ClassFile.{ClassFile}
use Rattle.cm_class.specs.Shape.{Spells}
use Rattle.cm_class.specs.Spelling.{SlotsFit, heading, u2, slot_bytes}
use Rattle.cm_record_layout.specs.Layout.{directory, utf8_runs, members, attributes}
use Rattle.cm_record_layout.specs.Layout.{attribute_runs, all_members, all_attributes, IsRecordOf}
use Rattle.cm_record_laying.specs.declared.sections.Sections.{Sections}
use Rattle.cm_record_laying.specs.declared.sizes.Numbers.{Numbers}
use Rattle.cm_record_laying.specs.Heads.{AreNumbers}
use Rattle.cm_record_laying.specs.Laying.{Adds, next_run, next_attribute}

-- the pool was laid with which the bytes begin; its count is one more than its last index
pub record LaysPool (count : ℕ) (bytes : List ℕ) (before after : Sections)
    (rest : List ℕ) : Type 0 where
  pub slots : List Slot
  pub counted : length slots + 1 ≡ count
  pub few : count < 2 ^ 16
  pub fit : SlotsFit false slots
  pub spelled : bytes ≡ (heading ++ u2 count ++ flat_map slot_bytes slots) ++ rest
  pub adds : Adds before after (0 ∷ directory (next_run before) slots) [] (utf8_runs slots)

-- everything was laid but the head
pub record LaysFile (n : Numbers) (bytes : List ℕ) (before after : Sections) : Type 0 where
  pub class : ClassFile
  pub spells : Spells bytes class
  pub numbers : AreNumbers class n
  pub adds : Adds before after
      ((0 ∷ directory (next_run before) class.slots) ++ class.interfaces
      ++ members (next_attribute before) (all_members class))
      (attributes (next_run before + length (utf8_runs class.slots)) (all_attributes class))
      (utf8_runs class.slots ++ attribute_runs (all_attributes class))

-- the words are the record of the class that the bytes spell
abbrev pub IsRecordOfFile : List ℕ → List ℕ → Type 0
IsRecordOfFile bytes words = (c : ClassFile) × Spells bytes c × IsRecordOf c words
