-- What is added to the sections of a record, and of which parts of a class file it is the layout.
use Rattle.std.specs.Prelude.{◌≡◌, ◌≤◌, ℕ, ◌+◌, Bool, false, List, [], ◌++◌, length}
use Rattle.std.specs.List.{flat_map, AllByRecursion}
use Rattle.cm_class.specs.declared.constant.Slot.{Slot}
use Rattle.cm_class.specs.declared.class_file.Attribute.{Attribute}
use Rattle.cm_class.specs.declared.class_file.Member.{Member}
use Rattle.cm_class.specs.declared.kind.Kind.{Kind}
use Rattle.cm_class.specs.Reading.{tag_number, takes_two}
use Rattle.cm_class.specs.Spelling.{ClassConstant, ConstantFits, SlotsFit, MemberFits}
use Rattle.cm_class.specs.Spelling.{AttributeFits, IsU2, u2, tag, info, is_wide, slot_bytes}
use Rattle.cm_class.specs.Spelling.{attribute_bytes, member_bytes}
use Rattle.cm_record_layout.specs.Layout.{constant_words, constant_run, directory, utf8_runs}
use Rattle.cm_record_layout.specs.Layout.{members, member_attributes, attributes, attribute_runs}
use Rattle.cm_record_laying.specs.declared.sections.Sections.{Sections}

-- where the run that is added next begins, and the words of the attribute that is added next
abbrev pub next_run : Sections → ℕ
next_run s = s.runs_at + length s.runs.words

abbrev pub next_attribute : Sections → ℕ
next_attribute s = s.attributes_at + length s.attributes.words

-- these words were added to the sections
pub record Adds (before after : Sections) (more_words more_attributes more_runs : List ℕ) :
    Type 0 where
  pub words : after.words.words ≡ before.words.words ++ more_words
  pub attributes : after.attributes.words ≡ before.attributes.words ++ more_attributes
  pub runs : after.runs.words ≡ before.runs.words ++ more_runs
  pub attributes_at : after.attributes_at ≡ before.attributes_at
  pub runs_at : after.runs_at ≡ before.runs_at

-- the constant was laid that the bytes begin with, after its tag
pub record LaysConstant (kind : Kind) (bytes : List ℕ) (before after : Sections)
    (rest : List ℕ) : Type 0 where
  pub constant : ClassConstant
  pub fits : ConstantFits constant
  pub kind_is : tag constant ≡ tag_number kind
  pub wide_is : is_wide constant ≡ takes_two kind
  pub spelled : bytes ≡ info constant ++ rest
  pub adds : Adds before after (constant_words (next_run before) constant) []
      (constant_run constant)

-- this many items of one sort were laid, with which the bytes begin
pub record Lays {A : Type 0} (Fit : List A → Type 0) (spelling : A → List ℕ)
    (words attributes : Sections → List A → List ℕ) (runs : List A → List ℕ)
    (count : ℕ) (bytes : List ℕ) (before after : Sections) (rest : List ℕ) : Type 0 where
  pub items : List A
  pub counted : length items ≡ count
  pub fit : Fit items
  pub spelled : bytes ≡ flat_map spelling items ++ rest
  pub adds : Adds before after (words before items) (attributes before items) (runs items)

abbrev pub LaysSlots : ℕ → List ℕ → Sections → Sections → List ℕ → Type 0
LaysSlots = Lays (SlotsFit false) slot_bytes (λ s slots. directory (next_run s) slots)
    (λ s slots. []) utf8_runs

abbrev pub LaysNumbers : ℕ → List ℕ → Sections → Sections → List ℕ → Type 0
LaysNumbers = Lays (AllByRecursion IsU2) u2 (λ s numbers. numbers) (λ s numbers. []) (λ numbers. [])

abbrev pub LaysAttributes : ℕ → List ℕ → Sections → Sections → List ℕ → Type 0
LaysAttributes = Lays (AllByRecursion AttributeFits) attribute_bytes (λ s these. [])
    (λ s these. attributes (next_run s) these) attribute_runs

abbrev pub LaysMembers : ℕ → List ℕ → Sections → Sections → List ℕ → Type 0
LaysMembers = Lays (AllByRecursion MemberFits) member_bytes
    (λ s these. members (next_attribute s) these)
    (λ s these. attributes (next_run s) (member_attributes these))
    (λ these. attribute_runs (member_attributes these))
