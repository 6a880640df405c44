-- Fields and methods, found by name and descriptor.
use Rattle.std.specs.Prelude.{◌≡◌, ℕ, ◌+◌, ◌*◌, ◌<◌, ◌^◌, Bool, true, false, ◌&&◌, List, length}
use Rattle.std.specs.Prelude.{slice_get, get_or, Option, Some, None}
use Rattle.cm_class.specs.declared.class_file.Member.{Member as ClassMember}
use Rattle.cm_class.specs.declared.class_file.ClassFile.{ClassFile}
use Rattle.cm_class.specs.Names.{names_utf8}
use Rattle.cm_record_layout.specs.Layout.{IsRecordOf}
use Rattle.cm_record_layout.specs.Packing.{first_of, second_of, third_of, fourth_of}
use Rattle.cm_record.specs.declared.member.Member.{Member}

-- the indexes lead to Utf8s of these bytes
abbrev pub leads_to : ClassFile → List ℕ → List ℕ → ℕ → ℕ → Bool
leads_to c name descriptor name_index descriptor_index =
    names_utf8 c name_index name && names_utf8 c descriptor_index descriptor

-- for each index, whether it leads to a Utf8 of these bytes
abbrev pub AreMarksOf : List ℕ → List ℕ → List Bool → Type 0
AreMarksOf words bytes leads = (c : ClassFile) → IsRecordOf c words → (index : ℕ) → index < 2 ^ 16
    → get_or leads index false ≡ names_utf8 c index bytes

-- the member has this name and this descriptor
abbrev pub has_both : ClassFile → List ℕ → List ℕ → ClassMember → Bool
has_both c name descriptor m = leads_to c name descriptor m.name m.descriptor

-- the numbers in a member's word
pub record HasNumbers (word : ℕ) (m : ClassMember) : Type 0 where
  pub flags : first_of word ≡ m.flags
  pub name : second_of word ≡ m.name
  pub descriptor : third_of word ≡ m.descriptor
  pub count : fourth_of word ≡ length m.attributes

-- the words from a place on are those of these members, two each
pub record AreMembersAt (words : List ℕ) (at count : ℕ) (all : List ClassMember) : Type 0 where
  pub size : count ≡ length all
  pub numbers : (j : ℕ) (m : ClassMember) → slice_get all j ≡ Some m
      → HasNumbers (get_or words (at + 2 * j) 0) m

-- the test holds at the index, and at none before it
pub record IsFirstIndex (test : ℕ → Bool) (count index : ℕ) : Type 0 where
  pub there : index < count
  pub passes : test index ≡ true
  pub first : (k : ℕ) → k < index → test k ≡ false

-- the first of these members that has the name and the descriptor
pub record IsLeastMember (c : ClassFile) (all : List ClassMember) (is_method : Bool)
    (name descriptor : List ℕ) (m : Member) : Type 0 where
  pub kind : m.is_method ≡ is_method
  pub own : ClassMember
  pub there : slice_get all m.index ≡ Some own
  pub has : has_both c name descriptor own ≡ true
  pub first : (k : ℕ) (other : ClassMember) → k < m.index → slice_get all k ≡ Some other
      → has_both c name descriptor other ≡ false
  pub flags : m.flags ≡ own.flags
  pub attributes : m.attributes ≡ length own.attributes

-- what is found among these members: none only if no member has the name and the descriptor
abbrev pub FindsMember : ClassFile → List ClassMember → Bool → List ℕ → List ℕ → Option Member
    → Type 0
FindsMember c all is_method name descriptor None = (k : ℕ) (other : ClassMember)
    → slice_get all k ≡ Some other → has_both c name descriptor other ≡ false
FindsMember c all is_method name descriptor (Some m) =
    IsLeastMember c all is_method name descriptor m
