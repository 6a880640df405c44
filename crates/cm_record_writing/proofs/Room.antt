-- There is room for what is still to be added.
-- For `push_attribute_runs`, `push_attributes`, `push_attributes_and_runs` and others.
use Rattle.std.proofs.Common.{◌≡◌, ◌≤◌, ◌+◌, ◌*◌, ℕ, List, ◌∷◌, ◌++◌, length, arith, ap}
use Rattle.std.proofs.Common.{length-append}
use Rattle.cm_class.specs.declared.class_file.Attribute.{Attribute}
use Rattle.cm_class.specs.declared.class_file.Member.{Member}
use Rattle.cm_class.specs.declared.class_file.ClassFile.{ClassFile}
use Rattle.cm_record_layout.specs.Layout.{directory, members, member_attributes, attributes}
use Rattle.cm_record_layout.specs.Layout.{attribute_runs, utf8_runs, all_members, all_attributes}
use Rattle.cm_record_layout.specs.Layout.{attributes_at, runs_at}
use Rattle.cm_record_layout.proofs.{attributes_len, members_len, all_members_len}
use Rattle.cm_record_layout.proofs.{all_attributes_len, all_runs_len}

-- what was added so far and what is still to be added fit, if everything fitted at first
pub room_left : (words rest start all : List ℕ) (capacity room : ℕ)
    → words ++ rest ≡ start ++ all → capacity ≡ room → length start + length all ≤ room
    → length words + length rest ≤ capacity
room_left words rest start all capacity room e same fits =
    omega (arith, ap length e, length-append words rest, length-append start all)

-- how long the words are after an addition
pub grown : (words words' more more' : List ℕ) → words' ≡ words ++ more
    → length more ≡ length more' → length words' ≡ length words + length more'
grown words words' more more' e same = omega (arith, ap length e, length-append words more, same)

pub grown_attributes : (words words' : List ℕ) (at : ℕ) (xs ys : List Attribute)
    → words' ≡ words ++ attributes at xs → xs ≡ ys → length words' ≡ length words + 2 * length ys
grown_attributes words words' at xs ys e same =
    omega (
      arith,
      ap length e,
      length-append words (attributes at xs),
      attributes_len at xs,
      ap length same,
    )

pub grown_members : (words words' : List ℕ) (at : ℕ) (xs ys : List Member)
    → words' ≡ words ++ members at xs → xs ≡ ys → length words' ≡ length words + 2 * length ys
grown_members words words' at xs ys e same =
    omega (
      arith,
      ap length e,
      length-append words (members at xs),
      members_len at xs,
      ap length same,
    )

-- how long the parts of a record are
pub attributes_and_runs_len : (c : ClassFile) (at : ℕ)
    → length (attributes at (all_attributes c) ++ utf8_runs c.slots
    ++ attribute_runs (all_attributes c))
    ≡ 2 * length (member_attributes c.fields) + 2 * length (member_attributes c.methods)
    + 2 * length c.attributes + length (utf8_runs c.slots)
    + length (attribute_runs (member_attributes c.fields))
    + length (attribute_runs (member_attributes c.methods)) + length (attribute_runs c.attributes)
attributes_and_runs_len c at =
    let a = attributes at (all_attributes c) in
    omega (
      arith,
      length-append (a ++ utf8_runs c.slots) (attribute_runs (all_attributes c)),
      length-append a (utf8_runs c.slots),
      attributes_len at (all_attributes c),
      all_attributes_len c,
      all_runs_len c,
    )

pub pool_and_members_len : (c : ClassFile) (runs at : ℕ)
    → length ((0 ∷ directory runs c.slots) ++ c.interfaces ++ members at (all_members c))
    ≡ 1 + length (directory runs c.slots) + length c.interfaces + 2 * length c.fields
    + 2 * length c.methods
pool_and_members_len c runs at =
    let d = 0 ∷ directory runs c.slots in
    omega (
      arith,
      length-append (d ++ c.interfaces) (members at (all_members c)),
      length-append d c.interfaces,
      members_len at (all_members c),
      all_members_len c,
    )

pub pool_behind_len : (c : ClassFile) (front : List ℕ)
    → length (front ++ (0 ∷ directory (runs_at c) c.slots) ++ c.interfaces
    ++ members (attributes_at c) (all_members c))
    ≡ length front + 1 + length (directory (runs_at c) c.slots) + length c.interfaces
    + 2 * length c.fields + 2 * length c.methods
pool_behind_len c front =
    let d = 0 ∷ directory (runs_at c) c.slots in
    let m = members (attributes_at c) (all_members c) in
    omega (
      arith,
      length-append (front ++ d ++ c.interfaces) m,
      length-append (front ++ d) c.interfaces,
      length-append front d,
      members_len (attributes_at c) (all_members c),
      all_members_len c,
    )
