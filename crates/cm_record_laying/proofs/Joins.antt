-- Items of each sort, and others after them.
-- For `lay_slots`, `lay_members` and others.
use Rattle.std.proofs.Common.{◌≡◌, ◌+◌, ◌*◌, ℕ, Bool, true, false, List, [], ◌∷◌, ◌++◌, length}
use Rattle.std.proofs.Common.{refl, sym, ap, subst, ◌∙◌, ◌^◌, append_assoc, length-append, arith}
use Rattle.std.proofs.lemmas.List.{append-nil}
use Rattle.std.specs.List.{flat_map, AllByRecursion}
use Rattle.std.proofs.lemmas.Grind.{flat_map-append}
use Rattle.cm_class.specs.declared.constant.Slot.{Slot}
use Rattle.cm_class.specs.declared.constant.Slot.TheVariants.{Usable, Unusable}
use Rattle.cm_class.specs.declared.class_file.Attribute.{Attribute}
use Rattle.cm_class.specs.declared.class_file.Member.{Member}
use Rattle.cm_class.specs.Spelling.{ClassConstant, SlotsFit, IsU2, is_wide, slot_bytes, u2}
use Rattle.cm_class.specs.Spelling.{AttributeFits, MemberFits, attribute_bytes, member_bytes}
use Rattle.cm_record_layout.specs.Packing.{packed, four_numbers}
use Rattle.cm_record_layout.specs.Layout.{constant_words, constant_run, slot_run, directory}
use Rattle.cm_record_layout.specs.Layout.{utf8_runs, members, member_attributes, attributes}
use Rattle.cm_record_layout.specs.Layout.{attribute_runs}
use Rattle.cm_record_layout.proofs.{attributes_append, attribute_runs_append, members_append}
use Rattle.cm_record_layout.proofs.{attributes_len}
use Rattle.cm_record_laying.specs.declared.sections.Sections.{Sections}
use Rattle.cm_record_laying.specs.Laying.{Adds, LaysSlots, LaysNumbers, LaysAttributes}
use Rattle.cm_record_laying.specs.Laying.{LaysMembers, next_run, next_attribute}
use Rattle.cm_record_laying.proofs.Steps.{adds_as, adds_then, lays_nothing, lays_then, all_join}
use Rattle.cm_record_laying.proofs.Steps.{run_moved, attribute_moved}

-- ---- slots

slots_join : (second : Bool) (xs ys : List Slot) → SlotsFit second xs → SlotsFit false ys
    → SlotsFit second (xs ++ ys)
slots_join true [] ys p q = absurd p
slots_join true (Unusable ∷ xs) ys p q = slots_join false xs ys p q
slots_join true (Usable k ∷ xs) ys p q = absurd p
slots_join false [] ys p q = q
slots_join false (Unusable ∷ xs) ys p q = absurd p
slots_join false (Usable k ∷ xs) ys p q = (p.0, slots_join (is_wide k) xs ys p.1 q)

directory_append : (at : ℕ) (xs ys : List Slot)
    → directory at (xs ++ ys) ≡ directory at xs ++ directory (at + length (utf8_runs xs)) ys
directory_append at [] ys = ap (λ n. directory n ys) (omega arith)
directory_append at (Unusable ∷ xs) ys = directory_append at xs ys
directory_append at (Usable k ∷ xs) ys =
    let next = at + length (constant_run k) in
    let same : next + length (utf8_runs xs) ≡ at + length (constant_run k ++ utf8_runs xs) =
    omega (arith, length-append (constant_run k) (utf8_runs xs)) in
    ap (λ w. constant_words at k ++ w) (directory_append next xs ys ∙ ap
    (λ n. directory next xs ++ directory n ys) same)
    ∙ sym (append_assoc (constant_words at k) (directory next xs)
    (directory (at + length (constant_run k ++ utf8_runs xs)) ys))

pub slots_then : (m n k : ℕ) (x y z : List ℕ) (a b c : Sections) → m + n ≡ k
    → LaysSlots m x a b y → LaysSlots n y b c z → LaysSlots k x a c z
slots_then = lays_then (SlotsFit false) slot_bytes (λ s slots. directory (next_run s) slots)
    (λ s slots. []) utf8_runs (slots_join false)
    (λ a b xs ys adds. directory_append (next_run a) xs ys
    ∙ ap (λ n. directory (next_run a) xs ++ directory n ys)
    (sym (run_moved a b (directory (next_run a) xs) [] (utf8_runs xs) adds)))
    (λ a b xs ys adds. refl) (flat_map-append slot_run)

pub no_slots : (bytes : List ℕ) (a : Sections) → LaysSlots 0 bytes a a bytes
no_slots bytes a = lays_nothing (SlotsFit false) slot_bytes
    (λ s slots. directory (next_run s) slots) (λ s slots. []) utf8_runs bytes a tt refl refl refl

-- ---- numbers

pub numbers_then : (m n k : ℕ) (x y z : List ℕ) (a b c : Sections) → m + n ≡ k
    → LaysNumbers m x a b y → LaysNumbers n y b c z → LaysNumbers k x a c z
numbers_then = lays_then (AllByRecursion IsU2) u2 (λ s numbers. numbers) (λ s numbers. [])
    (λ numbers. []) (all_join IsU2) (λ a b xs ys adds. refl) (λ a b xs ys adds. refl)
    (λ xs ys. refl)

pub no_numbers : (bytes : List ℕ) (a : Sections) → LaysNumbers 0 bytes a a bytes
no_numbers bytes a = lays_nothing (AllByRecursion IsU2) u2 (λ s numbers. numbers) (λ s numbers. [])
    (λ numbers. []) bytes a tt refl refl refl

-- ---- attributes

pub attributes_then : (m n k : ℕ) (x y z : List ℕ) (a b c : Sections) → m + n ≡ k
    → LaysAttributes m x a b y → LaysAttributes n y b c z → LaysAttributes k x a c z
attributes_then = lays_then (AllByRecursion AttributeFits) attribute_bytes (λ s these. [])
    (λ s these. attributes (next_run s) these) attribute_runs (all_join AttributeFits)
    (λ a b xs ys adds. refl)
    (λ a b xs ys adds. attributes_append (next_run a) xs ys
    ∙ ap (λ n. attributes (next_run a) xs ++ attributes n ys)
    (sym (run_moved a b [] (attributes (next_run a) xs) (attribute_runs xs) adds)))
    attribute_runs_append

pub no_attributes : (bytes : List ℕ) (a : Sections) → LaysAttributes 0 bytes a a bytes
no_attributes bytes a = lays_nothing (AllByRecursion AttributeFits) attribute_bytes (λ s these. [])
    (λ s these. attributes (next_run s) these) attribute_runs bytes a tt refl refl refl

-- ---- members

member_attributes_append : (xs ys : List Member)
    → member_attributes (xs ++ ys) ≡ member_attributes xs ++ member_attributes ys
member_attributes_append = flat_map-append (λ m. m.attributes)

-- what members add, and others after them
members_words : (a b : Sections) (xs ys : List Member)
    → Adds a b (members (next_attribute a) xs) (attributes (next_run a) (member_attributes xs))
    (attribute_runs (member_attributes xs))
    → members (next_attribute a) (xs ++ ys)
    ≡ members (next_attribute a) xs ++ members (next_attribute b) ys
members_words a b xs ys adds =
    let those = attributes (next_run a) (member_attributes xs) in
    let next : next_attribute a + 2 * length (member_attributes xs) ≡ next_attribute b =
    omega (
      arith,
      attribute_moved a b (members (next_attribute a) xs) those
          (attribute_runs (member_attributes xs)) adds,
      attributes_len (next_run a) (member_attributes xs),
    ) in
    members_append (next_attribute a) xs ys
    ∙ ap (λ n. members (next_attribute a) xs ++ members n ys) next

members_attributes : (a b : Sections) (xs ys : List Member)
    → Adds a b (members (next_attribute a) xs) (attributes (next_run a) (member_attributes xs))
    (attribute_runs (member_attributes xs))
    → attributes (next_run a) (member_attributes (xs ++ ys))
    ≡ attributes (next_run a) (member_attributes xs)
    ++ attributes (next_run b) (member_attributes ys)
members_attributes a b xs ys adds =
    let those = attributes (next_run a) (member_attributes xs) in
    ap (attributes (next_run a)) (member_attributes_append xs ys)
    ∙ (attributes_append (next_run a) (member_attributes xs) (member_attributes ys)
    ∙ ap (λ n. those ++ attributes n (member_attributes ys))
    (sym (run_moved a b (members (next_attribute a) xs) those
    (attribute_runs (member_attributes xs)) adds)))

members_runs : (xs ys : List Member)
    → attribute_runs (member_attributes (xs ++ ys))
    ≡ attribute_runs (member_attributes xs) ++ attribute_runs (member_attributes ys)
members_runs xs ys = ap attribute_runs (member_attributes_append xs ys)
    ∙ attribute_runs_append (member_attributes xs) (member_attributes ys)

pub members_then : (m n k : ℕ) (x y z : List ℕ) (a b c : Sections) → m + n ≡ k
    → LaysMembers m x a b y → LaysMembers n y b c z → LaysMembers k x a c z
members_then = lays_then (AllByRecursion MemberFits) member_bytes
    (λ s these. members (next_attribute s) these)
    (λ s these. attributes (next_run s) (member_attributes these))
    (λ these. attribute_runs (member_attributes these)) (all_join MemberFits) members_words
    members_attributes members_runs

-- the members that one call adds, and those that another adds
pub members_both : (a b c : Sections) (xs ys : List Member)
    → Adds a b (members (next_attribute a) xs) (attributes (next_run a) (member_attributes xs))
    (attribute_runs (member_attributes xs))
    → Adds b c (members (next_attribute b) ys) (attributes (next_run b) (member_attributes ys))
    (attribute_runs (member_attributes ys))
    → Adds a c (members (next_attribute a) (xs ++ ys))
    (attributes (next_run a) (member_attributes xs ++ member_attributes ys))
    (attribute_runs (member_attributes xs ++ member_attributes ys))
members_both a b c xs ys one two =
    let first = attributes (next_run a) (member_attributes xs) in
    let second = attributes (next_run b) (member_attributes ys) in
    adds_as a c (members (next_attribute a) xs ++ members (next_attribute b) ys) (first ++ second)
    (attribute_runs (member_attributes xs) ++ attribute_runs (member_attributes ys))
    (adds_then a b (members (next_attribute a) xs) first (attribute_runs (member_attributes xs))
    one c (members (next_attribute b) ys) second (attribute_runs (member_attributes ys)) two)
    (members (next_attribute a) (xs ++ ys))
    (attributes (next_run a) (member_attributes xs ++ member_attributes ys))
    (attribute_runs (member_attributes xs ++ member_attributes ys))
    (sym (members_words a b xs ys one))
    (sym (members_attributes a b xs ys one)
    ∙ ap (attributes (next_run a)) (member_attributes_append xs ys))
    (sym (attribute_runs_append (member_attributes xs) (member_attributes ys)))

pub no_members : (bytes : List ℕ) (a : Sections) → LaysMembers 0 bytes a a bytes
no_members bytes a = lays_nothing (AllByRecursion MemberFits) member_bytes
    (λ s these. members (next_attribute s) these)
    (λ s these. attributes (next_run s) (member_attributes these))
    (λ these. attribute_runs (member_attributes these)) bytes a tt refl refl refl

-- ---- one item

pub number_laid : (n : ℕ) (bytes rest : List ℕ) (a b : Sections) → IsU2 n → bytes ≡ u2 n ++ rest
    → Adds a b (n ∷ []) [] [] → LaysNumbers 1 bytes a b rest
number_laid n bytes rest a b fits spelled adds =
    record { items = n ∷ []; counted = refl; fit = (fits, tt); spelled = spelled; adds = adds }

pub attribute_laid : (at : Attribute) (bytes rest : List ℕ) (a b : Sections) → AttributeFits at
    → bytes ≡ attribute_bytes at ++ rest
    → Adds a b [] ((at.name + 2 ^ 32 * length at.bytes) ∷ next_run a ∷ []) (packed at.bytes)
    → LaysAttributes 1 bytes a b rest
attribute_laid at bytes rest a b fits spelled adds =
    record {
      items = at ∷ [];
      counted = refl;
      fit = (fits, tt);
      spelled = spelled ∙ ap (λ l. l ++ rest) (sym (append-nil (attribute_bytes at)));
      adds = adds_as a b [] ((at.name + 2 ^ 32 * length at.bytes) ∷ next_run a ∷ [])
          (packed at.bytes) adds [] ((at.name + 2 ^ 32 * length at.bytes) ∷ next_run a ∷ [])
          (packed at.bytes ++ []) refl refl (sym (append-nil (packed at.bytes)));
    }

pub member_laid : (flags name descriptor count : ℕ) (bytes mid rest : List ℕ) (a b c : Sections)
    → IsU2 flags → IsU2 name → IsU2 descriptor → IsU2 count
    → bytes ≡ (u2 flags ++ u2 name ++ u2 descriptor ++ u2 count) ++ mid
    → Adds a b (four_numbers flags name descriptor count ∷ next_attribute a ∷ []) [] []
    → LaysAttributes count mid b c rest → LaysMembers 1 bytes a c rest
member_laid flags name descriptor count bytes mid rest a b c ff fn fd fc spelled adds those =
    let own = those.items in
    let m : Member = record {
      flags = flags;
      name = name;
      descriptor = descriptor;
      attributes = own;
    } in
    let few : count ≡ length own = sym those.counted in
    let at = next_attribute a in
    let words = four_numbers flags name descriptor count ∷ at ∷ [] in
    let run : next_run b ≡ next_run a =
    omega (arith, run_moved a b words [] [] adds) in
    record {
      items = m ∷ [];
      counted = refl;
      fit = (
        record {
          flags = ff;
          name = fn;
          descriptor = fd;
          attributes = (subst IsU2 few fc, those.fit);
        },
        tt,
      );
      spelled = spelled
          ∙ ap (λ l. (u2 flags ++ u2 name ++ u2 descriptor ++ u2 count) ++ l) those.spelled
          ∙ ap (λ n. u2 flags ++ u2 name ++ u2 descriptor ++ u2 n
          ++ (flat_map attribute_bytes own ++ rest)) few
          ∙ ap (λ l. l ++ rest) (sym (append-nil (member_bytes m)));
      adds = adds_as a c (words ++ []) ([] ++ attributes (next_run b) own)
          ([] ++ attribute_runs own)
          (adds_then a b words [] [] adds c [] (attributes (next_run b) own) (attribute_runs own)
          those.adds)
          (members at (m ∷ [])) (attributes (next_run a) (own ++ []))
          (attribute_runs (own ++ []))
          (ap (λ n. four_numbers flags name descriptor n ∷ at ∷ []) few)
          (ap (λ n. attributes n own) run
          ∙ ap (attributes (next_run a)) (sym (append-nil own)))
          (ap attribute_runs (sym (append-nil own)));
    }
