-- The attributes of an owner, as they lie side by side.
-- For `attribute_at`, `attribute_named`.
use Rattle.std.proofs.Common.{◌≡◌, ◌<◌, ◌+◌, ◌*◌, ℕ, List, ◌++◌, length, get_or, slice_get, Option}
use Rattle.std.proofs.Common.{Some, None, Bool, true, false, sym, ◌∙◌, ap, subst, arith}
use Rattle.std.proofs.lemmas.Option.{slice_get_within}
use Rattle.cm_class.specs.declared.class_file.Attribute.{Attribute as ClassAttribute}
use Rattle.cm_class.specs.declared.class_file.ClassFile.{ClassFile}
use Rattle.cm_class.specs.Names.{names_utf8}
use Rattle.cm_record_layout.specs.Layout.{all_attributes, attributes_at, IsRecordOf}
use Rattle.cm_record_layout.specs.Packing.{first_of}
use Rattle.cm_record_parts.specs.declared.attributes.Attribute.{Attribute}
use Rattle.cm_record_parts.specs.declared.attributes.Listed.{Listed as ListedPlace}
use Rattle.cm_record_parts.specs.Parts.{AreListed, MayBeListed, IsAttribute, MayBeAttribute}
use Rattle.cm_record_parts.specs.Parts.{attribute_of, FindsNamed}
use Rattle.cm_record_parts.proofs.PartPlaces.{item_there, after_front, in_front, attribute_there}

module _ (c : ClassFile) (words : List ℕ) (is : IsRecordOf c words) (listed : ListedPlace) where
  -- an attribute at a place is that of the class
  abbrev pub Reads : Attribute → ℕ → Type 0
  Reads found j = (k : ℕ) (own : ClassAttribute) → slice_get (all_attributes c) k ≡ Some own
      → listed.at + 2 * j ≡ attributes_at c + 2 * k → IsAttribute c words found own

  module _ (those : List ClassAttribute) (are : AreListed c listed those) (j : ℕ)
      (own : ClassAttribute) (there : slice_get those j ≡ Some own) where
    among : slice_get (all_attributes c) (length are.before + j) ≡ Some own
    among = ap (λ l. slice_get l (length are.before + j)) are.all
        ∙ (after_front are.before (those ++ are.after) j ∙ in_front those are.after j own there)

    place : listed.at + 2 * j ≡ attributes_at c + 2 * (length are.before + j)
    place = omega (arith, are.at)

    read : (found : Attribute) → Reads found j → IsAttribute c words found own
    read found reads = reads (length are.before + j) own among place

    name_there : first_of (get_or words (listed.at + 2 * j) 0) ≡ own.name
    name_there =
        (attribute_there c words is (length are.before + j) own (listed.at + 2 * j) among
        place).name

  pub listed_at : (o : Option (List ClassAttribute)) (j : ℕ) (found : Attribute)
      → MayBeListed c (Some listed) o → j < listed.count → Reads found j
      → MayBeAttribute c words (Some found) (attribute_of o j)
  listed_at None j found are lt reads = absurd are
  listed_at (Some those) j found are lt reads =
      let own = item_there those j (omega (arith, lt, are.count)) in
      subst (λ (a : Option ClassAttribute). MayBeAttribute c words (Some found) a) (sym own.1)
      (read those are j own.0 own.1 found reads)

  -- the test of a name, on the words
  abbrev pub has_name : List ℕ → ℕ → Bool
  has_name name j = names_utf8 c (first_of (get_or words (listed.at + 2 * j) 0)) name

  named : (name : List ℕ) (those : List ClassAttribute) → AreListed c listed those → (j : ℕ)
      (own : ClassAttribute) → slice_get those j ≡ Some own
      → names_utf8 c own.name name ≡ has_name name j
  named name those are j own there = ap
      (λ n. names_utf8 c n name) (sym (name_there those are j own there))

  pub named_found : (o : Option (List ClassAttribute)) (name : List ℕ) (j : ℕ) (found : Attribute)
      → MayBeListed c (Some listed) o → j < listed.count → Reads found j
      → ((k : ℕ) → k < j → has_name name k ≡ false) → has_name name j ≡ true
      → FindsNamed c words name o (Some found)
  named_found None name j found are lt reads missed has = absurd are
  named_found (Some those) name j found are lt reads missed has =
      let own = item_there those j (omega (arith, lt, are.count)) in
      record {
        index = j;
        own = own.0;
        there = own.1;
        has = named name those are j own.0 own.1 ∙ has;
        is = read those are j own.0 own.1 found reads;
        first = λ k other less there. named name those are k other there ∙ missed k less;
      }

  pub none_named : (o : Option (List ClassAttribute)) (name : List ℕ)
      → MayBeListed c (Some listed) o
      → ((k : ℕ) → k < listed.count → has_name name k ≡ false)
      → FindsNamed c words name o None
  none_named None name are missed = absurd are
  none_named (Some those) name are missed = λ k other there.
      named name those are k other there
      ∙ missed k (omega (arith, slice_get_within those k other there, are.count))
