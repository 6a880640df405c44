-- Runs compared with bytes, and Utf8s with names.
-- For `Marks::of`, `is_run`, `is_utf8`.
use Rattle.std.proofs.Common.{◌≡◌, ◌<◌, ◌≤◌, ◌-◌, ℕ, Bool, true, false, List, [], ◌∷◌}
use Rattle.std.proofs.Common.{length, take, drop, get_or, min, Option, Some, None, refl, sym, ◌∙◌}
use Rattle.std.proofs.Common.{ap, subst, arith}
use Rattle.std.specs.Prelude.{option_map, ◌&&◌, bytes_eq, unwrap_or, is_some}
use Rattle.std.specs.Bool.{Decides}
use Rattle.std.specs.Option.{option_map_or}
use Rattle.std.proofs.lemmas.List.{take_rest}
use Rattle.std.proofs.lemmas.Slice.Eq.{bytes_eq-Decides}
use Rattle.cm_class.specs.declared.constant.Constant.TheVariants as constant
use Rattle.cm_class.specs.declared.kind.Kind.TheVariants as kinds
use Rattle.cm_class.specs.declared.class_file.ClassFile.{ClassFile}
use Rattle.cm_class.specs.Names.{is_kind, names_utf8, utf8, constant_named}
use Rattle.cm_class.specs.Spelling.{ClassConstant}
use Rattle.cm_record_layout.specs.Packing.{packed, word_from}
use Rattle.cm_record_layout.specs.Layout.{IsRecordOf}
use Rattle.cm_record.specs.declared.run.Run.{Run}
use Rattle.cm_record.specs.Constants.{kept_constant, constant_at_index, constant_kept, utf8_at}
use Rattle.cm_record.specs.Runs.{IsRunOf, run_of_utf8, no_bytes, utf8_run}
use Rattle.cm_record_layout.proofs.{packed_more, lay_short}
use Rattle.cm_record.proofs.Constants.{constant_is}
use Rattle.cm_record.proofs.RunPlaces.{utf8_run_is}

-- ---- a turn of the loop that compares words with the run of bytes

head_rest : (xs : List ℕ) → 1 ≤ length xs → xs ≡ get_or xs 0 0 ∷ drop 1 xs
head_rest [] h = absurd (omega arith)
head_rest (x ∷ xs) h = refl

module _ (words bytes rest left : List ℕ) (onward : words ≡ packed bytes
    → rest ≡ packed left) (back : rest ≡ packed left
    → words ≡ packed bytes) (some : (length left ≡ 0) → ⊥) where
  first : packed left ≡ word_from left ∷ packed (drop (min (length left) 8) left)
  first = packed_more left (min (length left) 8) refl (omega (arith, some))

  pub too_few_words : length rest < 1 → words ≡ packed bytes → ⊥
  too_few_words few e = omega (arith, ap length (onward e), ap length first)

  pub other_word : (word : ℕ) → word ≡ word_from left → (word ≡ get_or rest 0 0 → ⊥)
      → words ≡ packed bytes → ⊥
  other_word word is differs e = differs (is ∙ sym (ap (λ w. get_or w 0 0) (onward e ∙ first)))

  module _ (left' : List ℕ) (shorter : left' ≡ drop (min (length left) 8) left) where
    pub goes_on : words ≡ packed bytes → take (length rest - 1) (drop 1 rest) ≡ packed left'
    goes_on e = take_rest rest 1 ∙ (ap (drop 1) (onward e ∙ first) ∙ ap packed (sym shorter))

    pub goes_back : (word : ℕ) → 1 ≤ length rest → word ≡ word_from left → word ≡ get_or rest 0 0
        → take (length rest - 1) (drop 1 rest) ≡ packed left' → words ≡ packed bytes
    goes_back word long is same e =
        let behind : drop 1 rest ≡ packed (drop (min (length left) 8) left) =
        sym (take_rest rest 1) ∙ (e ∙ ap packed shorter) in
        back (head_rest rest long ∙ ((λ i. (sym same ∙ is) i ∷ behind i) ∙ sym first))

-- ---- which constants are Utf8s

kind_kept : (at : ℕ) (o : Option ClassConstant)
    → option_map_or (is_kind kinds.Utf8) o false
    ≡ is_some (run_of_utf8 (option_map (kept_constant at) o))
kind_kept at None = refl
kind_kept at (Some (constant.Utf8 bytes)) = refl
kind_kept at (Some (constant.Integer bits)) = refl
kind_kept at (Some (constant.Float bits)) = refl
kind_kept at (Some (constant.Long bits)) = refl
kind_kept at (Some (constant.Double bits)) = refl
kind_kept at (Some (constant.Class name)) = refl
kind_kept at (Some (constant.String utf8)) = refl
kind_kept at (Some (constant.Fieldref a b)) = refl
kind_kept at (Some (constant.Methodref a b)) = refl
kind_kept at (Some (constant.InterfaceMethodref a b)) = refl
kind_kept at (Some (constant.NameAndType a b)) = refl
kind_kept at (Some (constant.MethodHandle a b)) = refl
kind_kept at (Some (constant.MethodType descriptor)) = refl
kind_kept at (Some (constant.InvokeDynamic a b)) = refl

pub same_verdict : {P : Type 0} (r s : Bool) → Decides r P → Decides s P → r ≡ s
same_verdict true true a b = refl
same_verdict true false a b = sym (b.1 (a.0 refl))
same_verdict false true a b = a.1 (b.0 refl)
same_verdict false false a b = refl

module _ (c : ClassFile) (words : List ℕ) (is : IsRecordOf c words) (index : ℕ) (place : Option Run)
    (found : place ≡ run_of_utf8 (constant_at_index words index)) where
  kept : run_of_utf8 (constant_kept c index) ≡ place
  kept = ap run_of_utf8 (sym (ap
      (λ w. constant_at_index w index) is.laid
      ∙ constant_is c is.spelled (lay_short c words is) index)) ∙ sym found

  pub no_utf8 : place ≡ None → (bytes : List ℕ) → false ≡ names_utf8 c index bytes
  no_utf8 none bytes = sym (ap
      (λ b. b && bytes_eq (utf8 c index) bytes)
      (kind_kept (utf8_at c index) (constant_named c index) ∙ ap is_some (kept ∙ none)))

  pub utf8_there : (run : Run) → place ≡ Some run → IsRunOf words run (utf8 c index)
  utf8_there run some =
      let there : utf8_run words index ≡ run = ap (λ o. unwrap_or o no_bytes) (sym found ∙ some) in
      subst (λ (r : Run). IsRunOf words r (utf8 c index)) there (subst
      (λ (w : List ℕ). IsRunOf w (utf8_run w index) (utf8 c index)) (sym is.laid)
      (utf8_run_is c is.spelled (lay_short c words is) index))

  pub utf8_compared : (run : Run) → place ≡ Some run → (bytes : List ℕ) (result : Bool)
      → Decides result (utf8 c index ≡ bytes) → result ≡ names_utf8 c index bytes
  utf8_compared run some bytes result decides =
      let is_one =
      kind_kept (utf8_at c index) (constant_named c index) ∙ ap is_some (kept ∙ some) in
      same_verdict result (bytes_eq (utf8 c index) bytes) decides
      (bytes_eq-Decides (utf8 c index) bytes)
      ∙ sym (ap (λ b. b && bytes_eq (utf8 c index) bytes) is_one)
