-- Which words of the directory can be those of a Utf8 of given bytes.
-- For `Marks::of`, `may_be_utf8_of`.
use Rattle.std.proofs.Common.{◌≡◌, ◌<◌, ◌+◌, ◌*◌, ◌/◌, ◌%◌, ◌^◌, ℕ, Bool, true, false, List, length}
use Rattle.std.proofs.Common.{get_or, Option, Some, None, refl, sym, ◌∙◌, ap, arith}
use Rattle.std.specs.Prelude.{◌==◌, if◌then◌else◌, nat_le, option_map}
use Rattle.std.specs.Option.{IfSome}
use Rattle.std.proofs.lemmas.Bool.{leb-false}
use Rattle.cm_class.specs.declared.class_file.ClassFile.{ClassFile}
use Rattle.cm_class.specs.declared.kind.Kind.{Kind}
use Rattle.cm_class.specs.declared.kind.Kind.TheVariants as kinds
use Rattle.cm_class.specs.Names.{names_utf8, utf8}
use Rattle.cm_class.specs.Reading.{tag_of, tag_number}
use Rattle.cm_class.proofs.{number_is}
use Rattle.cm_record_layout.specs.Packing.{first_of, second_of, upper_of}
use Rattle.cm_record_layout.specs.Layout.{IsRecordOf}
use Rattle.cm_record.specs.declared.run.Run.{Run}
use Rattle.cm_record.specs.Constants.{constant_at_index, is_second_word, kept_of_kind, word_kept}
use Rattle.cm_record.specs.Runs.{run_of_utf8}
use Rattle.cm_record.proofs.RunTests.{no_utf8, utf8_there, utf8_compared}

-- ---- a word that is kept as a Utf8

-- the word of a Utf8 with this many bytes
pub record IsUtf8Word (word count : ℕ) : Type 0 where
  pub tag : first_of word ≡ 1
  pub count_is : second_of word ≡ count

of_word : (word next : ℕ) (run : Run) → run_of_utf8 (word_kept word next) ≡ Some run
    → IsUtf8Word word run.len
unfolding word_kept
of_word word next run e = by_kind (tag_of (first_of word)) (number_is (first_of word)) e
  where
    by_kind : (found : Option Kind) → IfSome found (λ k. tag_number k ≡ first_of word)
        → run_of_utf8 (option_map (λ k. kept_of_kind k word next) found) ≡ Some run
        → IsUtf8Word word run.len
    by_kind None h e = absurd (cc)
    by_kind (Some kinds.Utf8) h e =
        let same : record { at = upper_of word * 8 % 2 ^ 32 / 8; len = second_of word } ≡ run =
        cc in
        record { tag = sym h; count_is = ap (λ (r : Run). r.len) same }
    by_kind (Some kinds.Integer) h e = absurd (cc)
    by_kind (Some kinds.Float) h e = absurd (cc)
    by_kind (Some kinds.Long) h e = absurd (cc)
    by_kind (Some kinds.Double) h e = absurd (cc)
    by_kind (Some kinds.Class) h e = absurd (cc)
    by_kind (Some kinds.String) h e = absurd (cc)
    by_kind (Some kinds.Fieldref) h e = absurd (cc)
    by_kind (Some kinds.Methodref) h e = absurd (cc)
    by_kind (Some kinds.InterfaceMethodref) h e = absurd (cc)
    by_kind (Some kinds.NameAndType) h e = absurd (cc)
    by_kind (Some kinds.MethodHandle) h e = absurd (cc)
    by_kind (Some kinds.MethodType) h e = absurd (cc)
    by_kind (Some kinds.InvokeDynamic) h e = absurd (cc)

-- ---- the index of a Utf8

pub record IsUtf8Index (words : List ℕ) (index count : ℕ) : Type 0 where
  pub within : index < first_of (get_or words 2 0)
  pub word : IsUtf8Word (get_or words (8 + index) 0) count

of_index : (words : List ℕ) (index : ℕ) (run : Run)
    → run_of_utf8 (constant_at_index words index) ≡ Some run → IsUtf8Index words index run.len
of_index words index run e = by_zero (index == 0) e
  where
    word : ℕ
    word = get_or words (8 + index) 0

    next : ℕ
    next = get_or words (9 + index) 0

    by_second : (t : Bool) → index < first_of (get_or words 2 0)
        → run_of_utf8 (if t then None else word_kept word next) ≡ Some run
        → IsUtf8Index words index run.len
    by_second true within e = absurd (cc)
    by_second false within e = record { within = within; word = of_word word next run e }

    by_count : (t : Bool) → nat_le (first_of (get_or words 2 0)) index ≡ t
        → run_of_utf8 (if t then None else if is_second_word words (8 + index) then None
        else word_kept word next) ≡ Some run
        → IsUtf8Index words index run.len
    by_count true is e = absurd (cc)
    by_count false is e = by_second (is_second_word words (8 + index))
        (omega (arith, leb-false (first_of (get_or words 2 0)) index is)) e

    by_zero : (t : Bool)
        → run_of_utf8 (if t then None else if nat_le (first_of (get_or words 2 0)) index then None
        else if is_second_word words (8 + index) then None else word_kept word next) ≡ Some run
        → IsUtf8Index words index run.len
    by_zero true e = absurd (cc)
    by_zero false e = by_count (nat_le (first_of (get_or words 2 0)) index) refl e

-- An index whose word isn't that of a Utf8 of as many bytes leads to no Utf8 of these bytes.
pub leads_to_none : (c : ClassFile) (words : List ℕ) → IsRecordOf c words
    → (index : ℕ) (bytes : List ℕ)
    → ¬ IsUtf8Index words index (length bytes) → names_utf8 c index bytes ≡ false
leads_to_none c words is index bytes differs =
    by_place (run_of_utf8 (constant_at_index words index)) refl
  where
    by_place : (o : Option Run) → o ≡ run_of_utf8 (constant_at_index words index)
        → names_utf8 c index bytes ≡ false
    by_place None e = sym (no_utf8 c words is index None e refl bytes)
    by_place (Some run) e =
        let there = utf8_there c words is index (Some run) e run refl in
        let looks = of_index words index run (sym e) in
        let other : utf8 c index ≡ bytes → ⊥ = λ same. differs (record {
          within = looks.within;
          word = record {
            tag = looks.word.tag;
            count_is = looks.word.count_is
                ∙ (there.count ∙ ap length same);
          };
        }) in
        sym (utf8_compared c words is index (Some run) e run refl bytes false
        (λ yes. absurd (let both : false ≡ true = yes in cc), λ same. absurd (other same)))
