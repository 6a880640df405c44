-- Words that are kept are the record of a class that keeps the rules: lemmas of cm_verdict too.
-- For `rows_show_names`, `view_is_exact`.
use Rattle.std.proofs.Common.{◌≡◌, ℕ, ◌<◌, ◌^◌, Bool, true, false, cond, List, get_or, Option, Some}
use Rattle.std.proofs.Common.{None, refl, subst, arith, is_none}
use Rattle.std.specs.Prelude.{nat_lt}
use Rattle.std.specs.Option.{option_and_then}
use Rattle.std.proofs.lemmas.Bool.{and_parts, and_from, ltb-true, lt-ltb}
use Rattle.cm_class.specs.declared.class_file.ClassFile.{ClassFile}
use Rattle.cm_class.specs.Spelling.{HasSpelling}
use Rattle.cm_record_layout.specs.Layout.{lay}
use Rattle.cm_record_reading.specs.Reading.{class_at}
use Rattle.cm_record_reading.proofs.{class_taken, class_again}
use Rattle.cm_rules.specs.declared.rule.Broken.{Broken}
use Rattle.cm_rules.specs.Fault.{fault}
use Rattle.cm_rules.specs.Keeps.{KeepsRules}
use Rattle.cm_verdict.specs.Verdict.{if_kept, are_words, class_kept}

pub record IsKept (words : List ℕ) (c : ClassFile) : Type 0 where
  pub keeps : KeepsRules c
  pub laid : words ≡ lay c

abbrev a_class : ClassFile → Option ClassFile
a_class c = Some c

class_same : (a b : ClassFile) → a_class a ≡ a_class b → a ≡ b
class_same a b e = cc

kept : (words : List ℕ) (c d : ClassFile) → get_or words 1 0 < 2 ^ 64 → get_or words 2 0 < 2 ^ 64
    → class_at words ≡ Some d → if_kept d ≡ Some c → IsKept words c
kept words c d small_1 small_2 there = by_fault (fault d) refl
  where
    by_fault : (o : Option Broken) → fault d ≡ o → cond (is_none o) (Some d) None ≡ Some c
        → IsKept words c
    by_fault None none e =
        let taken = class_taken words d small_1 small_2 there in
        subst (IsKept words) (class_same d c e) (record {
          keeps = record { spelled = taken.0; kept = none };
          laid = taken.1;
        })
    by_fault (Some broken) found e = absurd (cc)

pub is_kept : (words : List ℕ) (c : ClassFile) → class_kept words ≡ Some c → IsKept words c
unfolding class_kept
is_kept words c = by_words (are_words words) refl
  where
    by_class : (o : Option ClassFile) → class_at words ≡ o → are_words words ≡ true
        → option_and_then if_kept o ≡ Some c → IsKept words c
    by_class None there small e = absurd (cc)
    by_class (Some d) there small e =
        let both =
        and_parts (nat_lt (get_or words 1 0) (2 ^ 64)) (nat_lt (get_or words 2 0) (2 ^ 64))
        small in
        kept words c d (ltb-true (get_or words 1 0) (2 ^ 64) both.0)
        (ltb-true (get_or words 2 0) (2 ^ 64) both.1) there e

    by_words : (t : Bool) → are_words words ≡ t
        → cond t (option_and_then if_kept (class_at words)) None ≡ Some c → IsKept words c
    by_words true small e = by_class (class_at words) refl small e
    by_words false small e = absurd (cc)

word_1 : (c : ClassFile) → HasSpelling c → get_or (lay c) 1 0 < 2 ^ 64
unfolding lay
word_1 c s = omega (arith, s.flags, s.this_class, s.super_class, s.interfaces.0)

word_2 : (c : ClassFile) → HasSpelling c → get_or (lay c) 2 0 < 2 ^ 64
unfolding lay
word_2 c s = omega (arith, s.count, s.fields.0, s.methods.0, s.attributes.0)

pub kept_again : (c : ClassFile) → KeepsRules c → class_kept (lay c) ≡ Some c
unfolding class_kept
kept_again c k =
    let words : are_words (lay c) ≡ true =
    and_from _ _ (lt-ltb (get_or (lay c) 1 0) (2 ^ 64) (word_1 c k.spelled))
    (lt-ltb (get_or (lay c) 2 0) (2 ^ 64) (word_2 c k.spelled)) in
    rw words (rw (class_again c k.spelled) (rw k.kept refl))
