-- As many items are read as were requested, and each part is spelled as it was read.
-- For `spell_attributes`, `spell_interfaces`, `spell_members` and others.
use Rattle.std.proofs.Common.{◌≡◌, ◌≤◌, ◌-◌, ◌<◌, ◌^◌, ℕ, zero, suc, Bool, true, false, List}
use Rattle.std.proofs.Common.{[], ◌∷◌, ◌++◌, length, take, drop, get_or, Option, Some, None, refl}
use Rattle.std.proofs.Common.{sym, ◌∙◌, ap, arith, append_assoc}
use Rattle.std.specs.Prelude.{◌==◌}
use Rattle.std.proofs.lemmas.List.{take_all}
use Rattle.std.proofs.lemmas.Bool.{eq-eqb}
use Rattle.cm_class.specs.declared.constant.Slot.{Slot}
use Rattle.cm_class.specs.declared.class_file.Attribute.{Attribute}
use Rattle.cm_class.specs.declared.class_file.Member.{Member}
use Rattle.cm_class.specs.Spelling.{is_wide, u1, u2, u4, attribute_bytes, member_bytes, counted}
use Rattle.cm_record_layout.specs.Packing.{four_numbers, first_of, second_of, third_of, fourth_of}
use Rattle.cm_record_layout.specs.Packing.{upper_of}
use Rattle.cm_record_layout.proofs.{four_numbers_test}
use Rattle.cm_record_reading.specs.Reading.{◌>>=◌, run_at, constant_at, slots_at, attribute_word}
use Rattle.cm_record_reading.specs.Reading.{attribute_at, attributes_from, member_at, members_from}
use Rattle.cm_record_reading.specs.Reading.{with_front, appended, behind3, behind4, utf8_bytes}
use Rattle.cm_record_reading.specs.Reading.{content_bytes}
use Rattle.cm_record_reading.proofs.Taken.{bind_some, some_same, run_taken}

-- ---- how many

pub slots_many : (total : ℕ) (second : Bool) (n : ℕ) (main runs : List ℕ)
    (x : List Slot × List ℕ × List ℕ) → slots_at total second n main runs ≡ Some x
    → length x.0 ≡ n
unfolding slots_at
slots_many total true zero main runs x e = absurd (cc)
slots_many total false zero main runs x e = sym (ap
    (λ (p : List Slot × List ℕ × List ℕ). length p.0) (some_same ([], main, runs) x e))
slots_many total true (suc n) main runs x e =
    let others = bind_some (slots_at total false n main runs) _ x e in
    let rest = slots_many total false n main runs others.0 others.1 in
    let whole = some_same _ x others.2 in
    sym (ap (λ (p : List Slot × List ℕ × List ℕ). length p.0) whole) ∙ ap suc rest
slots_many total false (suc n) main runs x e =
    let one = bind_some (constant_at total main runs) _ x e in
    let others = bind_some (slots_at total (is_wide one.0.0) n one.0.1 one.0.2) _ x one.2 in
    let rest = slots_many total (is_wide one.0.0) n one.0.1 one.0.2 others.0 others.1 in
    let whole = some_same _ x others.2 in
    sym (ap (λ (p : List Slot × List ℕ × List ℕ). length p.0) whole) ∙ ap suc rest

pub attributes_many : (total n : ℕ) (attrs runs : List ℕ) (x : List Attribute × List ℕ × List ℕ)
    → attributes_from total n attrs runs ≡ Some x → length x.0 ≡ n
unfolding attributes_from
attributes_many total zero attrs runs x e = sym (ap
    (λ (p : List Attribute × List ℕ × List ℕ). length p.0) (some_same ([], attrs, runs) x e))
attributes_many total (suc n) attrs runs x e =
    let one = bind_some (attribute_at total attrs runs) _ x e in
    let others = bind_some (attributes_from total n one.0.1 one.0.2) _ x one.2 in
    let rest = attributes_many total n one.0.1 one.0.2 others.0 others.1 in
    let whole = some_same _ x others.2 in
    sym (ap (λ (p : List Attribute × List ℕ × List ℕ). length p.0) whole) ∙ ap suc rest

pub members_many : (total n : ℕ) (main attrs runs : List ℕ) (x : List Member × List ℕ × List ℕ
    × List ℕ) → members_from total n main attrs runs ≡ Some x → length x.0 ≡ n
unfolding members_from
members_many total zero main attrs runs x e = sym (ap
    (λ (p : List Member × List ℕ × List ℕ × List ℕ). length p.0)
    (some_same ([], main, attrs, runs) x e))
members_many total (suc n) main attrs runs x e =
    let one = bind_some (member_at total main attrs runs) _ x e in
    let others = bind_some (members_from total n one.0.1 one.0.2 one.0.3) _ x one.2 in
    let rest = members_many total n one.0.1 one.0.2 one.0.3 others.0 others.1 in
    let whole = some_same _ x others.2 in
    sym (ap (λ (p : List Member × List ℕ × List ℕ × List ℕ). length p.0) whole) ∙ ap suc rest

-- ---- runs

-- a run, and what was put before it, are spelled together, if `spelled` depends on the run's length
run_spelled : (spelled : List ℕ → List ℕ) (front front' : List ℕ) (count : ℕ)
    (read : Option (List ℕ × List ℕ))
    → ((x : List ℕ × List ℕ) → read ≡ Some x → length x.0 ≡ count)
    → ((bytes : List ℕ) → length bytes ≡ count → front' ++ bytes ≡ front ++ spelled bytes)
    → with_front front' read ≡ appended front spelled read
run_spelled spelled front front' count None many same = refl
run_spelled spelled front front' count (Some read) many same =
    ap (λ w. Some (w, read.1)) (same read.0 (many read refl))

pub utf8_spelled : (front front' : List ℕ) (count : ℕ) (words : List ℕ)
    → front' ≡ front ++ (u1 1 ++ u2 count)
    → with_front front' (run_at count words) ≡ appended front utf8_bytes (run_at count words)
utf8_spelled front front' count words e =
    run_spelled utf8_bytes front front' count (run_at count words)
    (λ x found. (run_taken count words x found).many)
    (λ bytes many. rw (e, many) (simp append_assoc))

pub content_spelled : (name : ℕ) (front front' : List ℕ) (count : ℕ) (words : List ℕ)
    → front' ≡ front ++ u2 name ++ u4 count
    → with_front front' (run_at count words)
    ≡ appended front (content_bytes name) (run_at count words)
content_spelled name front front' count words e =
    run_spelled (content_bytes name) front front' count (run_at count words)
    (λ x found. (run_taken count words x found).many)
    (λ bytes many. rw (e, many) (simp append_assoc))

-- ---- an attribute

-- what is left after it too
abbrev pub with_rest : {A B C : Type 0} → C → Option (A × B) → Option (A × C × B)
with_rest rest None = None
with_rest rest (Some read) = Some (read.0, rest, read.1)

content_read : (out : List ℕ) (name : ℕ) (rest : List ℕ) (read : Option (List ℕ × List ℕ))
    → behind3 out attribute_bytes (read >>= λ run.
    Some (record { name = name; bytes = run.0 }, rest, run.1))
    ≡ with_rest rest (appended out (content_bytes name) read)
content_read out name rest None = refl
content_read out name rest (Some read) = refl

pub attribute_spelled : (total : ℕ) (attrs runs out : List ℕ) → 2 ≤ length attrs
    → attribute_word (first_of (get_or attrs 0 0)) (upper_of (get_or attrs 0 0)) ≡ get_or attrs 0 0
    → get_or attrs 1 0 ≡ total - length runs
    → behind3 out attribute_bytes (attribute_at total attrs runs)
    ≡ with_rest (take (length attrs - 2) (drop 2 attrs))
    (appended out (content_bytes (first_of (get_or attrs 0 0)))
    (run_at (upper_of (get_or attrs 0 0)) runs))
unfolding attribute_at
attribute_spelled total [] runs out long word at = absurd (omega arith)
attribute_spelled total (w ∷ []) runs out long word at = absurd (omega arith)
attribute_spelled total (w ∷ a ∷ rest) runs out long word at =
    let test1 : (attribute_word (first_of w) (upper_of w) == w) ≡ true =
    eq-eqb (attribute_word (first_of w) (upper_of w)) w word in
    let test2 : (a == total - length runs) ≡ true = eq-eqb a (total - length runs) at in
    let behind_it : take (length (w ∷ a ∷ rest) - 2) (drop 2 (w ∷ a ∷ rest)) ≡ rest =
    take_all (length (w ∷ a ∷ rest) - 2) rest (omega arith) in
    rw (test1, test2, behind_it)
    (content_read out (first_of w) rest (run_at (upper_of w) runs))

pub attribute_short : (total : ℕ) (attrs runs : List ℕ) → length attrs < 2
    → attribute_at total attrs runs ≡ None
unfolding attribute_at
attribute_short total [] runs short = refl
attribute_short total (w ∷ []) runs short = refl
attribute_short total (w ∷ a ∷ rest) runs short = absurd (omega arith)

-- ---- a member

-- what is left of the members, too
abbrev pub with_main : {A B C D : Type 0} → D → Option (A × B × C) → Option (A × D × B × C)
with_main rest None = None
with_main rest (Some read) = Some (read.0, rest, read.1, read.2)

own_read : (out out' : List ℕ) (flags name descriptor : ℕ) (rest : List ℕ)
    (read : Option (List Attribute × List ℕ × List ℕ))
    → out' ≡ out ++ u2 flags ++ u2 name ++ u2 descriptor
    → behind4 out member_bytes (read >>= λ own.
    Some (
      record { flags = flags; name = name; descriptor = descriptor; attributes = own.0 },
      rest,
      own.1,
      own.2,
    ))
    ≡ with_main rest (behind3 out' (counted attribute_bytes) read)
own_read out out' flags name descriptor rest None e = refl
own_read out out' flags name descriptor rest (Some read) e =
    rw e (ap (λ w. Some (w, rest, read.1, read.2)) (simp append_assoc))

pub member_spelled : (total : ℕ) (main attrs runs out out' : List ℕ) → 2 ≤ length main
    → get_or main 0 0 < 2 ^ 64
    → get_or main 1 0 ≡ total - length attrs
    → out' ≡ out ++ u2 (first_of (get_or main 0 0)) ++ u2 (second_of (get_or main 0 0))
    ++ u2 (third_of (get_or main 0 0))
    → behind4 out member_bytes (member_at total main attrs runs)
    ≡ with_main (take (length main - 2) (drop 2 main))
    (behind3 out' (counted attribute_bytes)
    (attributes_from total (fourth_of (get_or main 0 0)) attrs runs))
unfolding member_at
member_spelled total [] attrs runs out out' long small at e = absurd (omega arith)
member_spelled total (w ∷ []) attrs runs out out' long small at e = absurd (omega arith)
member_spelled total (w ∷ a ∷ rest) attrs runs out out' long small at e =
    let test1 : (four_numbers (first_of w) (second_of w) (third_of w) (fourth_of w) == w) ≡ true =
    four_numbers_test w small in
    let test2 : (a == total - length attrs) ≡ true = eq-eqb a (total - length attrs) at in
    let behind_it : take (length (w ∷ a ∷ rest) - 2) (drop 2 (w ∷ a ∷ rest)) ≡ rest =
    take_all (length (w ∷ a ∷ rest) - 2) rest (omega arith) in
    rw (test1, test2, behind_it)
    (own_read out out' (first_of w) (second_of w) (third_of w) rest
    (attributes_from total (fourth_of w) attrs runs) e)
