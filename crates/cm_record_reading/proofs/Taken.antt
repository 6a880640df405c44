-- Words from which something is read are its layout.
-- For `is_record`, `spell_class` and others.
use Rattle.std.proofs.Common.{◌≡◌, ◌<◌, ◌+◌, ◌-◌, ◌*◌, ◌^◌, ℕ, zero, suc, Bool, true}
use Rattle.std.proofs.Common.{false, List, [], ◌∷◌, ◌++◌, length, take, min, Option, Some, None}
use Rattle.std.proofs.Common.{inl, inr, refl, sym, ◌∙◌, ap, subst, arith, append_assoc}
use Rattle.std.proofs.Common.{length-append}
use Rattle.std.specs.Prelude.{◌==◌, nat_lt}
use Rattle.std.specs.List.{AllByRecursion}
use Rattle.std.proofs.lemmas.List.{length-take, get_or_append_left, get_or_past, drop_at}
use Rattle.std.proofs.lemmas.Bool.{eqb-true, ltb-true, cases_lt}
use Rattle.cm_class.specs.declared.constant.Constant.TheVariants as constant
use Rattle.cm_class.specs.declared.constant.Slot.{Slot}
use Rattle.cm_class.specs.declared.constant.Slot.TheVariants.{Usable, Unusable}
use Rattle.cm_class.specs.declared.class_file.Attribute.{Attribute}
use Rattle.cm_class.specs.declared.class_file.Member.{Member}
use Rattle.cm_class.specs.declared.kind.Kind.{Kind}
use Rattle.cm_class.specs.declared.kind.Kind.TheVariants as kinds
use Rattle.cm_class.specs.Names.{is_kind}
use Rattle.cm_class.specs.Reading.{tag_of}
use Rattle.cm_class.specs.Spelling.{is_wide, IsU2, AreBytes, ConstantFits, SlotsFit, AttributeFits}
use Rattle.cm_class.specs.Spelling.{ClassConstant, MemberFits}
use Rattle.cm_record_reading.specs.declared.entry.DirectoryEntry.{DirectoryEntry}
use Rattle.cm_record_reading.specs.declared.entry.DirectoryEntry.TheVariants as entry
use Rattle.cm_record_layout.specs.Packing.{word_from, bytes_of, packed, run_words, four_numbers}
use Rattle.cm_record_layout.specs.Packing.{first_of, second_of, third_of, fourth_of, upper_of}
use Rattle.cm_record_layout.specs.Layout.{constant_words, constant_run, directory, utf8_runs}
use Rattle.cm_record_layout.specs.Layout.{members, member_attributes, attributes, attribute_run}
use Rattle.cm_record_layout.specs.Layout.{attribute_runs, whole_word}
use Rattle.cm_record_reading.specs.Reading.{◌>>=◌, only_if, front_of, run_from, run_at, candidate}
use Rattle.cm_record_reading.specs.Reading.{entry_of_kind, entry_word, entry_of, wide_from}
use Rattle.cm_record_reading.specs.Reading.{constant_from, constant_at, slots_at, interfaces_from}
use Rattle.cm_record_reading.specs.Reading.{attribute_word, attribute_at, attributes_from}
use Rattle.cm_record_reading.specs.Reading.{member_at, members_from}
use Rattle.cm_record_layout.proofs.{packed_more, word_same, length-bytes_of, attributes_append}
use Rattle.cm_record_layout.proofs.{attribute_runs_append, attributes_len}

-- ---- what a result says about the steps before it

pub bind_some : {A B : Type 0} (o : Option A) (f : A → Option B) (y : B) → (o >>= f) ≡ Some y
    → (x : A) × (o ≡ Some x) × (f x ≡ Some y)
bind_some None f y e = absurd (cc)
bind_some (Some x) f y e = (x, refl, e)

pub only_if_some : {A : Type 0} (b : Bool) (o : Option A) (x : A) → only_if b o ≡ Some x
    → (b ≡ true) × (o ≡ Some x)
only_if_some true o x e = (refl, e)
only_if_some false o x e = absurd (cc)

pub some_same : {A : Type 0} (x y : A) → Some x ≡ Some y → x ≡ y
some_same x y e = cc

-- ---- runs

take_bytes : (n : ℕ) (bytes : List ℕ) → AreBytes bytes → AreBytes (take n bytes)
take_bytes zero bytes are = tt
take_bytes (suc n) [] are = tt
take_bytes (suc n) (b ∷ bytes) are = (are.0, take_bytes n bytes are.1)

append_bytes : (xs ys : List ℕ) → AreBytes xs → AreBytes ys → AreBytes (xs ++ ys)
append_bytes [] ys ax ay = ay
append_bytes (x ∷ xs) ys ax ay = (ax.0, append_bytes xs ys ax.1 ay)

word_of_bytes : (word : ℕ) → AreBytes (bytes_of word)
unfolding bytes_of
word_of_bytes word = (
  omega arith,
  (
    omega arith,
    (
      omega arith,
      (
        omega arith,
        (omega arith, (omega arith, (omega arith, (omega arith, tt)))),
      ),
    ),
  ),
)

-- the bytes, and the words that are left
pub record RunTaken (count : ℕ) (words : List ℕ) (x : List ℕ × List ℕ) : Type 0 where
  pub fits : AreBytes x.0
  pub many : length x.0 ≡ count
  pub split : words ≡ packed x.0 ++ x.1

-- one more word at the front
run_more : (count word : ℕ) (front others : List ℕ) → 0 < count
    → front ≡ take count (bytes_of word) → word_from front ≡ word → length others ≡ count - 8
    → packed (front ++ others) ≡ word ∷ packed others
unfolding word_from
run_more count word front others some ef same size =
    let long : length front ≡ min count 8 =
    omega (arith, ap length ef, length-take count (bytes_of word), length-bytes_of word) in
    let whole = length-append front others in
    let split =
    packed_more (front ++ others) (length front) (omega (arith, whole, long, size))
    (omega (arith, whole, long)) in
    let first : word_from (front ++ others) ≡ word_from front =
    word_same (front ++ others) front (λ k lt. elim (cases_lt k (length front)) [
      | inl inside ↦ get_or_append_left front others 0 k inside
      | inr past ↦ get_or_past (front ++ others) k 0 (omega (arith, whole, long, size))
          ∙ sym (get_or_past front k 0 past)
    ]) in
    split ∙ rw (first, same, drop_at front others (length front) refl) refl

run_from_taken : (n count : ℕ) (words : List ℕ) (x : List ℕ × List ℕ) → run_words count ≡ n
    → run_from n count words ≡ Some x → RunTaken count words x
unfolding run_from
run_from_taken zero count words x size e =
    let none : count ≡ 0 = omega arith in
    subst (RunTaken count words) (some_same ([], words) x e)
    (record { fits = tt; many = sym none; split = refl })
run_from_taken (suc n) count [] x size e = absurd (cc)
run_from_taken (suc n) count (word ∷ words) x size e =
    let one = bind_some (front_of count word) _ x e in
    let others = bind_some (run_from n (count - 8) words) _ x one.2 in
    let tested =
    only_if_some (word_from (take count (bytes_of word)) == word)
    (Some (take count (bytes_of word))) one.0 one.1 in
    let front : one.0 ≡ take count (bytes_of word) =
    sym (some_same (take count (bytes_of word)) one.0 tested.1) in
    let same : word_from one.0 ≡ word =
    ap word_from front ∙ eqb-true (word_from (take count (bytes_of word))) word tested.0 in
    let rest = run_from_taken n (count - 8) words others.0 (omega arith) others.1 in
    let some : 0 < count = omega arith in
    subst (RunTaken count (word ∷ words))
    (some_same (one.0 ++ others.0.0, others.0.1) x others.2) (record {
      fits = append_bytes one.0 others.0.0
          (rw front (take_bytes count (bytes_of word) (word_of_bytes word))) rest.fits;
      many = omega (
        arith,
        length-append one.0 others.0.0,
        rest.many,
        ap length front,
        length-take count (bytes_of word),
        length-bytes_of word,
      );
      split = rw (run_more count word one.0 others.0.0 some front same rest.many) (ap
          (λ w. word ∷ w) rest.split);
    })

pub run_taken : (count : ℕ) (words : List ℕ) (x : List ℕ × List ℕ) → run_at count words ≡ Some x
    → RunTaken count words x
run_taken count words x e = run_from_taken (run_words count) count words x refl e

-- ---- the constant pool

-- a constant of one word, which has no run
pub record IsPlain (c : ClassConstant) : Type 0 where
  pub narrow : is_wide c ≡ false
  pub other : is_kind kinds.Utf8 c ≡ false
  pub no_run : constant_run c ≡ []
  pub word : (at : ℕ) → constant_words at c ≡ whole_word c ∷ []
  pub fits : ConstantFits c

abbrev pub EntryFits : Option DirectoryEntry → Type 0
EntryFits None = Unit {0}
EntryFits (Some (entry.Utf8 count)) = count < 2 ^ 16
EntryFits (Some entry.Long) = Unit {0}
EntryFits (Some entry.Double) = Unit {0}
EntryFits (Some (entry.Whole c)) = IsPlain c

-- the parts of a word fit
fits_of_kind : (kind : Kind) (word : ℕ) → EntryFits (Some (entry_of_kind kind word))
fits_of_kind kinds.Utf8 word = omega arith
fits_of_kind kinds.Integer word =
    record { narrow = refl; other = refl; no_run = refl; word = λ at. refl; fits = omega arith }
fits_of_kind kinds.Float word =
    record { narrow = refl; other = refl; no_run = refl; word = λ at. refl; fits = omega arith }
fits_of_kind kinds.Long word = tt
fits_of_kind kinds.Double word = tt
fits_of_kind kinds.Class word =
    record { narrow = refl; other = refl; no_run = refl; word = λ at. refl; fits = omega arith }
fits_of_kind kinds.String word =
    record { narrow = refl; other = refl; no_run = refl; word = λ at. refl; fits = omega arith }
fits_of_kind kinds.Fieldref word =
    record {
      narrow = refl;
      other = refl;
      no_run = refl;
      word = λ at. refl;
      fits = (omega arith, omega arith);
    }
fits_of_kind kinds.Methodref word =
    record {
      narrow = refl;
      other = refl;
      no_run = refl;
      word = λ at. refl;
      fits = (omega arith, omega arith);
    }
fits_of_kind kinds.InterfaceMethodref word =
    record {
      narrow = refl;
      other = refl;
      no_run = refl;
      word = λ at. refl;
      fits = (omega arith, omega arith);
    }
fits_of_kind kinds.NameAndType word =
    record {
      narrow = refl;
      other = refl;
      no_run = refl;
      word = λ at. refl;
      fits = (omega arith, omega arith);
    }
fits_of_kind kinds.MethodHandle word =
    record {
      narrow = refl;
      other = refl;
      no_run = refl;
      word = λ at. refl;
      fits = (omega arith, omega arith);
    }
fits_of_kind kinds.MethodType word =
    record { narrow = refl; other = refl; no_run = refl; word = λ at. refl; fits = omega arith }
fits_of_kind kinds.InvokeDynamic word =
    record {
      narrow = refl;
      other = refl;
      no_run = refl;
      word = λ at. refl;
      fits = (omega arith, omega arith);
    }

candidate_fits : (word : ℕ) → EntryFits (candidate word)
unfolding candidate
candidate_fits word = by_kind (tag_of (first_of word))
  where
    by_kind : (found : Option Kind)
        → EntryFits (found >>= (λ kind. Some (entry_of_kind kind word)))
    by_kind None = tt
    by_kind (Some kind) = fits_of_kind kind word

pub record EntryTaken (at word : ℕ) (e : DirectoryEntry) : Type 0 where
  pub word_is : entry_word at e ≡ word
  pub fits : EntryFits (Some e)

pub entry_taken : (at word : ℕ) (e : DirectoryEntry) → entry_of at word ≡ Some e
    → EntryTaken at word e
unfolding entry_of
entry_taken at word e read =
    let one = bind_some (candidate word) _ e read in
    let tested = only_if_some (entry_word at one.0 == word) (Some one.0) e one.2 in
    subst (EntryTaken at word) (some_same one.0 e tested.1) (record {
      word_is = eqb-true (entry_word at one.0) word tested.0;
      fits = subst EntryFits one.1 (candidate_fits word);
    })

-- a constant was laid out from here on, and this is left
pub record ConstantTaken (at : ℕ) (main runs : List ℕ)
    (x : ClassConstant × List ℕ × List ℕ) : Type 0 where
  pub fits : ConstantFits x.0
  pub main_split : main ≡ constant_words at x.0 ++ x.1
  pub run_split : runs ≡ constant_run x.0 ++ x.2

wide_taken : (make : ℕ → ClassConstant) (main runs : List ℕ) (x : ClassConstant × List ℕ × List ℕ)
    → wide_from make main runs ≡ Some x
    → (bits : ℕ) × (rest : List ℕ) × (main ≡ bits ∷ rest) × (bits < 2 ^ 64)
    × ((make bits, rest, runs) ≡ x)
wide_taken make [] runs x e = absurd (cc)
wide_taken make (bits ∷ main) runs x e =
    let tested = only_if_some (nat_lt bits (2 ^ 64)) (Some (make bits, main, runs)) x e in (
      bits,
      main,
      refl,
      ltb-true bits (2 ^ 64) tested.0,
      some_same (make bits, main, runs) x tested.1,
    )

from_entry : (at word : ℕ) (e : DirectoryEntry) (main runs : List ℕ)
    (x : ClassConstant × List ℕ × List ℕ)
    → EntryTaken at word e → constant_from e main runs ≡ Some x
    → ConstantTaken at (word ∷ main) runs x
from_entry at word (entry.Utf8 count) main runs x taken read =
    let text = bind_some (run_at count runs) _ x read in
    let run = run_taken count runs text.0 text.1 in
    subst (ConstantTaken at (word ∷ main) runs)
    (some_same (constant.Utf8 text.0.0, main, text.0.1) x text.2) (record {
      fits = (omega (arith, run.many, taken.fits), run.fits);
      main_split = ap (λ w. w ∷ main) (sym taken.word_is ∙ ap
          (λ n. 1 + 2 ^ 16 * n + 2 ^ 32 * at) (sym run.many));
      run_split = run.split;
    })
from_entry at word entry.Long main runs x taken read =
    let w = wide_taken constant.Long main runs x read in
    subst (ConstantTaken at (word ∷ main) runs) w.4 (record {
      fits = w.3;
      main_split = ap (λ m. word ∷ m) w.2 ∙ ap (λ k. k ∷ w.0 ∷ w.1) (sym taken.word_is);
      run_split = refl;
    })
from_entry at word entry.Double main runs x taken read =
    let w = wide_taken constant.Double main runs x read in
    subst (ConstantTaken at (word ∷ main) runs) w.4 (record {
      fits = w.3;
      main_split = ap (λ m. word ∷ m) w.2 ∙ ap (λ k. k ∷ w.0 ∷ w.1) (sym taken.word_is);
      run_split = refl;
    })
from_entry at word (entry.Whole c) main runs x taken read =
    let plain = taken.fits in
    subst (ConstantTaken at (word ∷ main) runs) (some_same (c, main, runs) x read) (record {
      fits = plain.fits;
      main_split = rw (plain.word at, taken.word_is) refl;
      run_split = rw plain.no_run refl;
    })

pub constant_taken : (total : ℕ) (main runs : List ℕ) (x : ClassConstant × List ℕ × List ℕ)
    → constant_at total main runs ≡ Some x → ConstantTaken (total - length runs) main runs x
unfolding constant_at
constant_taken total [] runs x e = absurd (cc)
constant_taken total (word ∷ main) runs x e =
    let one = bind_some (entry_of (total - length runs) word) _ x e in
    from_entry (total - length runs) word one.0 main runs x
    (entry_taken (total - length runs) word one.0 one.1) one.2

pub record SlotsTaken (at : ℕ) (second : Bool) (n : ℕ) (main runs : List ℕ)
    (x : List Slot × List ℕ × List ℕ) : Type 0 where
  pub fits : SlotsFit second x.0
  pub many : length x.0 ≡ n
  pub main_split : main ≡ directory at x.0 ++ x.1
  pub run_split : runs ≡ utf8_runs x.0 ++ x.2

pub slots_taken : (total at : ℕ) (second : Bool) (n : ℕ) (main runs : List ℕ) (x : List Slot
    × List ℕ × List ℕ) → at + length runs ≡ total → slots_at total second n main runs ≡ Some x
    → SlotsTaken at second n main runs x
unfolding slots_at
slots_taken total at true zero main runs x place e = absurd (cc)
slots_taken total at false zero main runs x place e =
    subst (SlotsTaken at false zero main runs) (some_same ([], main, runs) x e)
    (record { fits = tt; many = refl; main_split = refl; run_split = refl })
slots_taken total at true (suc n) main runs x place e =
    let others = bind_some (slots_at total false n main runs) _ x e in
    let rest = slots_taken total at false n main runs others.0 place others.1 in
    subst (SlotsTaken at true (suc n) main runs)
    (some_same (Unusable ∷ others.0.0, others.0.1, others.0.2) x others.2) (record {
      fits = rest.fits;
      many = ap suc rest.many;
      main_split = rest.main_split;
      run_split = rest.run_split;
    })
slots_taken total at false (suc n) main runs x place e =
    let one = bind_some (constant_at total main runs) _ x e in
    let c = one.0.0 in
    let others = bind_some (slots_at total (is_wide c) n one.0.1 one.0.2) _ x one.2 in
    let here : total - length runs ≡ at = omega arith in
    let taken : ConstantTaken at main runs one.0 = subst
    (λ (k : ℕ). ConstantTaken k main runs one.0) here
    (constant_taken total main runs one.0 one.1) in
    let next = at + length (constant_run c) in
    let rest =
    slots_taken total next (is_wide c) n one.0.1 one.0.2 others.0
    (omega (arith, place, ap length taken.run_split, length-append (constant_run c) one.0.2))
    others.1 in
    subst (SlotsTaken at false (suc n) main runs)
    (some_same (Usable c ∷ others.0.0, others.0.1, others.0.2) x others.2) (record {
      fits = (taken.fits, rest.fits);
      many = ap suc rest.many;
      main_split = taken.main_split ∙ (ap
          (λ w. constant_words at c ++ w) rest.main_split
          ∙ sym (append_assoc (constant_words at c) (directory next others.0.0) others.0.1));
      run_split = taken.run_split ∙ (ap
          (λ w. constant_run c ++ w) rest.run_split
          ∙ sym (append_assoc (constant_run c) (utf8_runs others.0.0) others.0.2));
    })

-- ---- interfaces, attributes and members

pub record InterfacesTaken (n : ℕ) (main : List ℕ) (x : List ℕ × List ℕ) : Type 0 where
  pub fits : AllByRecursion IsU2 x.0
  pub many : length x.0 ≡ n
  pub split : main ≡ x.0 ++ x.1

pub interfaces_taken : (n : ℕ) (main : List ℕ) (x : List ℕ × List ℕ)
    → interfaces_from n main ≡ Some x → InterfacesTaken n main x
unfolding interfaces_from
interfaces_taken zero main x e =
    subst (InterfacesTaken zero main) (some_same ([], main) x e)
    (record { fits = tt; many = refl; split = refl })
interfaces_taken (suc n) [] x e = absurd (cc)
interfaces_taken (suc n) (word ∷ main) x e =
    let tested = only_if_some (nat_lt word (2 ^ 16)) _ x e in
    let others = bind_some (interfaces_from n main) _ x tested.1 in
    let rest = interfaces_taken n main others.0 others.1 in
    subst (InterfacesTaken (suc n) (word ∷ main))
    (some_same (word ∷ others.0.0, others.0.1) x others.2) (record {
      fits = (ltb-true word (2 ^ 16) tested.0, rest.fits);
      many = ap suc rest.many;
      split = ap (λ w. word ∷ w) rest.split;
    })

pub record AttributesTaken (at n : ℕ) (attrs runs : List ℕ) (x : List Attribute × List ℕ
    × List ℕ) : Type 0 where
  pub fits : AllByRecursion AttributeFits x.0
  pub many : length x.0 ≡ n
  pub split : attrs ≡ attributes at x.0 ++ x.1
  pub run_split : runs ≡ attribute_runs x.0 ++ x.2

record AttributeTaken (at : ℕ) (attrs runs : List ℕ)
    (x : Attribute × List ℕ × List ℕ) : Type 0 where
  pub fits : AttributeFits x.0
  pub split : attrs ≡ (x.0.name + 2 ^ 32 * length x.0.bytes) ∷ at ∷ x.1
  pub run_split : runs ≡ attribute_run x.0 ++ x.2

attribute_taken : (total : ℕ) (attrs runs : List ℕ) (x : Attribute × List ℕ × List ℕ)
    → attribute_at total attrs runs ≡ Some x → AttributeTaken (total - length runs) attrs runs x
unfolding attribute_at
attribute_taken total [] runs x e = absurd (cc)
attribute_taken total (word ∷ []) runs x e = absurd (cc)
attribute_taken total (word ∷ at ∷ rest) runs x e =
    let name : first_of word < 2 ^ 16 = omega arith in
    let count : upper_of word < 2 ^ 32 = omega arith in
    let tested = only_if_some (attribute_word (first_of word) (upper_of word) == word) _ x e in
    let placed = only_if_some (at == total - length runs) _ x tested.1 in
    let one = bind_some (run_at (upper_of word) runs) _ x placed.1 in
    let run = run_taken (upper_of word) runs one.0 one.1 in
    let made : Attribute = record { name = first_of word; bytes = one.0.0 } in
    let same : attribute_word (first_of word) (upper_of word) ≡ word =
    eqb-true (attribute_word (first_of word) (upper_of word)) word tested.0 in
    let here : at ≡ total - length runs = eqb-true at (total - length runs) placed.0 in
    subst (AttributeTaken (total - length runs) (word ∷ at ∷ rest) runs)
    (some_same (made, rest, one.0.1) x one.2) (record {
      fits = record { name = name; size = omega (arith, run.many, count); bytes = run.fits };
      split = ap (λ w. w ∷ at ∷ rest) (sym same ∙ ap
          (λ n. first_of word + 2 ^ 32 * n) (sym run.many)) ∙ ap
          (λ k. (first_of word + 2 ^ 32 * length one.0.0) ∷ k ∷ rest) here;
      run_split = run.split;
    })

pub attributes_taken : (total at n : ℕ) (attrs runs : List ℕ) (x : List Attribute × List ℕ
    × List ℕ) → at + length runs ≡ total → attributes_from total n attrs runs ≡ Some x
    → AttributesTaken at n attrs runs x
unfolding attributes_from
attributes_taken total at zero attrs runs x place e =
    subst (AttributesTaken at zero attrs runs) (some_same ([], attrs, runs) x e)
    (record { fits = tt; many = refl; split = refl; run_split = refl })
attributes_taken total at (suc n) attrs runs x place e =
    let one = bind_some (attribute_at total attrs runs) _ x e in
    let a = one.0.0 in
    let others = bind_some (attributes_from total n one.0.1 one.0.2) _ x one.2 in
    let here : total - length runs ≡ at = omega arith in
    let taken : AttributeTaken at attrs runs one.0 = subst
    (λ (k : ℕ). AttributeTaken k attrs runs one.0) here
    (attribute_taken total attrs runs one.0 one.1) in
    let next = at + length (attribute_run a) in
    let rest =
    attributes_taken total next n one.0.1 one.0.2 others.0
    (omega (arith, place, ap length taken.run_split, length-append (attribute_run a) one.0.2))
    others.1 in
    subst (AttributesTaken at (suc n) attrs runs)
    (some_same (a ∷ others.0.0, others.0.1, others.0.2) x others.2) (record {
      fits = (taken.fits, rest.fits);
      many = ap suc rest.many;
      split = taken.split ∙ ap (λ w. (a.name + 2 ^ 32 * length a.bytes) ∷ at ∷ w) rest.split;
      run_split = taken.run_split ∙ (ap
          (λ w. attribute_run a ++ w) rest.run_split
          ∙ sym (append_assoc (attribute_run a) (attribute_runs others.0.0) others.0.2));
    })

-- where the attributes and the runs of the next member begin
next_places : (total at run_at : ℕ) (attrs runs : List ℕ) (own : List Attribute)
    (attrs' runs' : List ℕ) → at + length attrs ≡ total → run_at + length runs ≡ total
    → attrs ≡ attributes run_at own ++ attrs' → runs ≡ attribute_runs own ++ runs'
    → (at + 2 * length own + length attrs' ≡ total)
    × (run_at + length (attribute_runs own) + length runs' ≡ total)
next_places total at run_at attrs runs own attrs' runs' place run_place split run_split = (
  omega (
    arith,
    place,
    ap length split,
    length-append (attributes run_at own) attrs',
    attributes_len run_at own,
  ),
  omega (arith, run_place, ap length run_split, length-append (attribute_runs own) runs'),
)

record MemberTaken (at run_at : ℕ) (main attrs runs : List ℕ) (x : Member × List ℕ × List ℕ
    × List ℕ) : Type 0 where
  pub fits : MemberFits x.0
  pub main_split : main ≡ four_numbers x.0.flags x.0.name x.0.descriptor
      (length x.0.attributes) ∷ at ∷ x.1
  pub split : attrs ≡ attributes run_at x.0.attributes ++ x.2
  pub run_split : runs ≡ attribute_runs x.0.attributes ++ x.3

member_taken : (total run_at : ℕ) (main attrs runs : List ℕ) (x : Member × List ℕ × List ℕ
    × List ℕ) → run_at + length runs ≡ total → member_at total main attrs runs ≡ Some x
    → MemberTaken (total - length attrs) run_at main attrs runs x
unfolding member_at
member_taken total run_at [] attrs runs x place e = absurd (cc)
member_taken total run_at (word ∷ []) attrs runs x place e = absurd (cc)
member_taken total run_at (word ∷ at ∷ main) attrs runs x place e =
    let parts = four_numbers (first_of word) (second_of word) (third_of word) (fourth_of word) in
    let flags : first_of word < 2 ^ 16 = omega arith in
    let name : second_of word < 2 ^ 16 = omega arith in
    let descriptor : third_of word < 2 ^ 16 = omega arith in
    let many : fourth_of word < 2 ^ 16 = omega arith in
    let tested = only_if_some (parts == word) _ x e in
    let placed = only_if_some (at == total - length attrs) _ x tested.1 in
    let own = bind_some (attributes_from total (fourth_of word) attrs runs) _ x placed.1 in
    let taken = attributes_taken total run_at (fourth_of word) attrs runs own.0 place own.1 in
    let same : parts ≡ word = eqb-true parts word tested.0 in
    let here : at ≡ total - length attrs = eqb-true at (total - length attrs) placed.0 in
    let made : Member =
    record {
      flags = first_of word;
      name = second_of word;
      descriptor = third_of word;
      attributes = own.0.0;
    } in
    subst (MemberTaken (total - length attrs) run_at (word ∷ at ∷ main) attrs runs)
    (some_same (made, main, own.0.1, own.0.2) x own.2) (record {
      fits = record {
        flags = flags;
        name = name;
        descriptor = descriptor;
        attributes = (omega (arith, taken.many, many), taken.fits);
      };
      main_split = ap (λ w. w ∷ at ∷ main) (sym same ∙ ap
          (λ n. four_numbers (first_of word) (second_of word) (third_of word) n) (sym taken.many))
          ∙ ap (λ k. four_numbers (first_of word) (second_of word) (third_of word) (length own.0.0)
          ∷ k ∷ main) here;
      split = taken.split;
      run_split = taken.run_split;
    })

pub record MembersTaken (at run_at n : ℕ) (main attrs runs : List ℕ) (x : List Member × List ℕ
    × List ℕ × List ℕ) : Type 0 where
  pub fits : AllByRecursion MemberFits x.0
  pub many : length x.0 ≡ n
  pub main_split : main ≡ members at x.0 ++ x.1
  pub split : attrs ≡ attributes run_at (member_attributes x.0) ++ x.2
  pub run_split : runs ≡ attribute_runs (member_attributes x.0) ++ x.3

pub members_taken : (total at run_at n : ℕ) (main attrs runs : List ℕ) (x : List Member × List ℕ
    × List ℕ × List ℕ) → at + length attrs ≡ total → run_at + length runs ≡ total
    → members_from total n main attrs runs ≡ Some x → MembersTaken at run_at n main attrs runs x
unfolding members_from
members_taken total at run_at zero main attrs runs x place run_place e =
    subst (MembersTaken at run_at zero main attrs runs) (some_same ([], main, attrs, runs) x e)
    (record { fits = tt; many = refl; main_split = refl; split = refl; run_split = refl })
members_taken total at run_at (suc n) main attrs runs x place run_place e =
    let one = bind_some (member_at total main attrs runs) _ x e in
    let m = one.0.0 in
    let own = m.attributes in
    let others = bind_some (members_from total n one.0.1 one.0.2 one.0.3) _ x one.2 in
    let here : total - length attrs ≡ at = omega arith in
    let taken : MemberTaken at run_at main attrs runs one.0 = subst
    (λ (k : ℕ). MemberTaken k run_at main attrs runs one.0) here
    (member_taken total run_at main attrs runs one.0 run_place one.1) in
    let next = at + 2 * length own in
    let run_next = run_at + length (attribute_runs own) in
    let size =
    next_places total at run_at attrs runs own one.0.2 one.0.3 place run_place taken.split
    taken.run_split in
    let rest =
    members_taken total next run_next n one.0.1 one.0.2 one.0.3 others.0 size.0 size.1 others.1 in
    let these = others.0.0 in
    subst (MembersTaken at run_at (suc n) main attrs runs)
    (some_same (m ∷ these, others.0.1, others.0.2, others.0.3) x others.2) (record {
      fits = (taken.fits, rest.fits);
      many = ap suc rest.many;
      main_split = taken.main_split ∙ ap
          (λ w. four_numbers m.flags m.name m.descriptor (length own) ∷ at ∷ w) rest.main_split;
      split = taken.split ∙ (ap
          (λ w. attributes run_at own ++ w) rest.split
          ∙ (sym (append_assoc (attributes run_at own)
          (attributes run_next (member_attributes these)) others.0.2)
          ∙ ap (λ w. w ++ others.0.2)
          (sym (attributes_append run_at own (member_attributes these)))));
      run_split = taken.run_split ∙ (ap
          (λ w. attribute_runs own ++ w) rest.run_split
          ∙ (sym (append_assoc (attribute_runs own) (attribute_runs (member_attributes these))
          others.0.3)
          ∙ ap (λ w. w ++ others.0.3) (sym (attribute_runs_append own (member_attributes these)))));
    })
