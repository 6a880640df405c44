-- Members that are told apart by their marks.
-- For `is_apart`, `no_twins`.
use Rattle.std.proofs.Common.{◌≡◌, ℕ, zero, suc, ◌+◌, ◌∷◌, Bool, true, false, not, List, [], ◌++◌}
use Rattle.std.proofs.Common.{map, take, drop, refl, sym, ap, ◌∙◌, add-one}
use Rattle.std.specs.Prelude.{◌==◌, bytes_eq}
use Rattle.std.specs.List.{list_all, list_any}
use Rattle.std.proofs.lemmas.Bool.{eq-eqb}
use Rattle.std.proofs.lemmas.Slice.Eq.{bytes_eq-Decides}
use Rattle.cm_class.specs.declared.class_file.ClassFile.{ClassFile}
use Rattle.cm_class.specs.declared.class_file.Member.{Member}
use Rattle.cm_class.specs.Names.{utf8}
use Rattle.cm_duplicates.specs.Duplicates.{same_member, is_first}
use Rattle.cm_record_rules.specs.Marked.{mark_of, member_mark}
use Rattle.cm_rules.proofs.{left, right}

module _ (c : ClassFile) (m : Member) where
  -- the same members have the same mark
  same_mark : (n : Member) → same_member c m n ≡ true → (member_mark c n == member_mark c m) ≡ true
  same_mark n same =
      let name_eq = left (bytes_eq (utf8 c m.name) (utf8 c n.name))
      (bytes_eq (utf8 c m.descriptor) (utf8 c n.descriptor)) same in
      let descriptor_eq = right (bytes_eq (utf8 c m.name) (utf8 c n.name))
      (bytes_eq (utf8 c m.descriptor) (utf8 c n.descriptor)) same in
      let name : utf8 c m.name ≡ utf8 c n.name =
      (bytes_eq-Decides (utf8 c m.name) (utf8 c n.name)).0 name_eq in
      let descriptor : utf8 c m.descriptor ≡ utf8 c n.descriptor =
      (bytes_eq-Decides (utf8 c m.descriptor) (utf8 c n.descriptor)).0 descriptor_eq in
      eq-eqb (member_mark c n) (member_mark c m) (sym (λ i. mark_of (name i) (descriptor i)))

  by_mark : (same told : Bool) → (same ≡ true → told ≡ true) → not told ≡ true → same ≡ false
  by_mark false told h new = refl
  by_mark true told h new = absurd (no told (h refl) new)
    where
      no : (b : Bool) → b ≡ true → not b ≡ true → ⊥
      no true e f = absurd cc
      no false e f = absurd cc

  none_same : (others : List Member)
      → list_all (λ k. not (k == member_mark c m)) (map (member_mark c) others) ≡ true
      → list_any (same_member c m) others ≡ false
  none_same [] h = refl
  none_same (n ∷ others) h =
      let here = left (not (member_mark c n == member_mark c m))
      (list_all (λ k. not (k == member_mark c m)) (map (member_mark c) others)) h in
      let there = right (not (member_mark c n == member_mark c m))
      (list_all (λ k. not (k == member_mark c m)) (map (member_mark c) others)) h in
      let other : same_member c m n ≡ false =
      by_mark (same_member c m n) (member_mark c n == member_mark c m) (same_mark n) here in
      rw other (none_same others there)

-- a member whose mark is new is the first of its name and descriptor
pub new_is_first : (c : ClassFile) (all : List Member) (place : ℕ) (m : Member) (marks : List ℕ)
    (mark : ℕ) → marks ≡ map (member_mark c) (take place all) → mark ≡ member_mark c m
    → list_all (λ other. not (other == mark)) marks ≡ true
    → is_first c all place m ≡ true
new_is_first c all place m marks mark are is new =
    ap not (none_same c m (take place all)
    (sym (λ i. list_all (λ other. not (other == is i)) (are i)) ∙ new))

-- the marks of one more member
one_more : (c : ClassFile) (all rest : List Member) (place : ℕ) (m : Member)
    → drop place all ≡ m ∷ rest
    → map (member_mark c) (take place all) ++ member_mark c m ∷ []
    ≡ map (member_mark c) (take (suc place) all)
one_more c [] rest zero m there = absurd cc
one_more c [] rest (suc place) m there = absurd cc
one_more c (x ∷ all) rest zero m there =
    let same : x ≡ m = cc in
    ap (λ n. member_mark c n ∷ []) (sym same)
one_more c (x ∷ all) rest (suc place) m there =
    ap (λ l. member_mark c x ∷ l) (one_more c all rest place m there)

pub marked_more : (c : ClassFile) (all rest : List Member) (place : ℕ) (m : Member)
    (marks more : List ℕ) (mark : ℕ) → drop place all ≡ m ∷ rest
    → marks ≡ map (member_mark c) (take place all) → mark ≡ member_mark c m
    → more ≡ marks ++ mark ∷ [] → more ≡ map (member_mark c) (take (place + 1) all)
marked_more c all rest place m marks more mark there are is new =
    new ∙ ((λ i. are i ++ is i ∷ [])
    ∙ (one_more c all rest place m there
    ∙ ap (λ k. map (member_mark c) (take k all)) (sym (add-one place))))
