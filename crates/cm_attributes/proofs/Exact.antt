-- Readers that skip exactly what satisfies a condition, and how readers in sequence keep this.
-- For `content_is_its_parts`, `value_is_its_part`.
use Rattle.std.proofs.Common.{◌≡◌, ℕ, zero, suc, ◌+◌, ◌*◌, ◌<◌, Bool, true, false, cond, List, []}
use Rattle.std.proofs.Common.{◌∷◌, ◌++◌, length, Option, Some, None, refl, sym, ap, subst, ◌∙◌}
use Rattle.std.proofs.Common.{append_assoc, arith}
use Rattle.std.specs.Prelude.{if◌then◌else◌}
use Rattle.std.specs.List.{flat_map, AllByRecursion}
use Rattle.std.proofs.lemmas.Bool.{eqb-true}
use Rattle.std.proofs.lemmas.List.{append-nil}
use Rattle.std.proofs.lemmas.Nat.{be_bytes_2, be_bytes_4}
use Rattle.cm_class.specs.Spelling.{u2, u4, IsU2, IsU4, AreBytes}
use Rattle.cm_class.specs.declared.class_file.ClassFile.{ClassFile}
use Rattle.cm_class.proofs.{AreBytes-at, AreBytes-rest}
use Rattle.cm_attributes.specs.declared.part.Part.{Part}
use Rattle.cm_attributes.specs.Contents.{◌>>=◌, u2_of, u4_of, is_whole, passes, past_part}
use Rattle.cm_attributes.specs.Contents.{past_parts, past_many, past_counted}
use Rattle.cm_attributes.specs.Parts.{Pass, IsRow, AreCounted}

-- the bytes begin with what satisfies the condition, and these are the bytes after it
pub record Begins (IsOne : List ℕ → Type 0) (bytes rest : List ℕ) : Type 0 where
  pub front : List ℕ
  pub is : IsOne front
  pub parts : bytes ≡ front ++ rest

pub record Exact (read : List ℕ → Option (List ℕ)) (IsOne : List ℕ → Type 0) : Type 0 where
  pub found : (bytes rest : List ℕ) → AreBytes bytes → read bytes ≡ Some rest
      → Begins IsOne bytes rest
  pub again : (front rest : List ℕ) → IsOne front → read (front ++ rest) ≡ Some rest

-- ---- one step after another

pub record Bound {A B : Type 0} (o : Option A) (f : A → Option B) (y : B) : Type 0 where
  pub value : A
  pub first : o ≡ Some value
  pub next : f value ≡ Some y

pub bound : {A B : Type 0} (o : Option A) (f : A → Option B) (y : B) → (o >>= f) ≡ Some y
    → Bound o f y
bound None f y e = absurd cc
bound (Some x) f y e = record { value = x; first = refl; next = e }

pub tested : {A : Type 0} (b : Bool) (x y : A) → cond b (Some x) None ≡ Some y
    → (b ≡ true) × (x ≡ y)
tested true x y e = (refl, cc)
tested false x y e = absurd cc

pub are_rest : (bytes front rest : List ℕ) → AreBytes bytes → bytes ≡ front ++ rest → AreBytes rest
are_rest bytes front rest are parts = AreBytes-rest front rest (subst AreBytes parts are)

-- one part after another
pub record Both (P Q : List ℕ → Type 0) (bytes : List ℕ) : Type 0 where
  pub first : List ℕ
  pub second : List ℕ
  pub is_first : P first
  pub is_second : Q second
  pub spelled : bytes ≡ first ++ second

module _ (r q : List ℕ → Option (List ℕ)) (P Q : List ℕ → Type 0) (one : Exact r P)
    (two : Exact q Q) where
  both_found : (bytes rest : List ℕ) → AreBytes bytes → (r bytes >>= λ more. q more) ≡ Some rest
      → Begins (Both P Q) bytes rest
  both_found bytes rest are e =
      let b : Bound (r bytes) (λ more. q more) rest = bound (r bytes) (λ more. q more) rest e in
      let f : Begins P bytes b.value = one.found bytes b.value are b.first in
      let s : Begins Q b.value rest =
      two.found b.value rest (are_rest bytes f.front b.value are f.parts) b.next in
      record {
        front = f.front ++ s.front;
        is = record {
          first =
              f.front;
          second = s.front;
          is_first = f.is;
          is_second = s.is;
          spelled = refl;
        };
        parts = f.parts ∙ ap (λ (x : List ℕ). f.front ++ x) s.parts ∙ sym
            (append_assoc f.front s.front rest);
      }

  both_again : (front rest : List ℕ) → Both P Q front
      → (r (front ++ rest) >>= λ more. q more) ≡ Some rest
  both_again front rest h =
      let regrouped : front ++ rest ≡ h.first ++ (h.second ++ rest) =
      ap (λ (x : List ℕ). x ++ rest) h.spelled ∙ append_assoc h.first h.second rest in
      ap (λ (x : List ℕ). r x >>= λ more. q more) regrouped
      ∙ ap (λ (o : Option (List ℕ)). o >>= λ more. q more)
      (one.again h.first (h.second ++ rest) h.is_first) ∙ two.again h.second rest h.is_second

  pub exact_both : Exact (λ bytes. r bytes >>= λ more. q more) (Both P Q)
  exact_both = record { found = both_found; again = both_again }

-- the same for an equivalent condition
pub exact_as : (r : List ℕ → Option (List ℕ)) (P Q : List ℕ → Type 0) → Exact r P
    → ((l : List ℕ) → P l → Q l) → ((l : List ℕ) → Q l → P l) → Exact r Q
exact_as r P Q one there back = record {
  found = λ bytes rest are e. let f : Begins P bytes rest =
      one.found bytes rest are e in
      record { front = f.front; is = there f.front f.is; parts = f.parts };
  again = λ front rest h. one.again front rest (back front h);
}

-- ---- all of the bytes

nothing_left : (rest : List ℕ) → is_whole (Some rest) ≡ true → rest ≡ []
nothing_left [] e = refl
nothing_left (x ∷ rest) e = absurd (omega (arith, eqb-true (length (x ∷ rest)) 0 e))

record Read (o : Option (List ℕ)) : Type 0 where
  rest : List ℕ
  is : o ≡ Some rest
  none : rest ≡ []

whole_read : (o : Option (List ℕ)) → is_whole o ≡ true → Read o
whole_read None e = absurd cc
whole_read (Some rest) e = record { rest = rest; is = refl; none = nothing_left rest e }

module _ (r : List ℕ → Option (List ℕ)) (P : List ℕ → Type 0) (one : Exact r P) where
  pub whole_found : (bytes : List ℕ) → AreBytes bytes → is_whole (r bytes) ≡ true → P bytes
  whole_found bytes are e =
      let w : Read (r bytes) = whole_read (r bytes) e in
      let f : Begins P bytes w.rest = one.found bytes w.rest are w.is in
      let same : f.front ≡ bytes =
      sym (append-nil f.front) ∙ ap (λ (x : List ℕ). f.front ++ x) (sym w.none) ∙ sym f.parts in
      subst P same f.is

  pub whole_again : (bytes : List ℕ) → P bytes → is_whole (r bytes) ≡ true
  whole_again bytes h =
      ap (λ (x : List ℕ). is_whole (r x)) (sym (append-nil bytes)) ∙ ap is_whole
      (one.again bytes [] h)

-- ---- numbers

pub u2_found : (bytes : List ℕ) (x : ℕ × List ℕ) → AreBytes bytes → u2_of bytes ≡ Some x
    → IsU2 x.0 × (bytes ≡ u2 x.0 ++ x.1)
u2_found [] x are e = absurd cc
u2_found (a ∷ []) x are e = absurd cc
u2_found (a ∷ b ∷ rest) x are e =
    let same : (256 * a + b, rest) ≡ x = cc in
    let high : a < 256 = are.0 in
    let low : b < 256 = are.1.0 in
    let fits : IsU2 (256 * a + b) = omega arith in
    let spelled : u2 (256 * a + b) ≡ a ∷ b ∷ [] =
    be_bytes_2 (a ∷ b ∷ []) (256 * a + b) refl (AreBytes-at (a ∷ b ∷ []) (high, (low, tt)))
    (omega arith) in
    subst (λ (y : ℕ × List ℕ). IsU2 y.0 × (a ∷ b ∷ rest ≡ u2 y.0 ++ y.1)) same
    (fits, ap (λ (l : List ℕ). l ++ rest) (sym spelled))

pub u2_again : (n : ℕ) (rest : List ℕ) → IsU2 n → u2_of (u2 n ++ rest) ≡ Some (n, rest)
u2_again n rest fits = ap (λ (k : ℕ). Some (k, rest)) (omega arith)

pub u4_found : (bytes : List ℕ) (x : ℕ × List ℕ) → AreBytes bytes → u4_of bytes ≡ Some x
    → IsU4 x.0 × (bytes ≡ u4 x.0 ++ x.1)
u4_found [] x are e = absurd cc
u4_found (a ∷ []) x are e = absurd cc
u4_found (a ∷ b ∷ []) x are e = absurd cc
u4_found (a ∷ b ∷ c ∷ []) x are e = absurd cc
u4_found (a ∷ b ∷ c ∷ d ∷ rest) x are e =
    let same : (256 * (256 * (256 * a + b) + c) + d, rest) ≡ x = cc in
    let first : a < 256 = are.0 in
    let second : b < 256 = are.1.0 in
    let third : c < 256 = are.1.1.0 in
    let fourth : d < 256 = are.1.1.1.0 in
    let fits : IsU4 (256 * (256 * (256 * a + b) + c) + d) = omega arith in
    let spelled : u4 (256 * (256 * (256 * a + b) + c) + d) ≡ a ∷ b ∷ c ∷ d ∷ [] =
    be_bytes_4 (a ∷ b ∷ c ∷ d ∷ []) (256 * (256 * (256 * a + b) + c) + d) refl
    (AreBytes-at (a ∷ b ∷ c ∷ d ∷ []) (first, (second, (third, (fourth, tt))))) (omega arith) in
    subst (λ (y : ℕ × List ℕ). IsU4 y.0 × (a ∷ b ∷ c ∷ d ∷ rest ≡ u4 y.0 ++ y.1)) same
    (fits, ap (λ (l : List ℕ). l ++ rest) (sym spelled))

pub u4_again : (n : ℕ) (rest : List ℕ) → IsU4 n → u4_of (u4 n ++ rest) ≡ Some (n, rest)
u4_again n rest fits = ap (λ (k : ℕ). Some (k, rest)) (omega arith)

-- ---- rows

record IsNumber (c : ClassFile) (part : Part) (bytes : List ℕ) : Type 0 where
  number : ℕ
  fits : IsU2 number
  pass : passes c part number ≡ true
  spelled : bytes ≡ u2 number

exact_part : (c : ClassFile) (part : Part) → Exact (past_part c part) (IsNumber c part)
exact_part c part = record {
  found = λ bytes rest are e.
      let test : ℕ × List ℕ → Option (List ℕ) = λ n. if passes c part n.0 then Some n.1 else None in
      let b : Bound (u2_of bytes) test rest = bound (u2_of bytes) test rest e in
      let n = u2_found bytes b.value are b.first in
      let t = tested (passes c part b.value.0) b.value.1 rest b.next in
      record {
        front =
            u2 b.value.0;
        is =
            record { number = b.value.0; fits = n.0; pass = t.0; spelled = refl };
        parts =
            n.1 ∙ ap (λ (x : List ℕ). u2 b.value.0 ++ x) t.1;
      };
  again = λ front rest h.
      let begin : front ++ rest ≡ u2 h.number ++ rest = ap (λ (x : List ℕ). x ++ rest) h.spelled in
      ap (past_part c part) begin
      ∙ ap (λ (o : Option (ℕ × List ℕ)). o >>= λ n. if passes c part n.0 then Some n.1 else None)
      (u2_again h.number rest h.fits)
      ∙ ap (λ (b : Bool). cond b (Some rest) None) h.pass;
}

no_numbers : (c : ClassFile) (numbers : List ℕ) → Pass c [] numbers → flat_map u2 numbers ≡ []
no_numbers c [] p = refl
no_numbers c (n ∷ numbers) p = absurd p

module _ (c : ClassFile) (part : Part) (parts : List Part) where
  row_there : (l : List ℕ) → Both (IsNumber c part) (IsRow c parts) l → IsRow c (part ∷ parts) l
  row_there l h = record {
    numbers = h.is_first.number ∷ h.is_second.numbers;
    pass = (h.is_first.fits, h.is_first.pass, h.is_second.pass);
    spelled = h.spelled ∙ ap (λ (x : List ℕ). x ++ h.second) h.is_first.spelled ∙ ap
        (λ (x : List ℕ). u2 h.is_first.number ++ x) h.is_second.spelled;
  }

  row_apart : (l numbers : List ℕ) → Pass c (part ∷ parts) numbers → l ≡ flat_map u2 numbers
      → Both (IsNumber c part) (IsRow c parts) l
  row_apart l [] p e = absurd p
  row_apart l (n ∷ numbers) p e = record {
    first = u2 n;
    second = flat_map u2 numbers;
    is_first = record { number = n; fits = p.0; pass = p.1; spelled = refl };
    is_second = record { numbers = numbers; pass = p.2; spelled = refl };
    spelled = e;
  }

pub exact_row : (c : ClassFile) (parts : List Part) → Exact (past_parts c parts) (IsRow c parts)
unfolding past_parts
exact_row c [] = record {
  found = λ bytes rest are e.
      record { front = []; is = record { numbers = []; pass = tt; spelled = refl }; parts = cc };
  again = λ front rest h.
      ap (λ (x : List ℕ). Some (x ++ rest)) (h.spelled ∙ no_numbers c h.numbers h.pass);
}
exact_row c (part ∷ parts) =
    exact_as (λ bytes. past_part c part bytes >>= λ more. past_parts c parts more)
    (Both (IsNumber c part) (IsRow c parts)) (IsRow c (part ∷ parts))
    (exact_both (past_part c part) (past_parts c parts) (IsNumber c part) (IsRow c parts)
    (exact_part c part) (exact_row c parts))
    (row_there c part parts) (λ l h. row_apart c part parts l h.numbers h.pass h.spelled)

-- ---- rows preceded by their count

record Many (IsOne : List ℕ → Type 0) (n : ℕ) (bytes : List ℕ) : Type 0 where
  rows : List (List ℕ)
  count : length rows ≡ n
  each : AllByRecursion IsOne rows
  spelled : bytes ≡ flat_map (λ row. row) rows

module _ (row : List ℕ → Option (List ℕ)) (IsOne : List ℕ → Type 0) (one : Exact row IsOne) where
  none_many : (l : List ℕ) (rows : List (List ℕ)) → length rows ≡ 0 → l ≡ flat_map (λ r. r) rows
      → l ≡ []
  none_many l [] count e = e
  none_many l (r ∷ rows) count e = absurd (omega arith)

  many_there : (n : ℕ) (l : List ℕ) → Both IsOne (Many IsOne n) l → Many IsOne (suc n) l
  many_there n l h = record {
    rows = h.first ∷ h.is_second.rows;
    count = ap (λ (k : ℕ). suc k) h.is_second.count;
    each = (h.is_first, h.is_second.each);
    spelled = h.spelled ∙ ap (λ (x : List ℕ). h.first ++ x) h.is_second.spelled;
  }

  many_apart : (n : ℕ) (l : List ℕ) (rows : List (List ℕ)) → length rows ≡ suc n
      → AllByRecursion IsOne rows → l ≡ flat_map (λ r. r) rows → Both IsOne (Many IsOne n) l
  many_apart n l [] count each e = absurd (omega arith)
  many_apart n l (r ∷ rows) count each e = record {
    first = r;
    second = flat_map (λ x. x) rows;
    is_first = each.0;
    is_second = record { rows = rows; count = omega arith; each = each.1; spelled = refl };
    spelled = e;
  }

  exact_many : (n : ℕ) → Exact (past_many row n) (Many IsOne n)
  unfolding past_many
  exact_many zero = record {
    found = λ bytes rest are e.
        record {
          front =
              [];
          is = record { rows = []; count = refl; each = tt; spelled = refl };
          parts = cc;
        };
    again = λ front rest h.
        ap (λ (x : List ℕ). Some (x ++ rest)) (none_many front h.rows h.count h.spelled);
  }
  exact_many (suc n) =
      exact_as (λ bytes. row bytes >>= λ more. past_many row n more) (Both IsOne (Many IsOne n))
      (Many IsOne (suc n))
      (exact_both row (past_many row n) IsOne (Many IsOne n) one (exact_many n)) (many_there n)
      (λ l h. many_apart n l h.rows h.count h.each h.spelled)

  pub exact_counted : Exact (past_counted row) (AreCounted IsOne)
  exact_counted = record {
    found = λ bytes rest are e.
        let b : Bound (u2_of bytes) (λ n. past_many row n.0 n.1) rest =
        bound (u2_of bytes) (λ n. past_many row n.0 n.1) rest e in
        let n = u2_found bytes b.value are b.first in
        let m : Begins (Many IsOne b.value.0) b.value.1 rest =
        (exact_many b.value.0).found b.value.1 rest
        (are_rest bytes (u2 b.value.0) b.value.1 are n.1) b.next in
        record {
          front = u2 b.value.0 ++ m.front;
          is = record {
            rows = m.is.rows;
            count = subst IsU2 (sym m.is.count) n.0;
            each = m.is.each;
            spelled = ap (λ (x : List ℕ). u2 b.value.0 ++ x) m.is.spelled ∙ ap
                (λ (k : ℕ). u2 k ++ flat_map (λ row. row) m.is.rows) (sym m.is.count);
          };
          parts = n.1 ∙ ap (λ (x : List ℕ). u2 b.value.0 ++ x) m.parts ∙ sym
              (append_assoc (u2 b.value.0) m.front rest);
        };
    again = λ front rest h.
        let begin : front ++ rest ≡ u2 (length h.rows) ++ (flat_map (λ row. row) h.rows ++ rest) =
        ap (λ (x : List ℕ). x ++ rest) h.spelled ∙ append_assoc (u2 (length h.rows))
        (flat_map (λ row. row) h.rows) rest in
        let many : past_many row (length h.rows) (flat_map (λ row. row) h.rows ++ rest)
        ≡ Some rest =
        (exact_many (length h.rows)).again (flat_map (λ row. row) h.rows) rest
        (record { rows = h.rows; count = refl; each = h.each; spelled = refl }) in
        ap (past_counted row) begin
        ∙ ap (λ (o : Option (ℕ × List ℕ)). o >>= λ n. past_many row n.0 n.1)
        (u2_again (length h.rows) (flat_map (λ row. row) h.rows ++ rest) h.count) ∙ many;
  }
