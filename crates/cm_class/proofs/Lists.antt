-- The readers of fixed bytes, of the pool's count and of counted lists.
-- For `each_input_has_one_answer`, `no_spelling_begins_another`, `one_class_for_one_spelling` and
-- others.
use Rattle.std.proofs.Common.{◌≡◌, ℕ, zero, suc, ◌+◌, ◌<◌, Bool, true, false, cond, eqb, eq-eqb}
use Rattle.std.proofs.Common.{ltb, List, [], ◌∷◌, ◌++◌, length, drop, Result, Ok, Err, refl, sym}
use Rattle.std.proofs.Common.{ap, subst, ◌∙◌, arith}
use Rattle.std.specs.List.{flat_map, AllByRecursion}
use Rattle.std.proofs.lemmas.Bool.{eqb-true, eqb-false}
use Rattle.std.proofs.lemmas.List.{length-append, nil_from_length}
use Rattle.std.proofs.Math.Dec.{eqb-suc-zero}
use Rattle.byteorder.specs.Endian.{big_number}
use Rattle.cm_class.specs.declared.stop.Stop.{Stop}
use Rattle.cm_class.specs.declared.stop.Stop.TheVariants.{Short, Bad, NoMemory}
use Rattle.cm_class.specs.Spelling.{u2, IsU2, AreBytes, counted, CountedFit}
use Rattle.cm_class.specs.Reading.{◌>>=◌, made_at, number_at, literal_at, expected_at, count_at}
use Rattle.cm_class.specs.Reading.{many_at, counted_at}
use Rattle.cm_class.proofs.Readers.{Read, Reads, Says, Parts, same_read, reads_then, reads_done}
use Rattle.cm_class.proofs.Readers.{reads_made, reads_as}
use Rattle.cm_class.proofs.Fields.{width2, u2_reads}

-- ---- fixed bytes

says_literal : (e b : ℕ) (bytes : List ℕ) (t : Bool) → eqb b e ≡ t
    → Says (λ _. e ∷ []) (λ _. Unit {0}) (b ∷ bytes)
    (cond {A = Read (Unit {0})} t (Ok (tt, bytes)) (Err (Bad (length bytes + 1))))
says_literal e b bytes true h = (tt, ap (λ (n : ℕ). n ∷ bytes) (eqb-true b e h))
says_literal e b bytes false h = record {
  front = [];
  at = b;
  rest = bytes;
  parts = refl;
  left_is = refl;
  value = tt;
  fits = tt;
  more = e ∷ [];
  begins = refl;
  stuck = λ v fits x y same. let heads : e ≡ b = cc in eqb-false b e h (sym heads);
}

literal_says : (e : ℕ) (bytes : List ℕ) → AreBytes bytes
    → Says (λ _. e ∷ []) (λ _. Unit {0}) bytes (literal_at e bytes)
literal_says e [] are = record { value = tt; fits = tt; next = e; more = []; parts = refl }
literal_says e (b ∷ bytes) are = says_literal e b bytes (eqb b e) refl

literal_reads : (e : ℕ) → Reads (literal_at e) (λ _. e ∷ []) (λ _. Unit {0})
literal_reads e = record {
  says = literal_says e;
  again = λ v fits rest. rw (eq-eqb e e refl) refl;
  some = tt;
  some_fits = tt;
}

pub expected_reads : (expected : List ℕ)
    → Reads (expected_at expected) (λ _. expected) (λ _. Unit {0})
unfolding expected_at
expected_reads [] = reads_done tt (λ _. Unit {0}) tt (λ v e. refl)
expected_reads (e ∷ expected) =
    reads_then (literal_at e) (λ _. e ∷ []) (λ _. Unit {0}) (λ _. expected_at expected)
    (λ _ _. expected) (λ _ _. Unit {0}) (λ _. e ∷ expected) (λ _. Unit {0})
    (literal_reads e) (λ a fits. expected_reads expected)
    (λ c fits. record { first = tt; first_fits = tt; rest_fits = tt; spelled = refl })
    (λ a c fits rest. (tt, refl))

-- ---- the pool's count

number_not_bad : (n : ℕ) (bytes : List ℕ) (left : ℕ) → number_at n bytes ≡ Err (Bad left) → ⊥
number_not_bad n bytes left e = by_test (ltb (length bytes) n) e
  where
    by_test : (t : Bool)
        → cond {A = Read ℕ} t (Err Short) (Ok (big_number n bytes, drop n bytes)) ≡ Err (Bad left)
        → ⊥
    by_test true e = absurd cc
    by_test false e = absurd cc

pub positive : (n : ℕ) → (n ≡ 0 → ⊥) → 0 < n
positive zero h = absurd (h refl)
positive (suc n) h = omega arith

nonzero_test : (n : ℕ) → 0 < n → eqb n 0 ≡ false
nonzero_test zero h = absurd (omega arith)
nonzero_test (suc n) h = eqb-suc-zero n

says_count : (bytes : List ℕ) → AreBytes bytes → (w : Read ℕ) → number_at 2 bytes ≡ w
    → Says u2 IsU2 bytes w
    → Says u2 (λ n. (0 < n) × IsU2 n) bytes
    (w >>= λ n. cond {A = Read ℕ} (eqb n.0 0) (Err (Bad (length n.1 + 1))) (Ok (n.0, n.1)))
says_count bytes are (Ok x) e h = by_test (eqb x.0 0) refl
  where
    by_test : (t : Bool) → eqb x.0 0 ≡ t
        → Says u2 (λ n. (0 < n) × IsU2 n) bytes
        (cond {A = Read ℕ} t (Err (Bad (length x.1 + 1))) (Ok (x.0, x.1)))
    by_test true z =
        let whole : bytes ≡ 0 ∷ 0 ∷ x.1 = h.1 ∙ ap (λ (n : ℕ). u2 n ++ x.1) (eqb-true x.0 0 z) in
        record {
          front = 0 ∷ [];
          at = 0;
          rest = x.1;
          parts = whole;
          left_is = refl;
          value = 1;
          fits = (omega arith, omega arith);
          more = 1 ∷ [];
          begins = refl;
          stuck = λ v fits a b same.
              let zero_is : v ≡ 0 =
              ap (λ (q : ℕ × List ℕ). q.0)
              (same_read (v, a) (0, b) (number_at 2 (0 ∷ 0 ∷ b))
              (ap (number_at 2) (sym same) ∙ u2_reads.again v fits.1 a)
              (u2_reads.again 0 (omega arith) b)) in
              omega (arith, fits.0);
        }
    by_test false z =
        let nonzero : 0 < x.0 = positive x.0 (eqb-false x.0 0 z) in
        ((nonzero, h.0), h.1)
says_count bytes are (Err (Bad left)) e h = absurd (number_not_bad 2 bytes left e)
says_count bytes are (Err NoMemory) e h = h
says_count [] are (Err Short) e h =
    record { value = 1; fits = (omega arith, omega arith); next = 0; more = 1 ∷ []; parts = refl }
says_count (b ∷ []) are (Err Short) e h =
    let bytes : List ℕ = b ∷ 1 ∷ [] in
    record {
      value =
          big_number 2 bytes;
      fits =
          (omega arith, omega (arith, are.0));
      next =
          1;
      more = [];
      parts = width2 bytes refl (are.0, (omega arith, tt));
    }
says_count (b ∷ c ∷ bytes) are (Err Short) e h =
    absurd (omega (arith, ap length h.parts, length-append bytes (h.next ∷ h.more)))

pub count_reads : Reads count_at u2 (λ n. (0 < n) × IsU2 n)
unfolding count_at
count_reads = record {
  says = λ bytes are. says_count bytes are (number_at 2 bytes) refl (u2_reads.says bytes are);
  again = λ v fits rest. let test : eqb v 0 ≡ false =
      nonzero_test v fits.0 in rw (u2_reads.again v fits.1 rest, test) refl;
  some = 1;
  some_fits = (omega arith, omega arith);
}

-- ---- lists

abbrev pub rest_of : {A : Type 0} → List A → List A
rest_of [] = []
rest_of (a ∷ rest) = rest

module _ {A : Type 0} (r : List ℕ → Result (A × List ℕ) Stop) (s : A → List ℕ) (F : A → Type 0)
    (one : Reads r s F) where
  many_parts : (n : ℕ) (vs : List A) → (length vs ≡ suc n) × AllByRecursion F vs
      → Parts s F (λ a vs. flat_map s (rest_of vs))
      (λ a vs. (rest : List A) × (a ∷ rest ≡ vs) × (length rest ≡ n) × AllByRecursion F rest)
      (flat_map s) vs
  many_parts n [] fits = absurd (omega (arith, fits.0))
  many_parts n (a ∷ rest) fits =
      record {
        first =
            a;
        first_fits =
            fits.1.0;
        rest_fits = (rest, refl, omega (arith, fits.0), fits.1.1);
        spelled = refl;
      }

  pub many_reads : (n : ℕ)
      → Reads (many_at r n) (flat_map s) (λ vs. (length vs ≡ n) × AllByRecursion F vs)
  unfolding many_at
  many_reads zero =
      reads_as (λ bytes. Ok ([], bytes)) (λ _. []) (λ (vs : List A). [] ≡ vs) (flat_map s)
      (λ vs. (length vs ≡ 0) × AllByRecursion F vs)
      (reads_done [] (λ vs. [] ≡ vs) refl (λ v e. e))
      (λ vs fits. sym (nil_from_length vs fits.0))
      (λ vs e. subst (λ (v : List A). ((length v ≡ 0) × AllByRecursion F v) × (flat_map s v ≡ [])) e
      ((refl, tt), refl))
  many_reads (suc n) =
      reads_then r s F (λ a. made_at (λ others. a ∷ others) (many_at r n))
      (λ a vs. flat_map s (rest_of vs))
      (λ a vs. (rest : List A) × (a ∷ rest ≡ vs) × (length rest ≡ n) × AllByRecursion F rest)
      (flat_map s) (λ vs. (length vs ≡ suc n) × AllByRecursion F vs) one
      (λ a fa. reads_made (many_at r n) (flat_map s) (λ vs. (length vs ≡ n) × AllByRecursion F vs)
      (λ others. a ∷ others)
      (λ vs. flat_map s (rest_of vs))
      (λ vs. (rest : List A) × (a ∷ rest ≡ vs) × (length rest ≡ n) × AllByRecursion F rest)
      (many_reads n)
      (λ vs fits. (fits.0, (fits.2, fits.3), fits.1))
      (λ others fits. ((others, refl, fits.0, fits.1), refl)))
      (many_parts n)
      (λ a vs fa rest.
      subst (λ (v : List A). ((length v ≡ suc n) × AllByRecursion F v)
      × (flat_map s v ≡ s a ++ flat_map s (rest_of v))) rest.1
      ((ap suc rest.2, (fa, rest.3)), refl))

  pub counted_reads : Reads (counted_at r) (counted s) (CountedFit F)
  unfolding counted_at
  counted_reads =
      reads_then (number_at 2) u2 IsU2 (many_at r) (λ n vs. flat_map s vs)
      (λ n vs. (length vs ≡ n) × AllByRecursion F vs) (counted s) (CountedFit F) u2_reads
      (λ n fits. many_reads n)
      (λ vs fits. record {
        first =
            length vs;
        first_fits = fits.0;
        rest_fits = (refl, fits.1);
        spelled = refl;
      })
      (λ n vs fits rest.
      ((subst IsU2 (sym rest.0) fits, rest.1), ap (λ (k : ℕ). u2 k ++ flat_map s vs) rest.0))
