-- From what the reader of a class file says to what holds for all the bytes.
-- For `each_input_has_one_answer`, `no_spelling_begins_another`, `one_class_for_one_spelling` and
-- others.
use Rattle.std.proofs.Common.{◌≡◌, ◌⊎◌, inl, inr, ⊎_elim, ℕ, zero, suc, ◌-◌, ◌+◌, ◌≤◌, ◌<◌, Bool}
use Rattle.std.proofs.Common.{true, false, cond, eqb, List, [], ◌∷◌, ◌++◌, length, take, Result, Ok}
use Rattle.std.proofs.Common.{Err, refl, sym, ap, subst, ◌∙◌, append_assoc, arith}
use Rattle.std.specs.Prelude.{IfOk, IfErr}
use Rattle.std.proofs.lemmas.Bool.{eqb-true, eqb-false, cases_lt}
use Rattle.std.proofs.lemmas.List.{append-nil, nil_from_length, length-append, take_at}
use Rattle.cm_class.specs.declared.stop.Stop.TheVariants.{Short, Bad, NoMemory}
use Rattle.cm_class.specs.declared.class_file.ClassFile.{ClassFile}
use Rattle.cm_class.specs.declared.fault.ShapeFault.{ShapeFault}
use Rattle.cm_class.specs.declared.fault.ShapeFault.TheVariants as faults
use Rattle.cm_class.specs.Spelling.{spell, HasSpelling, AreBytes}
use Rattle.cm_class.specs.Shape.{Spells, IsSpelling, IsProperBeginning, IsTruncated, IsTrailing}
use Rattle.cm_class.specs.Shape.{BeginsSpelling, IsMalformed, IsAnswer, IsShapeFault}
use Rattle.cm_class.specs.Reading.{rest_of, class_at, answer_of, IsUnlessRefused}
use Rattle.cm_class.proofs.Readers.{Read, Says, Stuck, same_read}
use Rattle.cm_class.proofs.Classes.{class_reads}
use Rattle.cm_class.proofs.Lists.{positive}

-- ---- one class for one spelling, and no spelling begins another

-- two spellings with anything after them are the same, if both make the same bytes
pub one_spelling : (c d : ClassFile) (x y : List ℕ) → HasSpelling c → HasSpelling d
    → spell c ++ x ≡ spell d ++ y → (c ≡ d) × (x ≡ y)
one_spelling c d x y fc fd e =
    let same = same_read (c, x) (d, y) (class_at (spell d ++ y))
    (ap class_at (sym e) ∙ class_reads.again c fc x) (class_reads.again d fd y) in
    (ap (λ (q : ClassFile × List ℕ). q.0) same, ap (λ (q : ClassFile × List ℕ). q.1) same)

pub one_class : (c d : ClassFile) → HasSpelling c → HasSpelling d → spell c ≡ spell d → c ≡ d
one_class c d fc fd e = (one_spelling c d [] [] fc fd (ap (λ (l : List ℕ). l ++ []) e)).0

-- a spelling with something after it is no spelling
pub none_begins : (c d : ClassFile) → HasSpelling c → HasSpelling d
    → IsProperBeginning (spell c) (spell d) → ⊥
none_begins c d fc fd b =
    let rests = (one_spelling d c [] b.0 fd fc (append-nil (spell d) ∙ b.2)).1 in
    omega (arith, ap length rests, b.1)

-- ---- no two answers hold for the same bytes

-- a beginning of a beginning
begins_on : (a b c : List ℕ) → IsProperBeginning a b → IsProperBeginning b c → IsProperBeginning a c
begins_on a b c p q = (
  p.0 ++ q.0,
  omega (arith, length-append p.0 q.0, p.1),
  q.2 ∙ ap (λ (l : List ℕ). l ++ q.0) p.2 ∙ append_assoc a p.0 q.0,
)

spelling_not_truncated : (bytes : List ℕ) → IsSpelling bytes → IsTruncated bytes → ⊥
spelling_not_truncated bytes s t =
    none_begins s.0 t.0 s.1.fits t.1
    (t.2.0, t.2.1, t.2.2 ∙ ap (λ (l : List ℕ). l ++ t.2.0) s.1.spelled)

spelling_not_trailing : (bytes : List ℕ) (at : ℕ) → IsSpelling bytes → IsTrailing bytes at → ⊥
spelling_not_trailing bytes at s t =
    none_begins t.0 s.0 t.1 s.1.fits (t.2.0, t.2.1, sym s.1.spelled ∙ t.2.2)

truncated_not_trailing : (bytes : List ℕ) (at : ℕ) → IsTruncated bytes → IsTrailing bytes at → ⊥
truncated_not_trailing bytes at t u =
    none_begins u.0 t.0 u.1 t.1 (begins_on (spell u.0) bytes (spell t.0) u.2 t.2)

trailing_once : (bytes : List ℕ) (m n : ℕ) → IsTrailing bytes m → IsTrailing bytes n → m ≡ n
trailing_once bytes m n t u =
    let same = (one_spelling t.0 u.0 t.2.0 u.2.0 t.1 u.1 (sym t.2.2 ∙ u.2.2)).0 in
    t.3 ∙ ap (λ (c : ClassFile). length (spell c)) same ∙ sym u.3

malformed_once : (bytes : List ℕ) (m n : ℕ) → IsMalformed bytes m → IsMalformed bytes n → m ≡ n
malformed_once bytes m n p q =
    omega (arith, q.longest m p.within p.begins, p.longest n q.within q.begins)

pub one_answer : (bytes : List ℕ) (a b : Result ClassFile ShapeFault) → IsAnswer bytes a
    → IsAnswer bytes b → a ≡ b
one_answer bytes (Ok c) (Ok d) p q =
    ap (λ (x : ClassFile). let r : Result ClassFile ShapeFault = Ok x in r)
    (one_class c d p.fits q.fits (sym p.spelled ∙ q.spelled))
one_answer bytes (Ok c) (Err faults.Truncated) p q = absurd (spelling_not_truncated bytes (c, p) q)
one_answer bytes (Ok c) (Err (faults.Trailing n)) p q =
    absurd (spelling_not_trailing bytes n (c, p) q)
one_answer bytes (Ok c) (Err (faults.Malformed n)) p q = absurd (q.no_spelling (c, p))
one_answer bytes (Ok c) (Err faults.NoMemory) p q = absurd q
one_answer bytes (Err faults.Truncated) (Ok d) p q = absurd (spelling_not_truncated bytes (d, q) p)
one_answer bytes (Err faults.Truncated) (Err faults.Truncated) p q = refl
one_answer bytes (Err faults.Truncated) (Err (faults.Trailing n)) p q =
    absurd (truncated_not_trailing bytes n p q)
one_answer bytes (Err faults.Truncated) (Err (faults.Malformed n)) p q = absurd (q.not_truncated p)
one_answer bytes (Err faults.Truncated) (Err faults.NoMemory) p q = absurd q
one_answer bytes (Err (faults.Trailing m)) (Ok d) p q =
    absurd (spelling_not_trailing bytes m (d, q) p)
one_answer bytes (Err (faults.Trailing m)) (Err faults.Truncated) p q =
    absurd (truncated_not_trailing bytes m q p)
one_answer bytes (Err (faults.Trailing m)) (Err (faults.Trailing n)) p q =
    ap (λ (k : ℕ). let r : Result ClassFile ShapeFault = Err (faults.Trailing k) in r)
    (trailing_once bytes m n p q)
one_answer bytes (Err (faults.Trailing m)) (Err (faults.Malformed n)) p q =
    absurd (q.not_trailing m p)
one_answer bytes (Err (faults.Trailing m)) (Err faults.NoMemory) p q = absurd q
one_answer bytes (Err (faults.Malformed m)) (Ok d) p q = absurd (p.no_spelling (d, q))
one_answer bytes (Err (faults.Malformed m)) (Err faults.Truncated) p q = absurd (p.not_truncated q)
one_answer bytes (Err (faults.Malformed m)) (Err (faults.Trailing n)) p q =
    absurd (p.not_trailing n q)
one_answer bytes (Err (faults.Malformed m)) (Err (faults.Malformed n)) p q =
    ap (λ (k : ℕ). let r : Result ClassFile ShapeFault = Err (faults.Malformed k) in r)
    (malformed_once bytes m n p q)
one_answer bytes (Err (faults.Malformed m)) (Err faults.NoMemory) p q = absurd q
one_answer bytes (Err faults.NoMemory) b p q = absurd p

-- ---- the reader's answer is unique

-- a beginning that is longer than the front
take_over : (front : List ℕ) (at : ℕ) (rest : List ℕ) (n k : ℕ) → n ≡ length front + suc k
    → take n (front ++ at ∷ rest) ≡ front ++ at ∷ take k rest
take_over [] at rest n k e = let here : n ≡ suc k = omega arith in rw here refl
take_over (b ∷ front) at rest zero k e = absurd (omega arith)
take_over (b ∷ front) at rest (suc n) k e =
    ap (λ (l : List ℕ). b ∷ l) (take_over front at rest n k (omega arith))

no_longer : (bytes : List ℕ) (left : ℕ) → Stuck spell HasSpelling bytes left → (n : ℕ)
    → n ≤ length bytes → BeginsSpelling bytes n → (at : ℕ) → at ≡ length bytes - left → n ≤ at
no_longer bytes left h n within b at e =
    let total : length bytes ≡ length h.front + suc (length h.rest) =
    ap length h.parts ∙ length-append h.front (h.at ∷ h.rest) in
    ⊎_elim (λ past.
    let k : ℕ = n - suc (length h.front) in
    let over : take n bytes ≡ h.front ++ h.at ∷ take k h.rest =
    ap (take n) h.parts ∙ take_over h.front h.at h.rest n k (omega (arith, past)) in
    absurd (h.stuck b.0 b.1 [] (take k h.rest ++ b.2)
    (append-nil (spell b.0) ∙ b.3 ∙ ap (λ (l : List ℕ). l ++ b.2) over ∙ append_assoc h.front
    (h.at ∷ take k h.rest) b.2)))
    (λ up_to. omega (arith, up_to, total, h.left_is)) (cases_lt (length h.front) n)

-- bytes on which reading is stuck are malformed, at the place where it is stuck
stuck_malformed : (bytes : List ℕ) (left : ℕ) → Stuck spell HasSpelling bytes left
    → IsMalformed bytes (length bytes - left)
stuck_malformed bytes left h =
    let total : length bytes ≡ length h.front + suc (length h.rest) =
    ap length h.parts ∙ length-append h.front (h.at ∷ h.rest) in
    let place : length bytes - left ≡ length h.front = omega (arith, total, h.left_is) in
    let front_is : take (length bytes - left) bytes ≡ h.front =
    ap (λ (n : ℕ). take n bytes) place ∙ ap (take (length h.front)) h.parts ∙ take_at h.front
    (h.at ∷ h.rest) (length h.front) refl in
    record {
      no_spelling =
          λ s. h.stuck s.0 s.1.fits [] h.rest (append-nil (spell s.0) ∙ sym s.1.spelled ∙ h.parts);
      not_truncated =
          λ t. h.stuck t.0 t.1 [] (h.rest ++ t.2.0)
          (append-nil (spell t.0) ∙ t.2.2 ∙ ap (λ (l : List ℕ). l ++ t.2.0) h.parts ∙ append_assoc
          h.front (h.at ∷ h.rest) t.2.0);
      not_trailing = λ n t. h.stuck t.0 t.1 t.2.0 h.rest (sym t.2.2 ∙ h.parts);
      within = omega (arith, total);
      begins = (
        h.value,
        h.fits,
        h.more,
        h.begins ∙ ap (λ (l : List ℕ). l ++ h.more) (sym front_is),
      );
      longest = λ n within b. no_longer bytes left h n within b (length bytes - left) refl;
    }

says_answer : (bytes : List ℕ) (w : Read ClassFile) → Says spell HasSpelling bytes w
    → IsAnswer bytes (answer_of bytes w)
says_answer bytes (Ok x) h = by_test (eqb (length x.1) 0) refl
  where
    by_test : (t : Bool) → eqb (length x.1) 0 ≡ t
        → IsAnswer bytes
        (cond {A = Result ClassFile ShapeFault} t (Ok x.0)
        (Err (faults.Trailing (length bytes - length x.1))))
    by_test true e =
        let nothing : x.1 ≡ [] = nil_from_length x.1 (eqb-true _ _ e) in
        record {
          fits =
              h.0;
          spelled =
              h.1 ∙ ap (λ (l : List ℕ). spell x.0 ++ l) nothing ∙ append-nil (spell x.0);
        }
    by_test false e =
        let size : length bytes ≡ length (spell x.0) + length x.1 =
        ap length h.1 ∙ length-append (spell x.0) x.1 in
        let more : 0 < length x.1 = positive (length x.1) (eqb-false _ _ e) in
        (x.0, h.0, (x.1, more, h.1), omega (arith, size))
says_answer bytes (Err Short) h = (h.value, h.fits, (h.next ∷ h.more, omega arith, h.parts))
says_answer bytes (Err (Bad left)) h = stuck_malformed bytes left h
says_answer bytes (Err NoMemory) h = absurd h

pub is_answer : (bytes : List ℕ) → AreBytes bytes
    → IsAnswer bytes (answer_of bytes (class_at bytes))
is_answer bytes are = says_answer bytes (class_at bytes) (class_reads.says bytes are)

-- what was read has a spelling
pub read_fits : (bytes : List ℕ) (c : ClassFile) (rest : List ℕ) → AreBytes bytes
    → class_at bytes ≡ Ok (c, rest) → HasSpelling c
read_fits bytes c rest are e =
    let h : HasSpelling c × (bytes ≡ spell c ++ rest) =
    subst (Says spell HasSpelling bytes) e (class_reads.says bytes are) in
    h.0

-- what is left is no longer than the whole
rest_within : (bytes rest : List ℕ) (read : Read ClassFile) → Says spell HasSpelling bytes read
    → rest_of read ≡ Ok rest → length rest ≤ length bytes
rest_within bytes rest (Ok x) h e =
    let same : x.1 ≡ rest = cc in
    omega (arith, ap length same, ap length h.1, length-append (spell x.0) x.1)
rest_within bytes rest (Err stop) h e = absurd cc

left_within : (bytes : List ℕ) (left : ℕ) (read : Read ClassFile)
    → Says spell HasSpelling bytes read → rest_of read ≡ Err (Bad left) → left ≤ length bytes
left_within bytes left (Ok x) h e = absurd cc
left_within bytes left (Err Short) h e = absurd cc
left_within bytes left (Err (Bad n)) h e =
    let same : n ≡ left = cc in
    omega (arith, same, h.left_is, ap length h.parts, length-append h.front (h.at ∷ h.rest))
left_within bytes left (Err NoMemory) h e = absurd h

pub rest_fits : (bytes rest : List ℕ) → AreBytes bytes → rest_of (class_at bytes) ≡ Ok rest
    → length rest ≤ length bytes
rest_fits bytes rest are e = rest_within bytes rest (class_at bytes) (class_reads.says bytes are) e

pub left_fits : (bytes : List ℕ) (left : ℕ) → AreBytes bytes
    → rest_of (class_at bytes) ≡ Err (Bad left) → left ≤ length bytes
left_fits bytes left are e = left_within bytes left (class_at bytes) (class_reads.says bytes are) e

-- ---- clauses of the call

module _ (bytes : List ℕ) (are : AreBytes bytes) (result : Result ClassFile ShapeFault)
    (given : IsUnlessRefused (answer_of bytes (class_at bytes)) result) where
  -- the result is correct, or an allocation failed for bytes that spell a class file
  answered : IsAnswer bytes result ⊎ ((result ≡ Err faults.NoMemory) × IsSpelling bytes)
  answered =
      ⊎_elim (λ e. inl (subst (IsAnswer bytes) (sym e) (is_answer bytes are)))
      (λ refused. inr
      (refused.0, (refused.1.0, subst (IsAnswer bytes) refused.1.1 (is_answer bytes are))))
      given

  pub ok_is : IfOk result (Spells bytes)
  ok_is = ⊎_elim (ok_of result)
      (λ refused. subst (λ (r : Result ClassFile ShapeFault). IfOk r (Spells bytes)) (sym refused.0)
      tt) answered
    where
      ok_of : (r : Result ClassFile ShapeFault) → IsAnswer bytes r → IfOk r (Spells bytes)
      ok_of (Ok c) h = h
      ok_of (Err fault) h = tt

  pub fault_is : IfErr result (IsShapeFault bytes)
  fault_is = ⊎_elim (fault_of result)
      (λ refused. subst (λ (r : Result ClassFile ShapeFault). IfErr r (IsShapeFault bytes))
      (sym refused.0) refused.1) answered
    where
      fault_of : (r : Result ClassFile ShapeFault) → IsAnswer bytes r → IfErr r (IsShapeFault bytes)
      fault_of (Ok c) h = tt
      fault_of (Err faults.Truncated) h = h
      fault_of (Err (faults.Trailing at)) h = h
      fault_of (Err (faults.Malformed at)) h = h
      fault_of (Err faults.NoMemory) h = absurd h

  pub only_is : (answer : Result ClassFile ShapeFault) → IsAnswer bytes answer → (result ≡ answer)
      ⊎ ((result ≡ Err faults.NoMemory) × IsSpelling bytes)
  only_is answer h =
      ⊎_elim (λ mine. inl (one_answer bytes result answer mine h)) (λ refused. inr refused) answered
