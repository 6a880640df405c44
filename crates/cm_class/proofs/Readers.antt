-- What is known of a reader of one part: what it says about any bytes, and that it reads a spelling
-- whatever bytes follow. And how readers in sequence keep this.
-- For `each_input_has_one_answer`, `many_members` and others.
use Rattle.std.proofs.Common.{◌≡◌, ℕ, ◌+◌, List, [], ◌∷◌, ◌++◌, length, Result, Ok, Err, refl, sym}
use Rattle.std.proofs.Common.{ap, subst, ◌∙◌, append_assoc}
use Rattle.cm_class.specs.declared.stop.Stop.{Stop}
use Rattle.cm_class.specs.declared.stop.Stop.TheVariants.{Short, Bad, NoMemory}
use Rattle.cm_class.specs.Spelling.{AreBytes}
use Rattle.std.proofs.lemmas.List.{append-nil}
use Rattle.cm_class.specs.Reading.{◌>>=◌, both_at, made_at}

-- a value and the bytes that are left, or where reading stops
abbrev pub Read : Type 0 → Type 0
Read A = Result (A × List ℕ) Stop

-- the bytes end within a spelling
pub record CutShort {A : Type 0} (spelled : A → List ℕ) (Fits : A → Type 0)
    (bytes : List ℕ) : Type 0 where
  pub value : A
  pub fits : Fits value
  pub next : ℕ
  pub more : List ℕ
  pub parts : spelled value ≡ bytes ++ next ∷ more

-- A spelling begins with the bytes before the last `left` of them, and none continues with the next
-- byte, whatever follows it.
pub record Stuck {A : Type 0} (spelled : A → List ℕ) (Fits : A → Type 0) (bytes : List ℕ)
    (left : ℕ) : Type 0 where
  pub front : List ℕ
  pub at : ℕ
  pub rest : List ℕ
  pub parts : bytes ≡ front ++ at ∷ rest
  pub left_is : left ≡ length rest + 1
  pub value : A
  pub fits : Fits value
  pub more : List ℕ
  pub begins : spelled value ≡ front ++ more
  pub stuck : (v : A) → Fits v → (a b : List ℕ) → spelled v ++ a ≡ front ++ at ∷ b → ⊥

abbrev pub Says : {A : Type 0} → (A → List ℕ) → (A → Type 0) → List ℕ → Result (A × List ℕ) Stop
    → Type 0
Says spelled Fits bytes (Ok x) = Fits x.0 × (bytes ≡ spelled x.0 ++ x.1)
Says spelled Fits bytes (Err Short) = CutShort spelled Fits bytes
Says spelled Fits bytes (Err (Bad left)) = Stuck spelled Fits bytes left
Says spelled Fits bytes (Err NoMemory) = ⊥

pub record Reads {A : Type 0} (read : List ℕ → Result (A × List ℕ) Stop) (spelled : A → List ℕ)
    (Fits : A → Type 0) : Type 0 where
  pub says : (bytes : List ℕ) → AreBytes bytes → Says spelled Fits bytes (read bytes)
  pub again : (v : A) → Fits v → (rest : List ℕ) → read (spelled v ++ rest) ≡ Ok (v, rest)
  pub some : A
  pub some_fits : Fits some

pub AreBytes-rest : (front rest : List ℕ) → AreBytes (front ++ rest) → AreBytes rest
AreBytes-rest [] rest h = h
AreBytes-rest (b ∷ front) rest h = AreBytes-rest front rest h.1

-- the same reading gives the same value
pub same_read : {A : Type 0} (x y : A × List ℕ) (read : Result (A × List ℕ) Stop) → read ≡ Ok x
    → read ≡ Ok y → x ≡ y
same_read x y read e f = cc

-- a whole whose first part is read, as a value and as bytes
pub record Parts {A C : Type 0} (s1 : A → List ℕ) (F1 : A → Type 0) (t : A → C → List ℕ)
    (T : A → C → Type 0) (s : C → List ℕ) (c : C) : Type 0 where
  pub first : A
  pub first_fits : F1 first
  pub rest_fits : T first c
  pub spelled : s c ≡ s1 first ++ t first c

-- A reader of a first part, and after it a reader of the remaining part that depends on the first.
-- T says which wholes have which first part, and t how the remaining part of a whole is spelled.
module _ {A C : Type 0} (r : List ℕ → Result (A × List ℕ) Stop) (s1 : A → List ℕ) (F1 : A → Type 0)
    (k : A → List ℕ → Result (C × List ℕ) Stop) (t : A → C → List ℕ) (T : A → C → Type 0)
    (s : C → List ℕ) (F : C → Type 0)
    (one : Reads r s1 F1) (two : (a : A) → F1 a → Reads (k a) (t a) (T a))
    (split : (c : C) → F c → Parts s1 F1 t T s c)
    (joins : (a : A) (c : C) → F1 a → T a c → F c × (s c ≡ s1 a ++ t a c)) where
  both_again : (c : C) → F c → (rest : List ℕ) → (r (s c ++ rest) >>= λ x. k x.0 x.1) ≡ Ok (c, rest)
  both_again c fits rest =
      let p = split c fits in
      let regrouped : s c ++ rest ≡ s1 p.first ++ (t p.first c ++ rest) =
      ap (λ (x : List ℕ). x ++ rest) p.spelled ∙ append_assoc (s1 p.first) (t p.first c) rest in
      rw (regrouped, one.again p.first p.first_fits (t p.first c ++ rest))
      ((two p.first p.first_fits).again c p.rest_fits rest)

  -- if no second part continues with these bytes, no whole does
  both_stuck : (a : A) → F1 a → (front : List ℕ) (at : ℕ)
      → ((v : C) → T a v → (x y : List ℕ) → t a v ++ x ≡ front ++ at ∷ y → ⊥)
      → (c : C) → F c → (x y : List ℕ) → s c ++ x ≡ (s1 a ++ front) ++ at ∷ y → ⊥
  both_stuck a fa front at never c fits x y e =
      let p = split c fits in
      let left : s1 p.first ++ (t p.first c ++ x) ≡ s1 a ++ (front ++ at ∷ y) =
      sym (append_assoc (s1 p.first) (t p.first c) x) ∙ ap (λ (l : List ℕ). l ++ x)
      (sym p.spelled) ∙ e ∙ append_assoc (s1 a) front (at ∷ y) in
      let same = same_read (p.first, t p.first c ++ x) (a, front ++ at ∷ y)
      (r (s1 a ++ (front ++ at ∷ y)))
      (ap r (sym left) ∙ one.again p.first p.first_fits (t p.first c ++ x))
      (one.again a fa (front ++ at ∷ y)) in
      let firsts : p.first ≡ a = ap (λ (q : A × List ℕ). q.0) same in
      let rests : t p.first c ++ x ≡ front ++ at ∷ y = ap (λ (q : A × List ℕ). q.1) same in
      never c (subst (λ (b : A). T b c) firsts p.rest_fits) x y
      (subst (λ (b : A). t b c ++ x ≡ front ++ at ∷ y) firsts rests)

  -- what holds for the whole, from what the second reader says about its part
  says_rest : (bytes : List ℕ) (a : A) (rest : List ℕ) → F1 a → bytes ≡ s1 a ++ rest
      → (w : Result (C × List ℕ) Stop) → Says (t a) (T a) rest w → Says s F bytes w
  says_rest bytes a rest fa e (Ok x) h =
      let j = joins a x.0 fa h.0 in (
        j.0,
        e ∙ ap (λ (l : List ℕ). s1 a ++ l) h.1 ∙ sym (append_assoc (s1 a) (t a x.0) x.1) ∙ ap
            (λ (l : List ℕ). l ++ x.1) (sym j.1),
      )
  says_rest bytes a rest fa e (Err Short) h =
      let j = joins a h.value fa h.fits in
      record {
        value = h.value;
        fits = j.0;
        next = h.next;
        more = h.more;
        parts = j.1 ∙ ap (λ (l : List ℕ). s1 a ++ l) h.parts ∙ sym
            (append_assoc (s1 a) rest (h.next ∷ h.more)) ∙ ap (λ (l : List ℕ). l ++ h.next ∷ h.more)
            (sym e);
      }
  says_rest bytes a rest fa e (Err (Bad left)) h =
      let j = joins a h.value fa h.fits in
      record {
        front = s1 a ++ h.front;
        at = h.at;
        rest = h.rest;
        parts = e ∙ ap (λ (l : List ℕ). s1 a ++ l) h.parts ∙ sym
            (append_assoc (s1 a) h.front (h.at ∷ h.rest));
        left_is = h.left_is;
        value = h.value;
        fits = j.0;
        more = h.more;
        begins = j.1 ∙ ap (λ (l : List ℕ). s1 a ++ l) h.begins ∙ sym
            (append_assoc (s1 a) h.front h.more);
        stuck = both_stuck a fa h.front h.at h.stuck;
      }
  says_rest bytes a rest fa e (Err NoMemory) h = h

  -- what holds for the whole, from what the first reader says
  says_both : (bytes : List ℕ) → AreBytes bytes → (v : Result (A × List ℕ) Stop)
      → Says s1 F1 bytes v → Says s F bytes (v >>= λ x. k x.0 x.1)
  says_both bytes are (Ok x) h =
      says_rest bytes x.0 x.1 h.0 h.1 (k x.0 x.1)
      ((two x.0 h.0).says x.1 (AreBytes-rest (s1 x.0) x.1 (subst AreBytes h.1 are)))
  says_both bytes are (Err Short) h =
      let c = (two h.value h.fits).some in
      let j = joins h.value c h.fits (two h.value h.fits).some_fits in
      record {
        value = c;
        fits = j.0;
        next = h.next;
        more = h.more ++ t h.value c;
        parts = j.1 ∙ ap (λ (l : List ℕ). l ++ t h.value c) h.parts ∙ append_assoc bytes
            (h.next ∷ h.more) (t h.value c);
      }
  says_both bytes are (Err (Bad left)) h =
      let c = (two h.value h.fits).some in
      let j = joins h.value c h.fits (two h.value h.fits).some_fits in
      record {
        front = h.front;
        at = h.at;
        rest = h.rest;
        parts = h.parts;
        left_is = h.left_is;
        value = c;
        fits = j.0;
        more = h.more ++ t h.value c;
        begins = j.1 ∙ ap (λ (l : List ℕ). l ++ t h.value c) h.begins ∙ append_assoc h.front h.more
            (t h.value c);
        stuck = λ v fits a b e.
            let p = split v fits in
            h.stuck p.first p.first_fits (t p.first v ++ a) b
            (sym (append_assoc (s1 p.first) (t p.first v) a) ∙ ap (λ (l : List ℕ). l ++ a)
            (sym p.spelled) ∙ e);
      }
  says_both bytes are (Err NoMemory) h = h

  pub reads_then : Reads (λ bytes. r bytes >>= λ x. k x.0 x.1) s F
  reads_then =
      let a = one.some in
      let c = (two a one.some_fits).some in
      record {
        says = λ bytes are. says_both bytes are (r bytes) (one.says bytes are);
        again = both_again;
        some = c;
        some_fits = (joins a c one.some_fits (two a one.some_fits).some_fits).0;
      }

-- nothing is read, and the value is known
pub reads_done : {C : Type 0} (c : C) (T : C → Type 0) → T c → ((v : C) → T v → c ≡ v)
    → Reads (λ bytes. Ok (c, bytes)) (λ _. []) T
reads_done c T holds only = record {
  says = λ bytes are. (holds, refl);
  again = λ v fits rest. ap (λ x. Ok (x, rest)) (only v fits);
  some = c;
  some_fits = holds;
}

-- the parts that a value is made of are read
module _ {A C : Type 0} (r : List ℕ → Result (A × List ℕ) Stop) (s1 : A → List ℕ) (F1 : A → Type 0)
    (make : A → C) (s : C → List ℕ) (F : C → Type 0)
    (one : Reads r s1 F1) (split : (c : C) → F c → (a : A) × F1 a × (make a ≡ c))
    (joins : (a : A) → F1 a → F (make a) × (s (make a) ≡ s1 a)) where
  made_parts : (c : C) → F c → Parts s1 F1 (λ _ _. []) (λ a v. make a ≡ v) s c
  made_parts c fits =
      let p = split c fits in
      record {
        first =
            p.0;
        first_fits =
            p.1;
        rest_fits =
            p.2;
        spelled = ap s (sym p.2) ∙ (joins p.0 p.1).1 ∙ sym (append-nil (s1 p.0));
      }

  pub reads_made : Reads (made_at make r) s F
  reads_made =
      reads_then r s1 F1 (λ a bytes. Ok (make a, bytes)) (λ _ _. []) (λ a v. make a ≡ v) s F one
      (λ a fa. reads_done (make a) (λ v. make a ≡ v) refl (λ v e. e)) made_parts
      (λ a c fa e.
      (subst F e (joins a fa).0, ap s (sym e) ∙ (joins a fa).1 ∙ sym (append-nil (s1 a))))

-- two parts that don't depend on each other
pub reads_both : {A B : Type 0} (r : List ℕ → Result (A × List ℕ) Stop) (s1 : A → List ℕ)
    (F1 : A → Type 0) (q : List ℕ → Result (B × List ℕ) Stop) (s2 : B → List ℕ) (F2 : B → Type 0)
    → Reads r s1 F1 → Reads q s2 F2
    → Reads (both_at r q) (λ x. s1 x.0 ++ s2 x.1) (λ x. F1 x.0 × F2 x.1)
reads_both {A} {B} r s1 F1 q s2 F2 one two =
    reads_then r s1 F1 (λ a. made_at (λ b. (a, b)) q) (λ a x. s2 x.1) (λ a x. (x.0 ≡ a) × F2 x.1)
    (λ x. s1 x.0 ++ s2 x.1) (λ x. F1 x.0 × F2 x.1) one
    (λ a fa. reads_made q s2 F2 (λ b. (a, b)) (λ x. s2 x.1) (λ x. (x.0 ≡ a) × F2 x.1) two
    (λ c fits. (c.1, fits.1, ap (λ (y : A). (y, c.1)) (sym fits.0)))
    (λ b fb. ((refl, fb), refl)))
    (λ c fits. record {
      first =
          c.0;
      first_fits = fits.0;
      rest_fits = (refl, fits.1);
      spelled = refl;
    })
    (λ a c fa fits. ((subst F1 (sym fits.0) fa, fits.1), ap (λ (y : A). s1 y ++ s2 c.1) fits.0))

-- the same reader, with an equal spelling and an equivalent condition
pub reads_as : {A : Type 0} (r : List ℕ → Result (A × List ℕ) Stop) (s1 : A → List ℕ)
    (F1 : A → Type 0) (s : A → List ℕ) (F : A → Type 0)
    → Reads r s1 F1 → ((a : A) → F a → F1 a) → ((a : A) → F1 a → F a × (s a ≡ s1 a)) → Reads r s F
reads_as {A} r s1 F1 s F one back forth = record {
  says = λ bytes are. says_as bytes (r bytes) (one.says bytes are);
  again = λ v fits rest.
      ap (λ (l : List ℕ). r (l ++ rest)) (forth v (back v fits)).1 ∙ one.again v (back v fits) rest;
  some = one.some;
  some_fits = (forth one.some one.some_fits).0;
}
  where
    says_as : (bytes : List ℕ) (w : Result (A × List ℕ) Stop) → Says s1 F1 bytes w
        → Says s F bytes w
    says_as bytes (Ok x) h =
        let f = forth x.0 h.0 in (f.0, h.1 ∙ ap (λ (l : List ℕ). l ++ x.1) (sym f.1))
    says_as bytes (Err Short) h =
        let f = forth h.value h.fits in
        record { value = h.value; fits = f.0; next = h.next; more = h.more; parts = f.1 ∙ h.parts }
    says_as bytes (Err (Bad left)) h =
        let f = forth h.value h.fits in
        record {
          front = h.front;
          at = h.at;
          rest = h.rest;
          parts = h.parts;
          left_is = h.left_is;
          value = h.value;
          fits = f.0;
          more = h.more;
          begins = f.1 ∙ h.begins;
          stuck = λ v fits a b e.
              h.stuck v (back v fits) a b
              (ap (λ (l : List ℕ). l ++ a) (sym (forth v (back v fits)).1) ∙ e);
        }
    says_as bytes (Err NoMemory) h = h
