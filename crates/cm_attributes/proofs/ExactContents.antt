-- The readers of contents skip exactly the contents.
-- For `content_is_its_parts`, `value_is_its_part`.
use Rattle.std.proofs.Common.{◌≡◌, ◌⊎◌, inl, inr, ℕ, ◌<◌, ◌≤◌, Bool, true, false, cond, List, []}
use Rattle.std.proofs.Common.{◌∷◌, ◌++◌, length, take, drop, Option, Some, None, refl, sym, ap}
use Rattle.std.proofs.Common.{subst, ◌∙◌, append_assoc, eq-eqb, arith}
use Rattle.std.specs.Prelude.{if◌then◌else◌, nat_lt, nat_le, ◌&&◌, ◌||◌, ◌==◌}
use Rattle.std.specs.List.{flat_map}
use Rattle.std.specs.Option.{option_map_or}
use Rattle.std.proofs.lemmas.Bool.{eqb-true, ltb-true, ltb-false, lt-ltb, le-ltb, leb-true, le-leb}
use Rattle.std.proofs.lemmas.Bool.{or_cases}
use Rattle.std.proofs.lemmas.List.{append-nil, drop_at, take-append-drop, length-append}
use Rattle.std.proofs.lemmas.List.{length-take}
use Rattle.cm_class.specs.Spelling.{u2, u4, IsU2, IsU4, AreBytes}
use Rattle.cm_class.specs.Names.{names}
use Rattle.cm_class.specs.declared.kind.Kind.{Kind}
use Rattle.cm_class.specs.declared.kind.Kind.TheVariants as kinds
use Rattle.cm_class.specs.declared.class_file.ClassFile.{ClassFile}
use Rattle.cm_attributes.specs.declared.known.Known.{Known}
use Rattle.cm_attributes.specs.declared.known.Known.TheVariants as known
use Rattle.cm_attributes.specs.declared.part.Part.{Part}
use Rattle.cm_attributes.specs.declared.part.Part.TheVariants.{Any, Names, ZeroOr, Loadable}
use Rattle.cm_attributes.specs.declared.code.Handler.{Handler}
use Rattle.cm_attributes.specs.Contents.{◌>>=◌, u2_of, u4_of, past, passes, past_parts}
use Rattle.cm_attributes.specs.Contents.{past_counted, handler_of, is_handler, past_handler}
use Rattle.cm_attributes.specs.Contents.{past_attribute, code_of, past_code, past_bootstrap_method}
use Rattle.cm_attributes.specs.Contents.{is_content, one_utf8, exception, enclosing_method}
use Rattle.cm_attributes.specs.Contents.{inner_class, is_row, value_kind, is_value_of}
use Rattle.cm_attributes.specs.Parts.{Pass, IsRow, AreCounted, IsHandler, IsAttribute, IsCode}
use Rattle.cm_attributes.specs.Parts.{IsBootstrapMethod, IsContent, IsValueOf}
use Rattle.cm_attributes.proofs.Exact.{Exact, bound, tested, are_rest, Both, exact_both, exact_as}
use Rattle.cm_attributes.proofs.Exact.{whole_found, whole_again, u2_found, u2_again, u4_found}
use Rattle.cm_attributes.proofs.Exact.{u4_again, exact_row, exact_counted}

-- ---- tests

four : (a b c d : Bool) → (a && b && c && d) ≡ true
    → (a ≡ true) × (b ≡ true) × (c ≡ true) × (d ≡ true)
four true true true true e = (refl, refl, refl, refl)
four true true true false e = absurd cc
four true true false d e = absurd cc
four true false c d e = absurd cc
four false b c d e = absurd cc

all_four : (a b c d : Bool) → a ≡ true → b ≡ true → c ≡ true → d ≡ true → (a && b && c && d) ≡ true
all_four a b c d e f g h = rw (e, f, g, h) refl

both_true : (a b : Bool) → (a && b) ≡ true → (a ≡ true) × (b ≡ true)
both_true true b e = (refl, e)
both_true false b e = absurd cc

-- ---- skipped bytes

pub record Taken (n : ℕ) (bytes rest : List ℕ) : Type 0 where
  pub front : List ℕ
  pub len : length front ≡ n
  pub parts : bytes ≡ front ++ rest

past_found : (n : ℕ) (bytes rest : List ℕ) → past n bytes ≡ Some rest → Taken n bytes rest
past_found n bytes rest e = by_test (nat_lt (length bytes) n) refl e
  where
    by_test : (b : Bool) → nat_lt (length bytes) n ≡ b
        → cond b None (Some (drop n bytes)) ≡ Some rest → Taken n bytes rest
    by_test true t f = absurd cc
    by_test false t f =
        let enough : n ≤ length bytes = ltb-false _ _ t in
        let same : drop n bytes ≡ rest = cc in
        record {
          front = take n bytes;
          len = omega (arith, length-take n bytes);
          parts = sym (take-append-drop n bytes) ∙ ap (λ (x : List ℕ). take n bytes ++ x) same;
        }

past_again : (front rest : List ℕ) → past (length front) (front ++ rest) ≡ Some rest
past_again front rest =
    let enough : nat_lt (length (front ++ rest)) (length front) ≡ false =
    le-ltb _ _ (omega (arith, length-append front rest)) in
    rw (enough, drop_at front rest (length front) refl) refl

-- ---- handlers

record Handles (bytes : List ℕ) (x : Handler × List ℕ) : Type 0 where
  fits : IsU2 x.0.start × IsU2 x.0.end × IsU2 x.0.handler × IsU2 x.0.catch
  parts : bytes ≡ u2 x.0.start ++ (u2 x.0.end ++ (u2 x.0.handler ++ (u2 x.0.catch ++ x.1)))

abbrev made : ℕ → ℕ → ℕ → ℕ × List ℕ → Handler × List ℕ
made start end handler catch =
    (record { start = start; end = end; handler = handler; catch = catch.0 }, catch.1)

-- four numbers, each before what is left
four_parts : (a b c d : ℕ) (bytes p q r rest : List ℕ) → bytes ≡ u2 a ++ p → p ≡ u2 b ++ q
    → q ≡ u2 c ++ r → r ≡ u2 d ++ rest
    → bytes ≡ u2 a ++ (u2 b ++ (u2 c ++ (u2 d ++ rest)))
four_parts a b c d bytes p q r rest e f g h =
    e ∙ ap (λ (l : List ℕ). u2 a ++ l)
    (f ∙ ap (λ (l : List ℕ). u2 b ++ l) (g ∙ ap (λ (l : List ℕ). u2 c ++ l) h))

handles : (bytes : List ℕ) (start end handler : ℕ) (catch : ℕ × List ℕ) (x : Handler × List ℕ)
    → made start end handler catch ≡ x → IsU2 start × IsU2 end × IsU2 handler × IsU2 catch.0
    → bytes ≡ u2 start ++ (u2 end ++ (u2 handler ++ (u2 catch.0 ++ catch.1))) → Handles bytes x
handles bytes start end handler catch x same fits parts =
    subst (λ (y : Handler × List ℕ). Handles bytes y) same (record { fits = fits; parts = parts })

handler_found : (bytes : List ℕ) (x : Handler × List ℕ) → AreBytes bytes → handler_of bytes ≡ Some x
    → Handles bytes x
handler_found bytes x are e =
    let a = bound (u2_of bytes)
    (λ start. u2_of start.1 >>= λ end. u2_of end.1 >>= λ handler. u2_of handler.1 >>= λ catch.
    Some (made start.0 end.0 handler.0 catch)) x e in
    let start = u2_found bytes a.value are a.first in
    let are_a = are_rest bytes (u2 a.value.0) a.value.1 are start.1 in
    let b = bound (u2_of a.value.1)
    (λ end. u2_of end.1 >>= λ handler. u2_of handler.1 >>= λ catch.
    Some (made a.value.0 end.0 handler.0 catch)) x a.next in
    let end = u2_found a.value.1 b.value are_a b.first in
    let are_b = are_rest a.value.1 (u2 b.value.0) b.value.1 are_a end.1 in
    let c = bound (u2_of b.value.1)
    (λ handler. u2_of handler.1 >>= λ catch. Some (made a.value.0 b.value.0 handler.0 catch)) x
    b.next in
    let handler = u2_found b.value.1 c.value are_b c.first in
    let are_c = are_rest b.value.1 (u2 c.value.0) c.value.1 are_b handler.1 in
    let d = bound (u2_of c.value.1) (λ catch. Some (made a.value.0 b.value.0 c.value.0 catch)) x
    c.next in
    let catch = u2_found c.value.1 d.value are_c d.first in
    let same : made a.value.0 b.value.0 c.value.0 d.value ≡ x = cc in
    handles bytes a.value.0 b.value.0 c.value.0 d.value x same (start.0, end.0, handler.0, catch.0)
    (four_parts a.value.0 b.value.0 c.value.0 d.value.0 bytes a.value.1 b.value.1 c.value.1
    d.value.1 start.1 end.1 handler.1 catch.1)

handler_again : (start end handler catch : ℕ) (rest : List ℕ) → IsU2 start → IsU2 end → IsU2 handler
    → IsU2 catch
    → handler_of (u2 start ++ (u2 end ++ (u2 handler ++ (u2 catch ++ rest))))
    ≡ Some (made start end handler (catch, rest))
handler_again start end handler catch rest f g h k =
    ap (λ (o : Option (ℕ × List ℕ)). o >>= λ a. u2_of a.1 >>= λ b. u2_of b.1 >>= λ c.
    u2_of c.1 >>= λ d. Some (made a.0 b.0 c.0 d))
    (u2_again start (u2 end ++ (u2 handler ++ (u2 catch ++ rest))) f)
    ∙ ap (λ (o : Option (ℕ × List ℕ)). o >>= λ b. u2_of b.1 >>= λ c. u2_of c.1 >>= λ d.
    Some (made start b.0 c.0 d)) (u2_again end (u2 handler ++ (u2 catch ++ rest)) g)
    ∙ ap (λ (o : Option (ℕ × List ℕ)). o >>= λ c. u2_of c.1 >>= λ d. Some (made start end c.0 d))
    (u2_again handler (u2 catch ++ rest) h)
    ∙ ap (λ (o : Option (ℕ × List ℕ)). o >>= λ d. Some (made start end handler d))
    (u2_again catch rest k)

module _ (c : ClassFile) where
  zero_or_class : (n : ℕ) → passes c (ZeroOr kinds.Class) n ≡ true → (n ≡ 0)
      ⊎ (names kinds.Class c n ≡ true)
  zero_or_class n e = by_either (or_cases (n == 0) (names kinds.Class c n) e)
    where
      by_either : ((n == 0) ≡ true) ⊎ (names kinds.Class c n ≡ true) → (n ≡ 0)
          ⊎ (names kinds.Class c n ≡ true)
      by_either (inl z) = inl (eqb-true n 0 z)
      by_either (inr k) = inr k

  class_or_zero : (n : ℕ) → (n ≡ 0) ⊎ (names kinds.Class c n ≡ true)
      → passes c (ZeroOr kinds.Class) n ≡ true
  class_or_zero n (inl z) = rw (eq-eqb n 0 z) refl
  class_or_zero n (inr k) = by_test (n == 0)
    where
      by_test : (b : Bool) → (b || names kinds.Class c n) ≡ true
      by_test true = refl
      by_test false = k

  exact_handler : (size : ℕ) → Exact (past_handler c size) (IsHandler c size)
  exact_handler size = record {
    found = λ bytes rest are e.
        let b = bound (handler_of bytes) (λ h. if is_handler c size h.0 then Some h.1 else None)
        rest e in
        let h = handler_found bytes b.value are b.first in
        let t = tested (is_handler c size b.value.0) b.value.1 rest b.next in
        let tests = four (nat_lt b.value.0.start b.value.0.end) (nat_le b.value.0.end size)
        (nat_lt b.value.0.handler size) (passes c (ZeroOr kinds.Class) b.value.0.catch) t.0 in
        record {
          front = u2 b.value.0.start
              ++ (u2 b.value.0.end ++ (u2 b.value.0.handler ++ u2 b.value.0.catch));
          is = record {
            start = b.value.0.start;
            end = b.value.0.end;
            handler = b.value.0.handler;
            catch = b.value.0.catch;
            fits = h.fits;
            guards = ltb-true _ _ tests.0;
            within = leb-true _ _ tests.1;
            handles = ltb-true _ _ tests.2;
            catches = zero_or_class b.value.0.catch tests.3;
            spelled = refl;
          };
          parts = h.parts ∙ ap
              (λ (l : List ℕ). u2 b.value.0.start
              ++ (u2 b.value.0.end ++ (u2 b.value.0.handler ++ (u2 b.value.0.catch ++ l)))) t.1;
        };
    again = λ front rest h.
        let begin : front ++ rest ≡ u2 h.start
        ++ (u2 h.end ++ (u2 h.handler ++ (u2 h.catch ++ rest))) =
        ap (λ (l : List ℕ). l ++ rest) h.spelled in
        let test : is_handler c size
        (record { start = h.start; end = h.end; handler = h.handler; catch = h.catch }) ≡ true =
        all_four _ _ _ _ (lt-ltb h.start h.end h.guards) (le-leb h.end size h.within)
        (lt-ltb h.handler size h.handles) (class_or_zero h.catch h.catches) in
        ap (past_handler c size) begin
        ∙ ap (λ (o : Option (Handler × List ℕ)). o >>= λ x. if is_handler c size x.0 then Some x.1
        else None) (handler_again h.start h.end h.handler h.catch rest h.fits.0 h.fits.1
        h.fits.2 h.fits.3)
        ∙ ap (λ (b : Bool). cond b (Some rest) None) test;
  }

  -- ---- attributes of a code

  one_number : (part : Part) (l : List ℕ) (h : IsRow c (part ∷ []) l)
      → (n : ℕ) × IsU2 n × (passes c part n ≡ true) × (l ≡ u2 n)
  one_number part l h = of h.numbers h.pass h.spelled
    where
      of : (numbers : List ℕ) → Pass c (part ∷ []) numbers → l ≡ flat_map u2 numbers
          → (n : ℕ) × IsU2 n × (passes c part n ≡ true) × (l ≡ u2 n)
      of [] p e = absurd p
      of (n ∷ []) p e = (n, p.0, p.1, e ∙ append-nil (u2 n))
      of (n ∷ m ∷ numbers) p e = absurd p.2

  row_of_one : (part : Part) (n : ℕ) → IsU2 n → passes c part n ≡ true → IsRow c (part ∷ []) (u2 n)
  row_of_one part n fits pass =
      record { numbers = n ∷ []; pass = (fits, pass, tt); spelled = sym (append-nil (u2 n)) }

  -- a length, and bytes of that length
  record IsSized (bytes : List ℕ) : Type 0 where
    content : List ℕ
    fits : IsU4 (length content)
    spelled : bytes ≡ u4 (length content) ++ content

  exact_sized : Exact (λ bytes. u4_of bytes >>= λ n. past n.0 n.1) IsSized
  exact_sized = record {
    found = λ bytes rest are e.
        let b = bound (u4_of bytes) (λ n. past n.0 n.1) rest e in
        let n = u4_found bytes b.value are b.first in
        let t = past_found b.value.0 b.value.1 rest b.next in
        let begin : bytes ≡ u4 (length t.front) ++ (t.front ++ rest) =
        n.1 ∙ ap (λ (l : List ℕ). u4 b.value.0 ++ l) t.parts ∙ ap
        (λ (k : ℕ). u4 k ++ (t.front ++ rest)) (sym t.len) in
        record {
          front = u4 (length t.front) ++ t.front;
          is = record { content = t.front; fits = subst IsU4 (sym t.len) n.0; spelled = refl };
          parts = begin ∙ sym (append_assoc (u4 (length t.front)) t.front rest);
        };
    again = λ front rest h.
        let begin : front ++ rest ≡ u4 (length h.content) ++ (h.content ++ rest) =
        ap (λ (l : List ℕ). l ++ rest) h.spelled ∙ append_assoc (u4 (length h.content))
        h.content rest in
        ap (λ (l : List ℕ). u4_of l >>= λ n. past n.0 n.1) begin
        ∙ ap (λ (o : Option (ℕ × List ℕ)). o >>= λ n. past n.0 n.1)
        (u4_again (length h.content) (h.content ++ rest) h.fits)
        ∙ past_again h.content rest;
  }

  exact_attribute : Exact (past_attribute c) (IsAttribute c)
  exact_attribute =
      exact_as (past_attribute c) (Both (IsRow c one_utf8) IsSized) (IsAttribute c)
      (exact_both (past_parts c one_utf8) (λ bytes. u4_of bytes >>= λ n. past n.0 n.1)
      (IsRow c one_utf8) IsSized (exact_row c one_utf8) exact_sized)
      (λ l h.
      let n = one_number (Names kinds.Utf8) h.first h.is_first in
      record {
        name = n.0;
        content = h.is_second.content;
        fits = (n.1, h.is_second.fits);
        named = n.2;
        spelled = h.spelled ∙ ap (λ (x : List ℕ). x ++ h.second) n.3 ∙ ap
            (λ (x : List ℕ). u2 n.0 ++ x) h.is_second.spelled;
      })
      (λ l h. record {
        first = u2 h.name;
        second = u4 (length h.content) ++ h.content;
        is_first = row_of_one (Names kinds.Utf8) h.name h.fits.0 h.named;
        is_second = record { content = h.content; fits = h.fits.1; spelled = refl };
        spelled = h.spelled;
      })

  -- ---- bootstrap methods

  exact_bootstrap_method : Exact (past_bootstrap_method c) (IsBootstrapMethod c)
  exact_bootstrap_method =
      exact_as (past_bootstrap_method c)
      (Both (IsRow c (Names kinds.MethodHandle ∷ [])) (AreCounted (IsRow c (Loadable ∷ []))))
      (IsBootstrapMethod c)
      (exact_both (past_parts c (Names kinds.MethodHandle ∷ []))
      (past_counted (past_parts c (Loadable ∷ []))) (IsRow c (Names kinds.MethodHandle ∷ []))
      (AreCounted (IsRow c (Loadable ∷ [])))
      (exact_row c (Names kinds.MethodHandle ∷ []))
      (exact_counted (past_parts c (Loadable ∷ [])) (IsRow c (Loadable ∷ []))
      (exact_row c (Loadable ∷ []))))
      (λ l h. record {
        method =
            h.first;
        arguments =
            h.second;
        is_method = h.is_first;
        are_arguments = h.is_second;
        spelled = h.spelled;
      })
      (λ l h. record {
        first =
            h.method;
        second =
            h.arguments;
        is_first = h.is_method;
        is_second = h.are_arguments;
        spelled = h.spelled;
      })

  -- ---- codes

  record Sized (bytes : List ℕ) (x : ℕ × List ℕ) : Type 0 where
    code : List ℕ
    len : x.0 ≡ length code
    some : 0 < length code
    most : length code ≤ 65535
    parts : bytes ≡ u4 (length code) ++ (code ++ x.1)

  abbrev code_behind : ℕ × List ℕ → Option (ℕ × List ℕ)
  code_behind size =
      if nat_lt 0 size.0 && nat_le size.0 65535
      then (past size.0 size.1 >>= λ rest. Some (size.0, rest)) else None

  code_found : (bytes : List ℕ) (x : ℕ × List ℕ) → AreBytes bytes → code_of bytes ≡ Some x
      → Sized bytes x
  unfolding code_of
  code_found bytes x are e =
      let b = bound (u4_of bytes) code_behind x e in
      let n = u4_found bytes b.value are b.first in
      by_test b.value n.1 (nat_lt 0 b.value.0 && nat_le b.value.0 65535) refl b.next
    where
      by_test : (size : ℕ × List ℕ) → bytes ≡ u4 size.0 ++ size.1 → (t : Bool)
          → (nat_lt 0 size.0 && nat_le size.0 65535) ≡ t
          → cond t (past size.0 size.1 >>= λ rest. Some (size.0, rest)) None ≡ Some x
          → Sized bytes x
      by_test size is false t f = absurd cc
      by_test size is true t f =
          let p = bound (past size.0 size.1) (λ rest. Some (size.0, rest)) x f in
          let taken = past_found size.0 size.1 p.value p.first in
          let tests = both_true (nat_lt 0 size.0) (nat_le size.0 65535) t in
          let some : 0 < size.0 = ltb-true _ _ tests.0 in
          let most : size.0 ≤ 65535 = leb-true _ _ tests.1 in
          let same : (size.0, p.value) ≡ x = cc in
          let begin : bytes ≡ u4 (length taken.front) ++ (taken.front ++ p.value) =
          is ∙ ap (λ (l : List ℕ). u4 size.0 ++ l) taken.parts ∙ ap
          (λ (k : ℕ). u4 k ++ (taken.front ++ p.value)) (sym taken.len) in
          subst (λ (y : ℕ × List ℕ). Sized bytes y) same
          (record {
            code =
                taken.front;
            len =
                sym taken.len;
            some =
                omega (arith, taken.len, some);
            most =
                omega (arith, taken.len, most);
            parts = begin;
          })

  code_again : (code rest : List ℕ) → 0 < length code → length code ≤ 65535
      → code_of (u4 (length code) ++ (code ++ rest)) ≡ Some (length code, rest)
  unfolding code_of
  code_again code rest some most =
      let fits : IsU4 (length code) = omega (arith, most) in
      let test : (nat_lt 0 (length code) && nat_le (length code) 65535) ≡ true =
      rw (lt-ltb 0 (length code) some, le-leb (length code) 65535 most) refl in
      ap (λ (o : Option (ℕ × List ℕ)). o >>= code_behind)
      (u4_again (length code) (code ++ rest) fits)
      ∙ ap (λ (b : Bool).
      cond b (past (length code) (code ++ rest) >>= λ more. Some (length code, more)) None) test
      ∙ ap (λ (o : Option (List ℕ)). o >>= λ more. Some (length code, more)) (past_again code rest)

  two_numbers : (l : List ℕ) → IsRow c (Any ∷ Any ∷ []) l
      → (n m : ℕ) × IsU2 n × IsU2 m × (l ≡ u2 n ++ u2 m)
  two_numbers l h = of h.numbers h.pass h.spelled
    where
      of : (numbers : List ℕ) → Pass c (Any ∷ Any ∷ []) numbers → l ≡ flat_map u2 numbers
          → (n m : ℕ) × IsU2 n × IsU2 m × (l ≡ u2 n ++ u2 m)
      of [] p e = absurd p
      of (n ∷ []) p e = absurd p.2
      of (n ∷ m ∷ []) p e = (n, m, p.0, p.2.0, e)
      of (n ∷ m ∷ k ∷ numbers) p e = absurd p.2.2

  abbrev behind_code : ℕ → List ℕ → Option (List ℕ)
  behind_code size bytes =
      past_counted (past_handler c size) bytes >>= λ rest. past_counted (past_attribute c) rest

  abbrev IsBehind : ℕ → List ℕ → Type 0
  IsBehind size bytes = Both (AreCounted (IsHandler c size)) (AreCounted (IsAttribute c)) bytes

  exact_behind : (size : ℕ) → Exact (behind_code size) (IsBehind size)
  exact_behind size =
      exact_both (past_counted (past_handler c size)) (past_counted (past_attribute c))
      (AreCounted (IsHandler c size)) (AreCounted (IsAttribute c))
      (exact_counted (past_handler c size) (IsHandler c size) (exact_handler size))
      (exact_counted (past_attribute c) (IsAttribute c) exact_attribute)

  -- everything but stack and locals
  record IsBody (bytes : List ℕ) : Type 0 where
    code : List ℕ
    some : 0 < length code
    most : length code ≤ 65535
    behind : List ℕ
    is_behind : IsBehind (length code) behind
    spelled : bytes ≡ u4 (length code) ++ (code ++ behind)

  exact_body : Exact (λ bytes. code_of bytes >>= λ size. behind_code size.0 size.1) IsBody
  exact_body = record {
    found = λ bytes rest are e.
        let b = bound (code_of bytes) (λ size. behind_code size.0 size.1) rest e in
        let s = code_found bytes b.value are b.first in
        let regrouped : bytes ≡ (u4 (length s.code) ++ s.code) ++ b.value.1 =
        s.parts ∙ sym (append_assoc (u4 (length s.code)) s.code b.value.1) in
        let d = (exact_behind b.value.0).found b.value.1 rest
        (are_rest bytes (u4 (length s.code) ++ s.code) b.value.1 are regrouped) b.next in
        record {
          front = u4 (length s.code) ++ (s.code ++ d.front);
          is = record {
            code =
                s.code;
            some =
                s.some;
            most =
                s.most;
            behind =
                d.front;
            is_behind =
                subst (λ (n : ℕ). IsBehind n d.front) s.len d.is;
            spelled = refl;
          };
          parts = s.parts ∙ ap (λ (l : List ℕ). u4 (length s.code) ++ (s.code ++ l)) d.parts ∙ ap
              (λ (l : List ℕ). u4 (length s.code) ++ l) (sym (append_assoc s.code d.front rest))
              ∙ sym (append_assoc (u4 (length s.code)) (s.code ++ d.front) rest);
        };
    again = λ front rest h.
        let begin : front ++ rest ≡ u4 (length h.code) ++ (h.code ++ (h.behind ++ rest)) =
        ap (λ (l : List ℕ). l ++ rest) h.spelled ∙ append_assoc (u4 (length h.code))
        (h.code ++ h.behind) rest ∙ ap (λ (l : List ℕ). u4 (length h.code) ++ l)
        (append_assoc h.code h.behind rest) in
        ap (λ (l : List ℕ). code_of l >>= λ size. behind_code size.0 size.1) begin
        ∙ ap (λ (o : Option (ℕ × List ℕ)). o >>= λ size. behind_code size.0 size.1)
        (code_again h.code (h.behind ++ rest) h.some h.most)
        ∙ (exact_behind (length h.code)).again h.behind rest h.is_behind;
  }

  exact_code : Exact (past_code c) (IsCode c)
  exact_code =
      exact_as (past_code c) (Both (IsRow c (Any ∷ Any ∷ [])) IsBody) (IsCode c)
      (exact_both (past_parts c (Any ∷ Any ∷ []))
      (λ bytes. code_of bytes >>= λ size. behind_code size.0 size.1) (IsRow c (Any ∷ Any ∷ []))
      IsBody (exact_row c (Any ∷ Any ∷ [])) exact_body)
      (λ l h.
      let n = two_numbers h.first h.is_first in
      record {
        stack = n.0;
        locals = n.1;
        code = h.is_second.code;
        handlers = h.is_second.is_behind.first;
        attributes = h.is_second.is_behind.second;
        fits = (n.2, n.3);
        some = h.is_second.some;
        most = h.is_second.most;
        are_handlers = h.is_second.is_behind.is_first;
        are_attributes = h.is_second.is_behind.is_second;
        spelled = h.spelled ∙ ap (λ (x : List ℕ). x ++ h.second) n.4 ∙ append_assoc (u2 n.0)
            (u2 n.1) h.second
            ∙ ap (λ (x : List ℕ). u2 n.0 ++ (u2 n.1 ++ x))
            (h.is_second.spelled ∙ ap
            (λ (x : List ℕ). u4 (length h.is_second.code) ++ (h.is_second.code ++ x))
            h.is_second.is_behind.spelled);
      })
      (λ l h. record {
        first = u2 h.stack ++ u2 h.locals;
        second = u4 (length h.code) ++ (h.code ++ (h.handlers ++ h.attributes));
        is_first = record {
          numbers =
              h.stack ∷ h.locals ∷ [];
          pass =
              (h.fits.0, refl, (h.fits.1, refl, tt));
          spelled = refl;
        };
        is_second = record {
          code = h.code;
          some = h.some;
          most = h.most;
          behind = h.handlers ++ h.attributes;
          is_behind = record {
            first =
                h.handlers;
            second =
                h.attributes;
            is_first =
                h.are_handlers;
            is_second = h.are_attributes;
            spelled = refl;
          };
          spelled = refl;
        };
        spelled = h.spelled ∙ sym
            (append_assoc (u2 h.stack) (u2 h.locals)
            (u4 (length h.code) ++ (h.code ++ (h.handlers ++ h.attributes))));
      })

  -- ---- contents

  exact_rows : (parts : List Part)
      → Exact (past_counted (past_parts c parts)) (AreCounted (IsRow c parts))
  exact_rows parts = exact_counted (past_parts c parts) (IsRow c parts) (exact_row c parts)

  pub content_has_parts : (which : Known) (bytes : List ℕ) → AreBytes bytes
      → is_content c which bytes ≡ true → IsContent c which bytes
  unfolding is_content
  content_has_parts known.Code = whole_found (past_code c) (IsCode c) exact_code
  content_has_parts known.ConstantValue =
      whole_found (past_parts c (Any ∷ [])) (IsRow c (Any ∷ [])) (exact_row c (Any ∷ []))
  content_has_parts known.Exceptions =
      whole_found (past_counted (past_parts c exception)) (AreCounted (IsRow c exception))
      (exact_rows exception)
  content_has_parts known.Signature =
      whole_found (past_parts c one_utf8) (IsRow c one_utf8) (exact_row c one_utf8)
  content_has_parts known.Synthetic = whole_found (past_parts c []) (IsRow c []) (exact_row c [])
  content_has_parts known.Deprecated = whole_found (past_parts c []) (IsRow c []) (exact_row c [])
  content_has_parts known.SourceFile =
      whole_found (past_parts c one_utf8) (IsRow c one_utf8) (exact_row c one_utf8)
  content_has_parts known.EnclosingMethod =
      whole_found (past_parts c enclosing_method) (IsRow c enclosing_method)
      (exact_row c enclosing_method)
  content_has_parts known.InnerClasses =
      whole_found (past_counted (past_parts c inner_class)) (AreCounted (IsRow c inner_class))
      (exact_rows inner_class)
  content_has_parts known.BootstrapMethods =
      whole_found (past_counted (past_bootstrap_method c)) (AreCounted (IsBootstrapMethod c))
      (exact_counted (past_bootstrap_method c) (IsBootstrapMethod c) exact_bootstrap_method)

  pub parts_are_content : (which : Known) (bytes : List ℕ) → IsContent c which bytes
      → is_content c which bytes ≡ true
  unfolding is_content
  parts_are_content known.Code = whole_again (past_code c) (IsCode c) exact_code
  parts_are_content known.ConstantValue =
      whole_again (past_parts c (Any ∷ [])) (IsRow c (Any ∷ [])) (exact_row c (Any ∷ []))
  parts_are_content known.Exceptions =
      whole_again (past_counted (past_parts c exception)) (AreCounted (IsRow c exception))
      (exact_rows exception)
  parts_are_content known.Signature =
      whole_again (past_parts c one_utf8) (IsRow c one_utf8) (exact_row c one_utf8)
  parts_are_content known.Synthetic = whole_again (past_parts c []) (IsRow c []) (exact_row c [])
  parts_are_content known.Deprecated = whole_again (past_parts c []) (IsRow c []) (exact_row c [])
  parts_are_content known.SourceFile =
      whole_again (past_parts c one_utf8) (IsRow c one_utf8) (exact_row c one_utf8)
  parts_are_content known.EnclosingMethod =
      whole_again (past_parts c enclosing_method) (IsRow c enclosing_method)
      (exact_row c enclosing_method)
  parts_are_content known.InnerClasses =
      whole_again (past_counted (past_parts c inner_class)) (AreCounted (IsRow c inner_class))
      (exact_rows inner_class)
  parts_are_content known.BootstrapMethods =
      whole_again (past_counted (past_bootstrap_method c)) (AreCounted (IsBootstrapMethod c))
      (exact_counted (past_bootstrap_method c) (IsBootstrapMethod c) exact_bootstrap_method)

  -- ---- values

  pub value_has_part : (descriptor bytes : List ℕ) → AreBytes bytes
      → is_value_of c descriptor bytes ≡ true → IsValueOf c descriptor bytes
  value_has_part descriptor bytes are e = of (value_kind descriptor) refl e
    where
      of : (found : Option Kind) → value_kind descriptor ≡ found
          → option_map_or (λ kind. is_row c (Names kind ∷ []) bytes) found false ≡ true
          → IsValueOf c descriptor bytes
      of None is f = absurd cc
      of (Some kind) is f = (
        kind,
        is,
        whole_found (past_parts c (Names kind ∷ [])) (IsRow c (Names kind ∷ []))
            (exact_row c (Names kind ∷ [])) bytes are f,
      )

  pub part_is_value : (descriptor bytes : List ℕ) → IsValueOf c descriptor bytes
      → is_value_of c descriptor bytes ≡ true
  part_is_value descriptor bytes h =
      ap (λ (o : Option Kind). option_map_or (λ kind. is_row c (Names kind ∷ []) bytes) o false) h.1
      ∙ whole_again (past_parts c (Names h.0 ∷ [])) (IsRow c (Names h.0 ∷ []))
      (exact_row c (Names h.0 ∷ [])) bytes h.2
