-- At most one answer is correct for given bytes.
-- For `read_class`.
use Rattle.std.proofs.Common.{◌≡◌, ◌⊎◌, inl, inr, ⊎_elim, ℕ, List, Some, None, Result, Ok, Err}
use Rattle.std.proofs.Common.{refl, sym, ap, ◌∙◌}
use Rattle.cm_class.specs.declared.class_file.ClassFile.{ClassFile}
use Rattle.cm_class.specs.declared.fault.ShapeFault.{ShapeFault}
use Rattle.cm_class.specs.declared.fault.ShapeFault.TheVariants as shapes
use Rattle.cm_class.specs.Shape.{IsSpelling, IsAnswer}
use Rattle.cm_class.proofs.{one_answer}
use Rattle.cm_rules.specs.declared.rule.Broken.{Broken}
use Rattle.cm_rules.specs.declared.fault.BadClass.TheVariants.{Truncated, Trailing, Malformed}
use Rattle.cm_rules.specs.declared.fault.BadClass.TheVariants.{Rule}
use Rattle.cm_rules.specs.declared.fault.ClassFault.{ClassFault}
use Rattle.cm_rules.specs.declared.fault.ClassFault.TheVariants.{Bad, NoMemory}
use Rattle.cm_rules.specs.Fault.{fault}
use Rattle.cm_rules.specs.Answer.{IsReading, IsUnlessRefused}

abbrev Shape : Type 0
Shape = Result ClassFile ShapeFault

abbrev Reading : Type 0
Reading = Result ClassFile ClassFault

-- what each answer says about the shape
abbrev shape_of : (bytes : List ℕ) (r : Reading) → IsReading bytes r → Shape
shape_of bytes (Ok c) h = Ok c
shape_of bytes (Err (Bad Truncated)) h = Err shapes.Truncated
shape_of bytes (Err (Bad (Trailing at))) h = Err (shapes.Trailing at)
shape_of bytes (Err (Bad (Malformed at))) h = Err (shapes.Malformed at)
shape_of bytes (Err (Bad (Rule broken))) h = Ok h.0
shape_of bytes (Err NoMemory) h = Err shapes.NoMemory

shape_is : (bytes : List ℕ) (r : Reading) (h : IsReading bytes r)
    → IsAnswer bytes (shape_of bytes r h)
shape_is bytes (Ok c) h = h.spelled
shape_is bytes (Err (Bad Truncated)) h = h
shape_is bytes (Err (Bad (Trailing at))) h = h
shape_is bytes (Err (Bad (Malformed at))) h = h
shape_is bytes (Err (Bad (Rule broken))) h = h.1
shape_is bytes (Err NoMemory) h = absurd h

-- answers with the same shape are the same
same_shape : (bytes : List ℕ) (r s : Reading) (h : IsReading bytes r) (k : IsReading bytes s)
    → shape_of bytes r h ≡ shape_of bytes s k → r ≡ s
same_shape bytes (Ok c) (Ok d) h k e =
    let same : c ≡ d = cc in ap (λ (x : ClassFile). let r : Reading = Ok x in r) same
same_shape bytes (Ok c) (Err (Bad Truncated)) h k e = absurd cc
same_shape bytes (Ok c) (Err (Bad (Trailing n))) h k e = absurd cc
same_shape bytes (Ok c) (Err (Bad (Malformed n))) h k e = absurd cc
same_shape bytes (Ok c) (Err (Bad (Rule b))) h k e =
    let same : c ≡ k.0 =
    cc in let both : None ≡ Some b = sym h.kept ∙ ap fault same ∙ k.2 in absurd cc
same_shape bytes (Ok c) (Err NoMemory) h k e = absurd k
same_shape bytes (Err (Bad Truncated)) (Ok d) h k e = absurd cc
same_shape bytes (Err (Bad Truncated)) (Err (Bad Truncated)) h k e = refl
same_shape bytes (Err (Bad Truncated)) (Err (Bad (Trailing n))) h k e = absurd cc
same_shape bytes (Err (Bad Truncated)) (Err (Bad (Malformed n))) h k e = absurd cc
same_shape bytes (Err (Bad Truncated)) (Err (Bad (Rule b))) h k e = absurd cc
same_shape bytes (Err (Bad Truncated)) (Err NoMemory) h k e = absurd k
same_shape bytes (Err (Bad (Trailing m))) (Ok d) h k e = absurd cc
same_shape bytes (Err (Bad (Trailing m))) (Err (Bad Truncated)) h k e = absurd cc
same_shape bytes (Err (Bad (Trailing m))) (Err (Bad (Trailing n))) h k e =
    let same : m ≡ n = cc in ap (λ (x : ℕ). let r : Reading = Err (Bad (Trailing x)) in r) same
same_shape bytes (Err (Bad (Trailing m))) (Err (Bad (Malformed n))) h k e = absurd cc
same_shape bytes (Err (Bad (Trailing m))) (Err (Bad (Rule b))) h k e = absurd cc
same_shape bytes (Err (Bad (Trailing m))) (Err NoMemory) h k e = absurd k
same_shape bytes (Err (Bad (Malformed m))) (Ok d) h k e = absurd cc
same_shape bytes (Err (Bad (Malformed m))) (Err (Bad Truncated)) h k e = absurd cc
same_shape bytes (Err (Bad (Malformed m))) (Err (Bad (Trailing n))) h k e = absurd cc
same_shape bytes (Err (Bad (Malformed m))) (Err (Bad (Malformed n))) h k e =
    let same : m ≡ n = cc in ap (λ (x : ℕ). let r : Reading = Err (Bad (Malformed x)) in r) same
same_shape bytes (Err (Bad (Malformed m))) (Err (Bad (Rule b))) h k e = absurd cc
same_shape bytes (Err (Bad (Malformed m))) (Err NoMemory) h k e = absurd k
same_shape bytes (Err (Bad (Rule a))) (Ok d) h k e =
    let same : h.0 ≡ d =
    cc in let both : Some a ≡ None = sym h.2 ∙ ap fault same ∙ k.kept in absurd cc
same_shape bytes (Err (Bad (Rule a))) (Err (Bad Truncated)) h k e = absurd cc
same_shape bytes (Err (Bad (Rule a))) (Err (Bad (Trailing n))) h k e = absurd cc
same_shape bytes (Err (Bad (Rule a))) (Err (Bad (Malformed n))) h k e = absurd cc
same_shape bytes (Err (Bad (Rule a))) (Err (Bad (Rule b))) h k e =
    let same : h.0 ≡ k.0 =
    cc in let both : Some a ≡ Some b =
    sym h.2 ∙ ap fault same ∙ k.2 in let one : a ≡ b =
    cc in ap (λ (x : Broken). let r : Reading = Err (Bad (Rule x)) in r) one
same_shape bytes (Err (Bad (Rule a))) (Err NoMemory) h k e = absurd k
same_shape bytes (Err NoMemory) (Ok d) h k e = absurd h
same_shape bytes (Err NoMemory) (Err (Bad Truncated)) h k e = absurd h
same_shape bytes (Err NoMemory) (Err (Bad (Trailing n))) h k e = absurd h
same_shape bytes (Err NoMemory) (Err (Bad (Malformed n))) h k e = absurd h
same_shape bytes (Err NoMemory) (Err (Bad (Rule b))) h k e = absurd h
same_shape bytes (Err NoMemory) (Err NoMemory) h k e = absurd h

pub one_reading : (bytes : List ℕ) (r s : Reading) → IsReading bytes r → IsReading bytes s → r ≡ s
one_reading bytes r s h k =
    same_shape bytes r s h k
    (one_answer bytes (shape_of bytes r h) (shape_of bytes s k) (shape_is bytes r h)
    (shape_is bytes s k))

-- the result is correct, or an allocation failed
answered : (bytes : List ℕ) (r : Reading) → IsUnlessRefused bytes r → IsReading bytes r
    ⊎ ((r ≡ Err NoMemory) × IsSpelling bytes)
answered bytes (Ok c) h = inl h
answered bytes (Err (Bad Truncated)) h = inl h
answered bytes (Err (Bad (Trailing at))) h = inl h
answered bytes (Err (Bad (Malformed at))) h = inl h
answered bytes (Err (Bad (Rule broken))) h = inl h
answered bytes (Err NoMemory) h = inr (refl, h)

pub only_reading : (bytes : List ℕ) (r : Reading) → IsUnlessRefused bytes r → (s : Reading)
    → IsReading bytes s → (r ≡ s) ⊎ ((r ≡ Err NoMemory) × IsSpelling bytes)
only_reading bytes r h s k =
    ⊎_elim (λ mine. inl (one_reading bytes r s mine k)) (λ e. inr e) (answered bytes r h)
