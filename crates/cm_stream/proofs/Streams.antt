-- Reading a stream from its front.
-- For `classes_in`, `split`.
use Rattle.std.proofs.Common.{◌≡◌, ℕ, ◌+◌, ◌^◌, ◌<◌, ◌≤◌, true, false, ltb, List, [], ◌∷◌, ◌++◌}
use Rattle.std.proofs.Common.{length, take, drop, Option, Some, None, Result, Ok, Err, refl, sym}
use Rattle.std.proofs.Common.{ap, subst, ◌∙◌, append_assoc, arith}
use Rattle.std.specs.Prelude.{IfOk, IfErr, option_and_then}
use Rattle.std.specs.Int.{w32, to_be_bytes, from_be_bytes}
use Rattle.std.proofs.lemmas.Bool.{ltb-false, ltb-true, le-ltb, lt-ltb}
use Rattle.std.proofs.lemmas.List.{take_at, drop_at, take-append-drop, length-append, length-take}
use Rattle.std.proofs.lemmas.List.{length-drop, append-nil, flat_map_more}
use Rattle.std.proofs.lemmas.List.Concat.{flat_map-cons}
use Rattle.std.proofs.lemmas.Option.{option_and_then_some, some_pair_parts}
use Rattle.cm_stream.specs.Stream.{frame, stream_of, FitsStream, AllFit, EndsInClass, number_at}
use Rattle.cm_stream.specs.Stream.{piece_at}
use Rattle.cm_stream.specs.Stream.{first_at, EndsEarly, IsStreamFault, GivesClasses}
use Rattle.cm_stream.specs.declared.stream.StreamFault.{StreamFault}
use Rattle.cm_stream.specs.declared.stream.StreamFault.TheVariants.{InLength, InClass, NoMemory}
use Rattle.cm_stream.proofs.Numbers.{IsBytes, IsBytes-drop, let_through, held_back, wide32}
use Rattle.cm_stream.proofs.Numbers.{TakesNumber, number_takes, number_again, number_short}
use Rattle.cm_stream.proofs.Numbers.{number_long}

-- a class that was read from the front of a stream
pub record TakesClass (bytes class behind : List ℕ) : Type 0 where
  pub parts : bytes ≡ frame class ++ behind
  pub fits : FitsStream class
  pub shorter : length behind < length bytes

piece_takes : (bytes : List ℕ) (n : ℕ) (rest : List ℕ) → TakesNumber w32 (2 ^ 32) bytes n rest
    → (class behind : List ℕ) → piece_at (n, rest) ≡ Some (class, behind)
    → TakesClass bytes class behind
piece_takes bytes n rest t class behind e =
    let g = let_through (ltb (length rest) n) (take n rest, drop n rest) (class, behind) e in
    let long : n ≤ length rest = ltb-false _ _ g.0 in
    let len : length (take n rest) ≡ n = omega (arith, length-take n rest) in
    let framed : frame (take n rest) ++ drop n rest ≡ to_be_bytes w32 n ++ rest =
    append_assoc (to_be_bytes w32 (length (take n rest))) (take n rest) (drop n rest)
    ∙ ap (λ (x : List ℕ). to_be_bytes w32 (length (take n rest)) ++ x) (take-append-drop n rest)
    ∙ ap (λ (k : ℕ). to_be_bytes w32 k ++ rest) len in
    subst (λ (p : List ℕ × List ℕ). TakesClass bytes p.0 p.1) g.1 (record {
      parts = t.parts ∙ sym framed;
      fits = omega (arith, len, t.below);
      shorter = omega (arith, t.len, length-drop n rest);
    })

pub first_takes : (bytes class behind : List ℕ) → IsBytes bytes
    → first_at bytes ≡ Some (class, behind) → TakesClass bytes class behind
unfolding first_at
first_takes bytes class behind fits e =
    option_and_then_some piece_at (number_at w32 bytes) (class, behind) e
    (λ n read then.
    piece_takes bytes n.0 n.1 (number_takes w32 (2 ^ 32) wide32 bytes n.0 n.1 fits read) class
    behind then)

pub first_again : (class rest : List ℕ) → FitsStream class
    → first_at (frame class ++ rest) ≡ Some (class, rest)
unfolding first_at
first_again class rest fits =
    let regrouped : frame class ++ rest ≡ to_be_bytes w32 (length class) ++ (class ++ rest) =
    append_assoc (to_be_bytes w32 (length class)) class rest in
    let long : ltb (length (class ++ rest)) (length class) ≡ false =
    le-ltb _ _ (omega (arith, length-append class rest)) in
    ap first_at regrouped ∙ rw (
      number_again w32 (2 ^ 32) wide32 (length class) (class ++ rest) fits,
      long,
      take_at class rest (length class) refl,
      drop_at class rest (length class) refl,
    ) refl

pub none_first : (rest : List ℕ) → 4 ≤ length rest → first_at rest ≡ None → EndsInClass rest
unfolding first_at
none_first rest long e =
    let n = from_be_bytes w32 (take 4 rest) in
    let piece : piece_at (n, drop 4 rest) ≡ None =
    sym (ap (option_and_then piece_at) (number_long w32 rest long)) ∙ e in
    let short : length (drop 4 rest) < n =
    ltb-true _ _
    (held_back (ltb (length (drop 4 rest)) n) (take n (drop 4 rest), drop n (drop 4 rest))
    piece) in
    (long, omega (arith, short, length-drop 4 rest))

pub ends_in_length : (rest : List ℕ) → length rest < 4 → first_at rest ≡ None
unfolding first_at
ends_in_length rest lt = ap (option_and_then piece_at) (number_short w32 rest lt)

pub ends_in_class : (rest : List ℕ) → EndsInClass rest → first_at rest ≡ None
unfolding first_at
ends_in_class rest h =
    let n = from_be_bytes w32 (take 4 rest) in
    let short : ltb (length (drop 4 rest)) n ≡ true =
    lt-ltb _ _ (omega (arith, h.0, h.1, length-drop 4 rest)) in
    ap (option_and_then piece_at) (number_long w32 rest h.0) ∙ rw short refl

-- ---- one class after another

all_fit_push : (front : List (List ℕ)) (class : List ℕ) → AllFit front → FitsStream class
    → AllFit (front ++ class ∷ [])
all_fit_push [] class all fits = (fits, tt)
all_fit_push (c ∷ cs) class all fits = (all.0, all_fit_push cs class all.1 fits)

-- what is known of the classes so far and the bytes that are left
pub record Split (bytes : List ℕ) (front : List (List ℕ)) (rest : List ℕ) : Type 0 where
  pub fit : AllFit front
  pub whole : bytes ≡ stream_of front ++ rest

pub rest_fits : (bytes : List ℕ) (front : List (List ℕ)) (rest : List ℕ) → IsBytes bytes
    → bytes ≡ stream_of front ++ rest → IsBytes rest
rest_fits bytes front rest fits e =
    let known : drop (length (stream_of front)) bytes ≡ rest =
    ap (λ (x : List ℕ). drop (length (stream_of front)) x) e ∙ drop_at (stream_of front) rest
    (length (stream_of front)) refl in
    rw (← known) (IsBytes-drop (length (stream_of front)) bytes fits)

pub rest_place : (bytes : List ℕ) (front : List (List ℕ)) (rest : List ℕ)
    → bytes ≡ stream_of front ++ rest → length bytes ≡ length (stream_of front) + length rest
rest_place bytes front rest e = rw e (length-append (stream_of front) rest)

pub goes_on : (bytes : List ℕ) (front : List (List ℕ)) (rest class behind : List ℕ) → AllFit front
    → bytes ≡ stream_of front ++ rest → TakesClass rest class behind
    → Split bytes (front ++ class ∷ []) behind
goes_on bytes front rest class behind fit e t =
    record {
      fit = all_fit_push front class fit t.fits;
      whole = e ∙ ap (λ (x : List ℕ). stream_of front ++ x) t.parts
          ∙ sym (append_assoc (stream_of front) (frame class) behind)
          ∙ ap (λ (x : List ℕ). x ++ behind) (flat_map_more frame [] front class);
    }

-- ---- one stream, one list of classes

none_is_some : {A B : Type 0} (x : A) → ◌≡◌ {A = Option A} None (Some x) → B
none_is_some x e = absurd cc

pub one_split : (these those : List (List ℕ)) (rest : List ℕ) → AllFit these → AllFit those
    → stream_of these ≡ stream_of those ++ rest → first_at rest ≡ None
    → (these ≡ those) × (rest ≡ [])
one_split [] [] rest fit fits e none = (refl, sym e)
one_split (a ∷ xs) [] rest fit fits e none =
    let front : first_at rest ≡ Some (a, stream_of xs) =
    ap first_at (sym e ∙ flat_map-cons frame a xs) ∙ first_again a (stream_of xs) fit.0 in
    none_is_some (a, stream_of xs) (sym none ∙ front)
one_split [] (b ∷ ys) rest fit fits e none =
    let regrouped : stream_of (b ∷ ys) ++ rest ≡ frame b ++ (stream_of ys ++ rest) =
    ap (λ (x : List ℕ). x ++ rest) (flat_map-cons frame b ys) ∙ append_assoc (frame b)
    (stream_of ys) rest in
    let front : first_at [] ≡ Some (b, stream_of ys ++ rest) =
    ap first_at (e ∙ regrouped) ∙ first_again b (stream_of ys ++ rest) fits.0 in
    none_is_some (b, stream_of ys ++ rest) (sym (ends_in_length [] (omega arith)) ∙ front)
one_split (a ∷ xs) (b ∷ ys) rest fit fits e none =
    let regrouped : stream_of (b ∷ ys) ++ rest ≡ frame b ++ (stream_of ys ++ rest) =
    ap (λ (x : List ℕ). x ++ rest) (flat_map-cons frame b ys) ∙ append_assoc (frame b)
    (stream_of ys) rest in
    let left : first_at (frame a ++ stream_of xs) ≡ Some (a, stream_of xs) =
    first_again a (stream_of xs) fit.0 in
    let right : first_at (frame a ++ stream_of xs) ≡ Some (b, stream_of ys ++ rest) =
    ap first_at (sym (flat_map-cons frame a xs) ∙ e ∙ regrouped) ∙ first_again b
    (stream_of ys ++ rest) fits.0 in
    let same = some_pair_parts a b (stream_of xs) (stream_of ys ++ rest) (sym left ∙ right) in
    let others = one_split xs ys rest fit.1 fits.1 same.1 none in
    (ap (λ (c : List ℕ). c ∷ xs) same.0 ∙ ap (λ (cs : List (List ℕ)). b ∷ cs) others.0, others.1)

pub only_memory : (bytes : List ℕ) (classes : List (List ℕ)) (fault : StreamFault) → AllFit classes
    → bytes ≡ stream_of classes → IsStreamFault bytes fault → fault ≡ NoMemory
only_memory bytes classes (InLength at) fit e h =
    let same = one_split classes h.classes h.rest fit h.fit (sym e ∙ h.whole)
    (ends_in_length h.rest h.early.1) in
    let none : length h.rest ≡ 0 = rw same.1 refl in
    absurd (omega (arith, none, h.early.0))
only_memory bytes classes (InClass at) fit e h =
    let same = one_split classes h.classes h.rest fit h.fit (sym e ∙ h.whole)
    (ends_in_class h.rest h.early) in
    let none : length h.rest ≡ 0 = rw same.1 refl in
    absurd (omega (arith, none, h.early.0))
only_memory bytes classes NoMemory fit e h = refl

pub only_these : (bytes : List ℕ) (found classes : List (List ℕ)) → AllFit found
    → bytes ≡ stream_of found → AllFit classes → bytes ≡ stream_of classes → found ≡ classes
only_these bytes found classes fit e fits g =
    (one_split found classes [] fit fits (sym e ∙ g ∙ sym (append-nil (stream_of classes)))
    (ends_in_length [] (omega arith))).0

pub answered : {X : Type 0} (view : X → List (List ℕ)) (bytes : List ℕ)
    (result : Result X StreamFault)
    → IfOk result (λ v. AllFit (view v) × (bytes ≡ stream_of (view v)))
    → IfErr result (IsStreamFault bytes)
    → (classes : List (List ℕ)) → AllFit classes → bytes ≡ stream_of classes
    → GivesClasses view classes result
answered view bytes (Ok v) ok fault classes fit e =
    only_these bytes (view v) classes ok.0 ok.1 fit e
answered view bytes (Err f) ok fault classes fit e = only_memory bytes classes f fit e fault

pub ends_early : (bytes : List ℕ) (front : List (List ℕ)) (rest : List ℕ) (at : ℕ)
    (EndsIn : List ℕ → Type 0) → AllFit front → bytes ≡ stream_of front ++ rest
    → at + length rest ≡ length bytes → EndsIn rest → EndsEarly bytes at EndsIn
ends_early bytes front rest at EndsIn fit e place early =
    record {
      classes =
          front;
      rest =
          rest;
      fit = fit;
      whole =
          e;
      place = omega (arith, place, rest_place bytes front rest e);
      early = early;
    }
