-- How lines and words make up a text.
-- On `pieces`, `LinesMakeScript`, `OneSpelling`.
use Rattle.std.proofs.Common.{◌≡◌, ◌≢◌, ◌<◌, ◌⊎◌, ℕ, Bool, true, false, cond, ◌&&◌, eqb, ltb, List}
use Rattle.std.proofs.Common.{[]}
use Rattle.std.proofs.Common.{◌∷◌, ◌++◌, length, All, Option, Some, None, inl, inr, refl, sym, ap}
use Rattle.std.proofs.Common.{subst, ◌∙◌, append_assoc, append-nil, eq-eqb, arith}
use Rattle.std.specs.Prelude.{codes}
use Rattle.std.specs.List.{AllByRecursion, onto_first, join_with_byte, flat_map, list_all}
use Rattle.std.specs.Str.{bytes_eq}
use Rattle.std.proofs.lemmas.Bool.{lt-ltb, ltb-true, and_parts}
use Rattle.std.proofs.lemmas.List.Elements.{All-nil, All-cons, All-from_recursion}
use Rattle.std.proofs.lemmas.List.Elements.{recursion_from_All}
use Rattle.std.proofs.lemmas.List.Splits.{join_with_byte-slice_split}
use Rattle.std.proofs.lemmas.Slice.Eq.{bytes_eq-Decides}
use Rattle.cm_lines.specs.Lines.{Asked, AsksLoader, AsksUnload, AsksTighten, AsksDefine, AsksFind}
use Rattle.cm_lines.specs.Lines.{pieces, without_empty_rest, lines_of, is_word, request_in}
use Rattle.cm_lines.specs.Lines.{AsksUnloadAll, are_words, request_of_few, request_of_words}
use Rattle.cm_lines.specs.Laws.{put_together, LinesMakeScript, IsWord, AreWords, spelled}
use Rattle.cm_lines.specs.Laws.{OneSpelling}
use Rattle.cm_lines.proofs.Cuts.{pieces_cut, pieces_none}

-- ---- no piece has the byte at which the text is cut

onto_clean : (at b : ℕ) (parts : List (List ℕ)) → b ≢ at → AllByRecursion (All (λ c. c ≢ at)) parts
    → AllByRecursion (All (λ c. c ≢ at)) (onto_first b parts)
onto_clean at b [] other clean = (All-cons (λ c. c ≢ at) b [] other (All-nil (λ c. c ≢ at)), tt)
onto_clean at b (part ∷ parts) other clean = (All-cons (λ c. c ≢ at) b part other clean.0, clean.1)

pub pieces_clean : (at : ℕ) (text : List ℕ) → AllByRecursion (All (λ c. c ≢ at)) (pieces at text)
pieces_clean at [] = (All-nil (λ c. c ≢ at), tt)
pieces_clean at (b ∷ text) = chosen (pieces_clean at text) (eqb b at) refl
  where
    chosen : AllByRecursion (All (λ c. c ≢ at)) (pieces at text) → (t : Bool) → eqb b at ≡ t
        → AllByRecursion (All (λ c. c ≢ at))
        (cond t ([] ∷ pieces at text) (onto_first b (pieces at text)))
    chosen clean true e = (All-nil (λ c. c ≢ at), clean)
    chosen clean false e =
        onto_clean at b (pieces at text)
        (λ same. let f : eqb b at ≡ true = eq-eqb b at same in (cc)) clean

-- ---- lines

kept_clean : (P : List ℕ → Type 0) (parts : List (List ℕ)) → AllByRecursion P parts
    → AllByRecursion P (without_empty_rest parts)
kept_clean P [] clean = tt
kept_clean P (rest ∷ []) clean = chosen (ltb 0 (length rest))
  where
    chosen : (t : Bool) → AllByRecursion P (cond t (rest ∷ []) [])
    chosen true = clean
    chosen false = tt
kept_clean P (line ∷ next ∷ more) clean = (clean.0, kept_clean P (next ∷ more) clean.1)

together : (parts : List (List ℕ))
    → (put_together (without_empty_rest parts) ≡ join_with_byte 10 parts)
    ⊎ (put_together (without_empty_rest parts) ≡ join_with_byte 10 parts ++ 10 ∷ [])
together [] = inl refl
together ([] ∷ []) = inl refl
together ((b ∷ rest) ∷ []) =
    let some : ltb 0 (length (b ∷ rest)) ≡ true = lt-ltb 0 (length (b ∷ rest)) (omega arith) in
    inr (ap (λ t. put_together (cond t ((b ∷ rest) ∷ []) [])) some ∙ append-nil
    ((b ∷ rest) ++ 10 ∷ []))
together (line ∷ next ∷ more) = joined (together (next ∷ more))
  where
    joined : (put_together (without_empty_rest (next ∷ more)) ≡ join_with_byte 10 (next ∷ more))
        ⊎ (put_together (without_empty_rest (next ∷ more)) ≡ join_with_byte 10 (next ∷ more)
        ++ 10 ∷ [])
        → (put_together (line ∷ without_empty_rest (next ∷ more)) ≡ line
        ++ (10 ∷ join_with_byte 10 (next ∷ more)))
        ⊎ (put_together (line ∷ without_empty_rest (next ∷ more))
        ≡ (line ++ (10 ∷ join_with_byte 10 (next ∷ more))) ++ 10 ∷ [])
    joined (inl e) =
        inl (ap (λ l. (line ++ 10 ∷ []) ++ l) e ∙ append_assoc line (10 ∷ [])
        (join_with_byte 10 (next ∷ more)))
    joined (inr e) =
        inr (ap (λ l. (line ++ 10 ∷ []) ++ l) e ∙ append_assoc line (10 ∷ [])
        (join_with_byte 10 (next ∷ more) ++ 10 ∷ [])
        ∙ sym (append_assoc line (10 ∷ join_with_byte 10 (next ∷ more)) (10 ∷ [])))

pub lines_make_script : LinesMakeScript
lines_make_script script =
    let joined = join_with_byte-slice_split 10 script in (
      All-from_recursion (All (λ b. b ≢ 10)) (lines_of script)
          (kept_clean (All (λ b. b ≢ 10)) (pieces 10 script) (pieces_clean 10 script)),
      subst (λ l. (put_together (lines_of script) ≡ l)
          ⊎ (put_together (lines_of script) ≡ l ++ 10 ∷ [])) joined (together (pieces 10 script)),
    )

-- ---- words

IsClean : List ℕ → Type 0
IsClean text = All (λ b. b ≢ 32) text

IsSpelled : List ℕ → Asked → Type 0
IsSpelled line request = (line ≡ spelled request) × AreWords request

word : (text : List ℕ) → is_word text ≡ true → IsClean text → IsWord text
unfolding IsClean
word text some clean = (ltb-true 0 (length text) some, clean)

words : (texts : List (List ℕ)) → list_all is_word texts ≡ true → AllByRecursion IsClean texts
    → AllByRecursion IsWord texts
words [] some clean = tt
words (text ∷ texts) some clean =
    let t = and_parts (is_word text) (list_all is_word texts) some in
    (word text t.0 clean.0, words texts t.1 clean.1)

-- names with a space before each
abbrev spaced : List (List ℕ) → List ℕ
spaced names = flat_map (λ name. 32 ∷ name) names

spaced_joined : (first : List ℕ) (more : List (List ℕ))
    → join_with_byte 32 (first ∷ more) ≡ first ++ spaced more
spaced_joined first [] = sym (append-nil first)
spaced_joined first (next ∷ more) = ap (λ l. first ++ 32 ∷ l) (spaced_joined next more)

-- ---- a request is spelled

chosen : (t : Bool) (x y : Asked) (rest : Option Asked) → cond t (Some x) rest ≡ Some y
    → ((t ≡ true) × (x ≡ y)) ⊎ (rest ≡ Some y)
chosen true x y rest e = inl (refl, (cc))
chosen false x y rest e = inr e

module _ (verb line : List ℕ) (request : Asked) where
  -- the request is that of the verb, or otherwise that of the other verbs
  by_verb : (said behind : List ℕ) (are : Bool) (asked : Asked) (rest : Option Asked)
      → verb ++ behind ≡ line → (are ≡ true → IsSpelled (said ++ behind) asked)
      → (rest ≡ Some request → IsSpelled line request)
      → cond (bytes_eq verb said && are) (Some asked) rest ≡ Some request
      → IsSpelled line request
  by_verb said behind are asked rest joined spells other e =
      picked (chosen (bytes_eq verb said && are) asked request rest e)
    where
      picked : (((bytes_eq verb said && are) ≡ true) × (asked ≡ request))
          ⊎ (rest ≡ Some request) → IsSpelled line request
      picked (inl h) =
          let t = and_parts (bytes_eq verb said) are h.0 in
          let is = (bytes_eq-Decides verb said).0 t.0 in
          subst (λ q. IsSpelled line q) h.1
          (subst (λ l. IsSpelled l asked) (ap (λ v. v ++ behind) (sym is) ∙ joined) (spells t.1))
      picked (inr f) = other f

of_few : (verb : List ℕ) (names : List (List ℕ)) (line : List ℕ) (request : Asked)
    → join_with_byte 32 (verb ∷ names) ≡ line → AllByRecursion IsClean names
    → request_of_few verb names ≡ Some request → IsSpelled line request
unfolding IsSpelled
of_few verb [] line request joined clean e = absurd (cc)
of_few verb (name ∷ []) line request joined clean e =
    by_verb verb line request (codes "loader") (32 ∷ name) (is_word name) (AsksLoader name) _
    joined (λ some. (refl, word name some clean.0))
    (by_verb verb line request (codes "unload") (32 ∷ name) (is_word name) (AsksUnload name) _
    joined (λ some. (refl, word name some clean.0))
    (by_verb verb line request (codes "tighten") (32 ∷ name) (is_word name) (AsksTighten name) None
    joined (λ some. (refl, word name some clean.0))
    (λ f. absurd (cc)))) e
of_few verb (name ∷ last ∷ []) line request joined clean e =
    by_verb verb line request (codes "define") (32 ∷ (name ++ 32 ∷ last))
    (is_word name && is_word last) (AsksDefine name last) _ joined
    (λ some. (refl, both some))
    (by_verb verb line request (codes "find") (32 ∷ (name ++ 32 ∷ last))
    (is_word name && is_word last) (AsksFind name last) None joined
    (λ some. (refl, both some))
    (λ f. absurd (cc))) e
  where
    both : (is_word name && is_word last) ≡ true → IsWord name × IsWord last
    both some =
        let t = and_parts (is_word name) (is_word last) some in
        (word name t.0 clean.0, word last t.1 clean.1.0)
of_few verb (name ∷ last ∷ further ∷ more) line request joined clean e = absurd (cc)

of_pieces : (parts : List (List ℕ)) (line : List ℕ) (request : Asked)
    → join_with_byte 32 parts ≡ line → AllByRecursion IsClean parts
    → request_of_words parts ≡ Some request → IsSpelled line request
unfolding IsSpelled
of_pieces [] line request joined clean e = absurd (cc)
of_pieces (verb ∷ names) line request joined clean e =
    by_verb verb line request (codes "unloadall") (spaced names) (are_words names)
    (AsksUnloadAll names) (request_of_few verb names)
    (sym (spaced_joined verb names) ∙ joined) (λ some. (refl, all some))
    (of_few verb names line request joined clean.1) e
  where
    all : are_words names ≡ true → (0 < length names) × All IsWord names
    all some =
        let t = and_parts (ltb 0 (length names)) (list_all is_word names) some in (
          ltb-true 0 (length names) t.0,
          All-from_recursion IsWord names (words names t.1 clean.1),
        )

-- ---- what is spelled is a request

is_some_word : (text : List ℕ) → IsWord text → is_word text ≡ true
is_some_word text w = lt-ltb 0 (length text) w.0

all_some_words : (texts : List (List ℕ)) → AllByRecursion IsWord texts
    → list_all is_word texts ≡ true
all_some_words [] w = refl
all_some_words (text ∷ texts) w =
    ap (λ t. t && list_all is_word texts) (is_some_word text w.0) ∙ all_some_words texts w.1

pieces_spaced : (first : List ℕ) (more : List (List ℕ)) → IsWord first
    → AllByRecursion IsWord more → pieces 32 (first ++ spaced more) ≡ first ∷ more
pieces_spaced first [] w ws = ap (pieces 32) (append-nil first) ∙ pieces_none 32 first w.1
pieces_spaced first (next ∷ more) w ws =
    pieces_cut 32 (first ++ 32 ∷ (next ++ spaced more)) first (next ++ spaced more) refl w.1
    ∙ ap (λ l. first ∷ l) (pieces_spaced next more ws.0 ws.1)

are_some_words : (texts : List (List ℕ)) → 0 < length texts → AllByRecursion IsWord texts
    → are_words texts ≡ true
are_some_words texts some w =
    ap (λ t. t && list_all is_word texts) (lt-ltb 0 (length texts) some) ∙ all_some_words texts w

-- the request of a verb with one name, and of one with two
asks_one : (verb name : List ℕ) (asked : Asked) → IsWord name
    → request_of_words (verb ∷ name ∷ []) ≡ cond (is_word name) (Some asked) None
    → request_of_words (verb ∷ pieces 32 name) ≡ Some asked
asks_one verb name asked w is =
    ap (λ l. request_of_words (verb ∷ l)) (pieces_none 32 name w.1) ∙ is
    ∙ ap (λ t. cond t (Some asked) None) (is_some_word name w)

asks_two : (verb name last : List ℕ) (asked : Asked) → IsWord name × IsWord last
    → request_of_words (verb ∷ name ∷ last ∷ [])
    ≡ cond (is_word name && is_word last) (Some asked) None
    → request_of_words (verb ∷ pieces 32 (name ++ 32 ∷ last)) ≡ Some asked
asks_two verb name last asked w is =
    ap (λ l. request_of_words (verb ∷ l))
    (pieces_cut 32 (name ++ 32 ∷ last) name last refl w.0.1 ∙ ap (λ l. name ∷ l)
    (pieces_none 32 last w.1.1))
    ∙ is ∙ ap (λ t. cond (t && is_word last) (Some asked) None) (is_some_word name w.0)
    ∙ ap (λ t. cond t (Some asked) None) (is_some_word last w.1)

asks_all : (names : List (List ℕ)) → (0 < length names) × All IsWord names
    → request_in (spelled (AsksUnloadAll names)) ≡ Some (AsksUnloadAll names)
asks_all [] w = absurd (omega (arith, w.0))
asks_all (name ∷ more) w =
    let ws = recursion_from_All IsWord (name ∷ more) w.1 in
    ap (λ l. request_of_words (codes "unloadall" ∷ l)) (pieces_spaced name more ws.0 ws.1)
    ∙ ap (λ t. cond t (Some (AsksUnloadAll (name ∷ more)))
    (request_of_few (codes "unloadall") (name ∷ more))) (are_some_words (name ∷ more) w.0 ws)

asks : (request : Asked) → AreWords request → request_in (spelled request) ≡ Some request
asks (AsksLoader name) w = asks_one (codes "loader") name (AsksLoader name) w refl
asks (AsksUnload name) w = asks_one (codes "unload") name (AsksUnload name) w refl
asks (AsksTighten name) w = asks_one (codes "tighten") name (AsksTighten name) w refl
asks (AsksDefine loader digits) w =
    asks_two (codes "define") loader digits (AsksDefine loader digits) w refl
asks (AsksFind loader name) w = asks_two (codes "find") loader name (AsksFind loader name) w refl
asks (AsksUnloadAll names) w = asks_all names w

pub one_spelling : OneSpelling
unfolding IsSpelled IsClean
one_spelling line request = (
  λ e. of_pieces (pieces 32 line) line request (join_with_byte-slice_split 32 line)
      (pieces_clean 32 line) e,
  λ h. ap request_in h.0 ∙ asks request h.1,
)
