-- The search for the records on a chunk, from the newest entry back.
-- For `are_kept`, `are_on`, `are_same` and others.
use Rattle.std.proofs.Common.{◌≡◌, ℕ, zero, suc, ◌+◌, ◌<◌, Bool, true, false, cond, List, [], ◌∷◌}
use Rattle.std.proofs.Common.{◌++◌, map, length, take, get_or, Option, Some, None, refl, sym, ap}
use Rattle.std.proofs.Common.{◌∙◌, arith}
use Rattle.std.specs.Prelude.{◌↔◌, MatchOption, not}
use Rattle.std.specs.Option.{option_map, option_map_or}
use Rattle.cm_pool.specs.declared.chunk.Chunk.{Chunk}
use Rattle.cm_pool.specs.Chunks.{same_chunk}
use Rattle.cm_pool.proofs.{same_chunk-true}
use Rattle.cm_layout.specs.declared.class_row.ClassRow.{ClassRow}
use Rattle.cm_layout.specs.declared.row.Row.{Row}
use Rattle.cm_layout.specs.Rows.{classes_in, last_chunk, used_words, kept_on, rows_with}
use Rattle.cm_layout.specs.Rules.{is_last_chunk}
use Rattle.cm_layout.proofs.{kept-with}
use Rattle.cm_rows.specs.declared.live_loader.LastChunk.{LastChunk}
use Rattle.cm_rows.specs.Rows.{last_of, kept_on_last}
use Rattle.cm_group.specs.Groups.{Carried}
use Rattle.cm_commit.specs.Joining.{records_then, records_after, committed_on}
use Rattle.cm_commit.specs.Moving.{EndsIn, DoesntEndIn}
use Rattle.cm_commit.proofs.MovedOn.{after-one}
use Rattle.cm_commit.proofs.Testing.{classes-with}

-- ---- lists

-- a list that ends in one element has one last element, and one list before it
pub one-end : {X : Type 0} (xs ys : List X) (x y : X) → xs ++ x ∷ [] ≡ ys ++ y ∷ []
    → (xs ≡ ys) × (x ≡ y)
one-end [] [] x y e = (refl, cc)
one-end [] (w ∷ []) x y e = absurd (cc)
one-end [] (w ∷ v ∷ ys) x y e = absurd (cc)
one-end (z ∷ []) [] x y e = absurd (cc)
one-end (z ∷ v ∷ xs) [] x y e = absurd (cc)
one-end (z ∷ xs) (w ∷ ys) x y e =
    let first : z ≡ w = cc in
    let rest : xs ++ x ∷ [] ≡ ys ++ y ∷ [] = cc in
    let both = one-end xs ys x y rest in
    ((λ i. first i ∷ both.0 i), both.1)

-- no list that ends in an element is empty
pub not-empty : {X : Type 0} (xs : List X) (x : X) → [] ≡ xs ++ x ∷ [] → ⊥
not-empty [] x e = absurd (cc)
not-empty (z ∷ xs) x e = absurd (cc)

-- ---- one step back

-- both end in the same record: they are equal if what is before it is
pub step-back : (records others left behind : List (List ℕ)) (last : List ℕ)
    → EndsIn records last left → others ≡ behind ++ last ∷ []
    → (records ≡ others) ↔ (left ≡ behind)
step-back records others left behind last ends is = (
  λ e. (one-end left behind last last (sym ends ∙ e ∙ is)).0,
  λ e. ends ∙ ap (λ (l : List (List ℕ)). l ++ last ∷ []) e ∙ sym is,
)

-- only one of them ends in this record
pub no-step : (records others behind : List (List ℕ)) (last : List ℕ) → DoesntEndIn records last
    → others ≡ behind ++ last ∷ [] → records ≡ others → ⊥
no-step records others behind last differs is e = differs behind (e ∙ is)

-- ---- by what is committed

module _ {P : Type 0} (f : P → List ℕ) (u : ℕ) (c : Chunk) (rows : List (Row P)) where
  abbrev is_on_last : Option LastChunk → Bool
  is_on_last o = option_map_or (λ l. same_chunk l.chunk c) o false

  on-last : is_last_chunk u c (rows_with f rows) ≡ is_on_last (last_of u rows)
  on-last =
      ap (λ (l : List ClassRow). option_map_or (λ d. same_chunk d c) (last_chunk u l) false)
      (classes-with f rows)
      ∙ by_last (last_chunk u (classes_in rows))
    where
      by_last : (o : Option Chunk)
          → option_map_or (λ d. same_chunk d c) o false
          ≡ is_on_last (option_map (λ d. record { chunk = d; used = used_words d rows }) o)
      by_last None = refl
      by_last (Some d) = refl

  -- another chunk than the loader's last, or none
  pub none-committed : (o : Option LastChunk) → last_of u rows ≡ o → is_on_last o ≡ false
      → committed_on u c (rows_with f rows) ≡ []
  none-committed o is off =
      ap (λ (t : Bool). cond t (kept_on c (rows_with f rows)) [])
      (on-last ∙ ap is_on_last is ∙ off)

  -- the loader's last
  some-committed : (l : LastChunk) (kept : List P) → last_of u rows ≡ Some l
      → kept_on_last u rows ≡ Some kept → same_chunk l.chunk c ≡ true
      → committed_on u c (rows_with f rows) ≡ map f kept
  some-committed l kept is kept_is on =
      let there : Some (kept_on l.chunk rows) ≡ Some kept =
      sym (ap (option_map (λ (d : LastChunk). kept_on d.chunk rows)) is) ∙ kept_is in
      let same : kept_on l.chunk rows ≡ kept = cc in
      ap (λ (t : Bool). cond t (kept_on c (rows_with f rows)) []) (on-last ∙ ap is_on_last is ∙ on)
      ∙ kept-with f c rows
      ∙ ap (λ (d : Chunk). map f (kept_on d rows)) (sym (same_chunk-true l.chunk c on))
      ∙ ap (map f) same

  pub kept-committed : (l : LastChunk) (o : Option (List P)) → last_of u rows ≡ Some l
      → same_chunk l.chunk c ≡ true → o ≡ kept_on_last u rows
      → MatchOption o (committed_on u c (rows_with f rows) ≡ [])
      (λ kept. committed_on u c (rows_with f rows) ≡ map f kept)
  kept-committed l None is on told =
      let some = ap (option_map (λ (d : LastChunk). kept_on d.chunk rows)) is in
      absurd (let none : None ≡ Some (kept_on l.chunk rows) = told ∙ some in cc)
  kept-committed l (Some kept) is on told = some-committed l kept is (sym told) on

-- ---- by the entries before

take-more : {X : Type 0} (xs : List X) (n : ℕ) (d : X) → n < length xs
    → take (suc n) xs ≡ take n xs ++ get_or xs n d ∷ []
take-more [] n d lt = absurd (omega arith)
take-more (y ∷ xs) zero d lt = refl
take-more (y ∷ xs) (suc n) d lt = ap (λ l. y ∷ l) (take-more xs n d (omega (arith, lt)))

pub records-step : (c : Chunk) (records : List (List ℕ)) (before : List Carried) (count n : ℕ)
    (d : Carried) → n + 1 ≡ count → n < length before
    → records_after c records (take count before)
    ≡ records_then c (records_after c records (take n before)) (get_or before n d).entry
    (get_or before n d).moved
records-step c records before count n d next lt =
    let first : count ≡ suc n = omega (arith, next) in
    ap (λ (m : ℕ). records_after c records (take m before)) first
    ∙ ap (records_after c records) (take-more before n d lt)
    ∙ after-one c records (take n before) (get_or before n d)

pub flipped : (b t : Bool) → b ≡ not t → b ≡ true → t ≡ false
flipped b true is e = absurd (cc)
flipped b false is e = refl

pub upright : (b t : Bool) → b ≡ not t → b ≡ false → t ≡ true
upright b true is e = refl
upright b false is e = absurd (cc)
