-- A search in blocks: what one key says about the others, and how a find in one block is a find
-- among all.
-- For `block_of`, `find`, `search`, `sweep_blocks`.
use Rattle.std.proofs.Common.{◌≡◌, ℕ, suc, ◌+◌, ◌<◌, List, [], ◌++◌, map, length, take, drop}
use Rattle.std.proofs.Common.{get_or, sym, ◌∙◌, ap, subst, arith, add-one, length-append}
use Rattle.std.specs.List.{AllByRecursion}
use Rattle.std.specs.Ordering.{nat_cmp}
use Rattle.std.specs.Cmp.Lexicographic.{slice_cmp}
use Rattle.std.proofs.lemmas.List.{length-map, take-map, drop-map, get_or-map, map-append}
use Rattle.std.specs.declared.cmp.Ordering.TheVariants.{Greater}
use Rattle.cm_layout.specs.declared.row.Row.{Row}
use Rattle.cm_index.specs.declared.index.IndexEntry.{IndexEntry}
use Rattle.cm_index.specs.declared.slot.BookSlot.{BookSlot}
use Rattle.cm_index.specs.Index.{key, key_at, keys_at, Rise, SplitsKeys, IsKeyAt, IsIndex, Below}
use Rattle.cm_index.specs.Index.{Above}
use Rattle.cm_index.proofs.Indexes.{Found, found-there}
use Rattle.cm_index.specs.Blocks.{joined}
use Rattle.cm_index.proofs.Sorted.{before-to, above-from, parts-inside}
use Rattle.cm_index.proofs.Sorted.{all-left, all-right, rise-left, rise-right}
use Rattle.cm_index.proofs.Joined.{joined-around, take-joined, drop-joined, get-joined}
use Rattle.cm_index.proofs.Joined.{first-within}

module _ {P : Type 0} (name_of : P → List ℕ) (slots : List (BookSlot (Row P))) where
  abbrev keys : List IndexEntry → List (List ℕ)
  keys es = keys_at name_of slots es

  -- the key of a block's first entry, among all
  first-key : (bs : List (List IndexEntry)) (m : ℕ) (d : IndexEntry) → m < length bs
      → 0 < length (get_or bs m [])
      → get_or (keys (joined bs)) (length (joined (take m bs))) []
      ≡ key_at name_of slots (get_or (get_or bs m []) 0 d)
  first-key bs m d lt some =
      let here : get_or (joined bs) (length (joined (take m bs))) d ≡ get_or (get_or bs m []) 0 d =
      ap (λ (n : ℕ). get_or (joined bs) n d) (omega arith) ∙ get-joined bs m 0 d lt some in
      get_or-map (key_at name_of slots) (joined bs) (length (joined (take m bs))) d []
      (first-within bs m lt some) ∙ ap (key_at name_of slots) here

  pub before-first : (bs : List (List IndexEntry)) (m : ℕ) (k : List ℕ) (d : IndexEntry)
      → Rise (keys (joined bs)) → m < length bs → 0 < length (get_or bs m [])
      → ¬ (slice_cmp nat_cmp (key_at name_of slots (get_or (get_or bs m []) 0 d)) k ≡ Greater)
      → AllByRecursion (Below k) (keys (joined (take m bs)))
  before-first bs m k d rises lt some not =
      let p = length (joined (take m bs)) in
      let same = first-key bs m d lt some in
      let below =
      before-to (keys (joined bs)) p k [] rises
      (omega (arith, first-within bs m lt some, length-map (joined bs) (key_at name_of slots)))
      (λ e. not (ap (λ (a : List ℕ). slice_cmp nat_cmp a k) (sym same) ∙ e)) in
      subst (AllByRecursion (Below k)) (take-map (key_at name_of slots) p (joined bs)
      ∙ ap (map (key_at name_of slots)) (take-joined bs m)) below

  pub from-first : (bs : List (List IndexEntry)) (m : ℕ) (k : List ℕ) (d : IndexEntry)
      → Rise (keys (joined bs)) → m < length bs → 0 < length (get_or bs m [])
      → slice_cmp nat_cmp (key_at name_of slots (get_or (get_or bs m []) 0 d)) k ≡ Greater
      → AllByRecursion (Above k) (keys (joined (drop m bs)))
  from-first bs m k d rises lt some more =
      let p = length (joined (take m bs)) in
      let same = first-key bs m d lt some in
      let above =
      above-from (keys (joined bs)) p k [] rises
      (omega (arith, first-within bs m lt some, length-map (joined bs) (key_at name_of slots)))
      (ap (λ (a : List ℕ). slice_cmp nat_cmp a k) same ∙ more) in
      subst (AllByRecursion (Above k)) (drop-map (key_at name_of slots) p (joined bs)
      ∙ ap (map (key_at name_of slots)) (drop-joined bs m)) above

  -- the keys of one block, with those before it and those after it
  keys-around : (bs : List (List IndexEntry)) (m : ℕ) → m < length bs
      → keys (joined bs) ≡ keys (joined (take m bs))
      ++ (keys (get_or bs m []) ++ keys (joined (drop (suc m) bs)))
  keys-around bs m lt =
      ap keys (joined-around bs m lt)
      ∙ map-append (key_at name_of slots) (joined (take m bs))
      (get_or bs m [] ++ joined (drop (suc m) bs))
      ∙ ap (λ l. keys (joined (take m bs)) ++ l)
      (map-append (key_at name_of slots) (get_or bs m []) (joined (drop (suc m) bs)))

  -- what holds for all entries holds for those of one block
  pub rises-in : (bs : List (List IndexEntry)) (m : ℕ) → Rise (keys (joined bs)) → m < length bs
      → Rise (keys (get_or bs m []))
  rises-in bs m rises lt =
      let around = subst Rise (keys-around bs m lt) rises in
      rise-left (keys (get_or bs m [])) (keys (joined (drop (suc m) bs)))
      (rise-right (keys (joined (take m bs)))
      (keys (get_or bs m []) ++ keys (joined (drop (suc m) bs))) around)

  pub found-in : (bs : List (List IndexEntry)) (m i : ℕ) (k : List ℕ) → m < length bs
      → IsKeyAt name_of slots (get_or bs m []) i k
      → IsKeyAt name_of slots (joined bs) (length (joined (take m bs)) + i) k
  found-in bs m i k lt h =
      let within : i < length (get_or bs m []) = h.within in
      let b = get_or bs m [] in
      record {
        within = omega (
          arith,
          within,
          ap length (joined-around bs m lt),
          length-append (joined (take m bs)) (b ++ joined (drop (suc m) bs)),
          length-append b (joined (drop (suc m) bs)),
        );
        key_is = λ d. ap (λ e. slice_cmp nat_cmp (key_at name_of slots e) k)
            (get-joined bs m i d lt within) ∙ h.key_is d;
      }

  pub absent-in : (bs : List (List IndexEntry)) (m i : ℕ) (k : List ℕ) → m < length bs
      → AllByRecursion (Below k) (keys (joined (take m bs)))
      → AllByRecursion (Above k) (keys (joined (drop (m + 1) bs)))
      → SplitsKeys (keys (get_or bs m [])) i k
      → SplitsKeys (keys (joined bs)) (length (joined (take m bs)) + i) k
  absent-in bs m i k lt below above p =
      let behind =
      subst (λ (n : ℕ). AllByRecursion (Above k) (keys (joined (drop n bs)))) (add-one m) above in
      let all = parts-inside (keys (joined (take m bs))) (keys (get_or bs m []))
      (keys (joined (drop (suc m) bs))) i k below p behind in
      let long : length (keys (joined (take m bs))) + i ≡ length (joined (take m bs)) + i =
      omega (arith, length-map (joined (take m bs)) (key_at name_of slots)) in
      subst (λ (n : ℕ). SplitsKeys (keys (joined bs)) n k) long
      (subst (λ ks. SplitsKeys ks (length (keys (joined (take m bs))) + i) k)
      (sym (keys-around bs m lt)) all)

pub all-in : {X : Type 0} (Q : X → Type 0) (bs : List (List X)) (m : ℕ)
    → AllByRecursion Q (joined bs)
    → m < length bs → AllByRecursion Q (get_or bs m [])
all-in Q bs m h lt =
    let around = subst (AllByRecursion Q) (joined-around bs m lt) h in
    all-left Q (get_or bs m []) (joined (drop (suc m) bs))
    (all-right Q (joined (take m bs)) (get_or bs m [] ++ joined (drop (suc m) bs)) around)

-- the entry that a search found
pub found-row : {P : Type 0} (mark : ℕ → List ℕ → ℕ) (name_of : P → List ℕ)
    (slots : List (BookSlot (Row P)))
    (es : List IndexEntry) (i : ℕ) (e : IndexEntry) (o : ℕ) (x k : List ℕ)
    → IsIndex mark name_of slots es
    → IsKeyAt name_of slots es i k → k ≡ key mark o x → e ≡ get_or es i e
    → Found mark name_of slots e o x
found-row mark name_of slots es i e o x k h at is there =
    subst (λ (y : IndexEntry). Found mark name_of slots y o x) (sym there)
    (found-there mark name_of slots es i e o x k h at is)
