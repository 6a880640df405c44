-- The changes that entries make, one after another, and the state that they lead to.
-- For `committed_rows_are_the_machines`.
use Rattle.std.proofs.Common.{◌≡◌, ℕ, suc, ◌+◌, ◌^◌, ◌≤◌, List, [], ◌∷◌, ◌++◌, length, map, Some}
use Rattle.std.proofs.Common.{Result}
use Rattle.std.proofs.Common.{None, Ok, Err, refl, sym, ap, subst, ◌∙◌, arith, append_assoc}
use Rattle.std.specs.Option.{option_and_then}
use Rattle.std.proofs.lemmas.List.{length-append, map-append}
use Rattle.cm_class.specs.declared.class_file.ClassFile.{ClassFile}
use Rattle.cm_pool.specs.Geometry.{Sizes}
use Rattle.cm_record.specs.Layout.{lay}
use Rattle.cm_layout.specs.declared.row.Row.{Row}
use Rattle.cm_layout.specs.declared.entry.Entry.{Entry}
use Rattle.cm_layout.specs.Rows.{rows_after, rows_after_all, rows_with, entry_with}
use Rattle.cm_group.specs.Groups.{Carried}
use Rattle.cm_state.specs.State.{CacheState, class_shows, state_of}
use Rattle.cm_state.specs.Step.{Change, Cause, step}
use Rattle.cm_state.specs.Fold.{fold}
use Rattle.cm_state.specs.Entries.{AreCacheRows}
use Rattle.cm_state.specs.Laws.{EntriesAreSteps, ChangesGoOn}
use Rattle.cm_commit.specs.Offers.{filled, rows_after_group}
use Rattle.cm_commands.specs.Machine.{Base, Machine, Holds, accepted_to}
use Rattle.cm_handover.specs.Following.{AreRightClasses, Make, Follows}
use Rattle.cm_handover.proofs.Classes.{ClassRows, after_words, right_after}

some_is : {A : Type 0} (x y : A) → Some x ≡ Some y → x ≡ y
some_is x y e = cc

-- ---- what they lead to

pub record Leads (sizes : Sizes) (rows : ClassRows) (n : ℕ) (entries : List (Entry ClassFile))
    (changes : List (Change ClassFile)) : Type 0 where
  pub as_many : length changes ≡ length entries
  pub folds : fold class_shows sizes (state_of class_shows rows) n changes
      ≡ Some (state_of class_shows (rows_after_all rows entries), n + length changes)
  pub cache : AreCacheRows class_shows sizes (n + length entries) (rows_after_all rows entries)
  pub right : AreRightClasses (rows_after_all rows entries)

pub leads : EntriesAreSteps ClassFile → (sizes : Sizes) (rows : ClassRows) (n : ℕ)
    (entries : List (Entry ClassFile)) (changes : List (Change ClassFile))
    → AreCacheRows class_shows sizes n rows → AreRightClasses rows
    → Make sizes rows n entries changes
    → n + length entries ≤ 2 ^ 63 → Leads sizes rows n entries changes
leads steps sizes rows n [] [] are right make to = record {
  as_many = refl;
  folds = ap (λ k. Some (state_of class_shows rows, k)) (omega arith);
  cache = subst (λ k. AreCacheRows class_shows sizes k rows) (omega arith) are;
  right = right;
}
leads steps sizes rows n [] (change ∷ changes) are right make to = absurd make
leads steps sizes rows n (e ∷ entries) [] are right make to = absurd make
leads steps sizes rows n (e ∷ entries) (change ∷ changes) are right make to =
    let one = steps class_shows sizes n rows e are make.0 (omega (arith, to)) in
    let same : one.change ≡ change = some_is one.change change (sym one.change_is ∙ make.1) in
    let next : step class_shows sizes (state_of class_shows rows) n change
    ≡ Ok (state_of class_shows (rows_after rows e)) =
    subst (λ c. step class_shows sizes (state_of class_shows rows) n c
    ≡ Ok (state_of class_shows (rows_after rows e))) same one.next in
    let rest = leads steps sizes (rows_after rows e) (n + 1) entries changes one.rows_are
    (right_after rows e right make.2) make.3 (omega (arith, to)) in
    record {
      as_many = ap suc rest.as_many;
      folds =
          ap (λ (r : Result CacheState Cause). elim r [
            | Ok m ↦ fold class_shows sizes m (n + 1) changes
            | Err cause ↦ None
          ]) next
          ∙ (rest.folds ∙ ap (λ k. Some (
            state_of class_shows
                (rows_after_all (rows_after rows e) entries),
            k,
          )) (omega arith));
      cache = subst (λ k. AreCacheRows class_shows sizes k
          (rows_after_all (rows_after rows e) entries)) (omega arith) rest.cache;
      right = rest.right;
    }

-- ---- two runs of entries

pub make_two : (sizes : Sizes) (rows : ClassRows) (n : ℕ) (a b : List (Entry ClassFile))
    (f g : List (Change ClassFile)) → Make sizes rows n a f
    → Make sizes (rows_after_all rows a) (n + length a) b g → Make sizes rows n (a ++ b) (f ++ g)
make_two sizes rows n [] b [] g m k = subst (λ i. Make sizes rows i b g) (omega arith) k
make_two sizes rows n [] b (change ∷ f) g m k = absurd m
make_two sizes rows n (e ∷ a) b [] g m k = absurd m
make_two sizes rows n (e ∷ a) b (change ∷ f) g m k = (
  m.0,
  m.1,
  m.2,
  make_two sizes (rows_after rows e) (n + 1) a b f g m.3
      (subst (λ i. Make sizes (rows_after_all (rows_after rows e) a) i b g) (omega arith) k),
)

-- the changes of the first entries, and of the others
pub record Splits (sizes : Sizes) (rows : ClassRows) (n : ℕ) (a b : List (Entry ClassFile))
    (changes : List (Change ClassFile)) : Type 0 where
  pub front : List (Change ClassFile)
  pub behind : List (Change ClassFile)
  pub whole : front ++ behind ≡ changes
  pub makes : Make sizes rows n a front
  pub then : Make sizes (rows_after_all rows a) (n + length a) b behind

pub splits : (sizes : Sizes) (rows : ClassRows) (n : ℕ) (a b : List (Entry ClassFile))
    (changes : List (Change ClassFile)) → Make sizes rows n (a ++ b) changes
    → Splits sizes rows n a b changes
splits sizes rows n [] b changes m = record {
  front = [];
  behind = changes;
  whole = refl;
  makes = tt;
  then = subst (λ i. Make sizes rows i b changes) (omega arith) m;
}
splits sizes rows n (e ∷ a) b [] m = absurd m
splits sizes rows n (e ∷ a) b (change ∷ changes) m =
    let rest = splits sizes (rows_after rows e) (n + 1) a b changes m.3 in
    record {
      front = change ∷ rest.front;
      behind = rest.behind;
      whole = ap (λ l. change ∷ l) rest.whole;
      makes = (m.0, m.1, m.2, rest.makes);
      then = subst (λ i. Make sizes (rows_after_all (rows_after rows e) a) i b rest.behind) (omega
          arith)
          rest.then;
    }

-- ---- entries with words

-- if the result of a map over a list has two parts, so has the list
pub record Parts {A B : Type 0} (f : A → B) (xs : List A) (a b : List B) : Type 0 where
  pub front : List A
  pub behind : List A
  pub whole : front ++ behind ≡ xs
  pub front_is : map f front ≡ a
  pub behind_is : map f behind ≡ b

pub parts : {A B : Type 0} (f : A → B) (xs : List A) (a b : List B) → map f xs ≡ a ++ b
    → Parts f xs a b
parts f xs [] b e =
    record { front = []; behind = xs; whole = refl; front_is = refl; behind_is = e }
parts f [] (y ∷ a) b e = absurd (cc)
parts f (x ∷ xs) (y ∷ a) b e =
    let head : f x ≡ y = cc in
    let tail : map f xs ≡ a ++ b = cc in
    let rest = parts f xs a b tail in
    record {
      front = x ∷ rest.front;
      behind = rest.behind;
      whole = ap (λ l. x ∷ l) rest.whole;
      front_is = λ i. head i ∷ rest.front_is i;
      behind_is = rest.behind_is;
    }

pub words_after_all : (rows : ClassRows) (entries : List (Entry ClassFile))
    → rows_with lay (rows_after_all rows entries)
    ≡ rows_after_all (rows_with lay rows) (map (entry_with lay) entries)
words_after_all rows [] = refl
words_after_all rows (e ∷ entries) =
    words_after_all (rows_after rows e) entries
    ∙ ap (λ l. rows_after_all l (map (entry_with lay) entries)) (after_words rows e)

-- ---- from the base on

pub holds_more : ChangesGoOn → (sizes : Sizes) (base : Base) (first rest : List (Change ClassFile))
    (m k : _) → Holds sizes base first m
    → fold class_shows sizes m (base.number + length first) rest
    ≡ Some (k, base.number + length first + length rest)
    → Holds sizes base (first ++ rest) k
holds_more on sizes base first rest m k h f =
    on sizes base.state base.number first rest
    ∙ (ap (option_and_then (λ p. fold class_shows sizes p.0 p.1 rest)) h
    ∙ (f ∙ ap (λ n. Some (k, n)) (let more = length-append first rest in omega (arith, more))))

-- ---- following

-- all commands lead to the rows after all that waits
pub record Whole {sizes : Sizes} {k : Machine} {rows : List (Row (List ℕ))} {number : ℕ}
    {waits : List (Entry (List ℕ))} (f : Follows sizes k rows number waits) : Type 0 where
  pub words : rows_with lay (rows_after_all f.classes f.entries) ≡ rows_after_all rows waits
  pub right : AreRightClasses (rows_after_all f.classes f.entries)
  pub cache : AreCacheRows class_shows sizes (number + length waits) (rows_after_all f.classes
      f.entries)
  pub count : accepted_to k ≡ number + length waits
  pub holds : Holds sizes k.base k.commands
      (state_of class_shows (rows_after_all f.classes f.entries))

pub map_length : {A B : Type 0} (f : A → B) (xs : List A) → length (map f xs) ≡ length xs
map_length f [] = refl
map_length f (x ∷ xs) = ap suc (map_length f xs)

pub whole : EntriesAreSteps ClassFile → ChangesGoOn → (sizes : Sizes) (k : Machine)
    (rows : List (Row (List ℕ))) (number : ℕ) (waits : List (Entry (List ℕ)))
    → (f : Follows sizes k rows number waits) → number + length waits ≤ 2 ^ 63 → Whole f
whole steps on sizes k rows number waits f to =
    let long : length waits ≡ length f.entries =
    sym (ap length f.words) ∙ map_length (entry_with lay) f.entries in
    let led = leads steps sizes f.classes number f.entries f.rest f.are.cache f.are.right f.make
    (omega (arith, long, to)) in
    let as_many = led.as_many in
    let count = f.count in
    record {
      words =
          words_after_all f.classes f.entries
          ∙ (ap (λ l. rows_after_all l (map (entry_with lay) f.entries)) f.are.words
          ∙ ap (rows_after_all rows) f.words);
      right = led.right;
      cache = subst (λ n. AreCacheRows class_shows sizes n (rows_after_all f.classes f.entries))
          (omega (arith, long)) led.cache;
      count =
          let all = ap length f.commands in
          let more = length-append f.first f.rest in
          omega (arith, all, more, count, as_many, long);
      holds = subst (λ l. Holds sizes k.base l
          (state_of class_shows (rows_after_all f.classes f.entries)))
          f.commands
          (holds_more on sizes k.base f.first f.rest (state_of class_shows f.classes) _ f.holds
          (subst (λ n. fold class_shows sizes (state_of class_shows f.classes) n f.rest
          ≡ Some (state_of class_shows (rows_after_all f.classes f.entries), n + length f.rest))
          (sym f.count) led.folds));
    }

-- ---- committed

filled_all : (a b : List Carried) → map filled (a ++ b) ≡ map filled a ++ map filled b
filled_all a b = map-append filled a b

pub committed : EntriesAreSteps ClassFile → ChangesGoOn → (sizes : Sizes) (k : Machine)
    (rows : List (Row (List ℕ))) (number : ℕ) (group rest : List Carried)
    → Follows sizes k rows number (map filled (group ++ rest))
    → number + length (group ++ rest) ≤ 2 ^ 63
    → Follows sizes k (rows_after_group rows group) (number + length group) (map filled rest)
committed steps on sizes k rows number group rest f to = record {
  classes = rows_after_all f.classes p.front;
  are = record {
    words =
        words_after_all f.classes p.front
        ∙ (ap (λ l. rows_after_all l (map (entry_with lay) p.front)) f.are.words
        ∙ ap (rows_after_all rows) p.front_is);
    right = led.right;
    cache = subst (λ n. AreCacheRows class_shows sizes n (rows_after_all f.classes p.front))
        (ap (λ n. number + n) long) led.cache;
  };
  entries = p.behind;
  words = p.behind_is;
  first = f.first ++ s.front;
  rest = s.behind;
  commands = append_assoc f.first s.front s.behind ∙ (ap (λ l. f.first ++ l) s.whole ∙ f.commands);
  count =
      let count = f.count in
      let more = length-append f.first s.front in
      let as_many = led.as_many in
      omega (arith, count, more, as_many, long);
  holds = holds_more on sizes k.base f.first s.front (state_of class_shows f.classes) _ f.holds
      (subst (λ n. fold class_shows sizes (state_of class_shows f.classes) n s.front
      ≡ Some (state_of class_shows (rows_after_all f.classes p.front), n + length s.front))
      (sym f.count) led.folds);
  make = subst (λ n. Make sizes (rows_after_all f.classes p.front) n p.behind s.behind)
      (ap (λ n. number + n) long) s.then;
}
  where
    p : Parts (entry_with lay) f.entries (map filled group) (map filled rest)
    p = parts (entry_with lay) f.entries (map filled group) (map filled rest)
        (f.words ∙ filled_all group rest)

    s : Splits sizes f.classes number p.front p.behind f.rest
    s = splits sizes f.classes number p.front p.behind f.rest
        (subst (λ l. Make sizes f.classes number l f.rest) (sym p.whole) f.make)

    long : length p.front ≡ length group
    long =
        sym (map_length (entry_with lay) p.front)
        ∙ (ap length p.front_is ∙ map_length filled group)

    within : number + length p.front ≤ 2 ^ 63
    within = let all = length-append group rest in let is = long in omega (arith, to, all, is)

    led : Leads sizes f.classes number p.front s.front
    led = leads steps sizes f.classes number p.front s.front f.are.cache f.are.right s.makes within
