-- The checks by names in the rows find the first cause against a step of the cache.
-- For `Front::add_loader`, `Front::define`, `Front::unload`.
use Rattle.std.proofs.Common.{◌≡◌, ℕ, suc, ◌+◌, ◌≤◌, Bool, true, false, cond, List, [], ◌∷◌}
use Rattle.std.proofs.Common.{length, Option, Some, None, refl, sym, ap, subst, ◌∙◌, arith, eqb}
use Rattle.std.specs.Prelude.{not, nat_lt, nat_le, is_some, Result, Ok, Err, ◌&&◌}
use Rattle.std.specs.List.{list_all}
use Rattle.std.specs.Option.{option_map, option_and_then}
use Rattle.std.specs.Str.{bytes_eq}
use Rattle.std.specs.FinMap as map
use Rattle.std.proofs.lemmas.Bool.{leb-true, and_parts}
use Rattle.cm_pool.specs.Chunks.{chunk_size}
use Rattle.cm_layout.specs.declared.row.Row.{Row}
use Rattle.cm_layout.specs.declared.row.Row.TheVariants.{Loader, Class}
use Rattle.cm_layout.specs.Names.{is_loader_name, slots_of_name, unload_limit}
use Rattle.cm_layout.specs.Rows.{number_of, slots_of_rows}
use Rattle.cm_layout.specs.Rules.{is_too_much}
use Rattle.cm_record.specs.Names.{class_name_in}
use Rattle.cm_index.specs.Index.{class_of}
use Rattle.cm_state.specs.State.{Loaders, words_show, state_of, class_among, class_in}
use Rattle.cm_state.specs.State.{slots_of_state}
use Rattle.cm_state.specs.Step as step
use Rattle.cm_state.specs.Step.{Cause, Change, AddLoader, Define, Unload, Tighten, UnloadAll}
use Rattle.cm_state.specs.Step.{last_number}
use Rattle.cm_state.specs.Laws.{LoadersAreFound, ClassesAreFound, SizesAgree}
use Rattle.cm_commands.specs.declared.refusal.Refusal.{Refusal}
use Rattle.cm_commands.specs.declared.refusal.Refusal.TheVariants as refusal
use Rattle.cm_commands.specs.Refusals.{refusal_of}
use Rattle.cm_front.specs.Front.{FrontState, IsFront, first_refusal}
use Rattle.cm_front.specs.Refusing.{loader_asked, loader_made, class_free, class_asked}
use Rattle.cm_front.specs.Refusing.{numbers_of, loaders_asked}

-- the refusal in a result
abbrev pub refused : {X : Type 0} → Result X Refusal → Option Refusal
refused (Ok n) = None
refused (Err r) = Some r

-- the cause of a step as a refusal
abbrev first : Result (Loaders (List ℕ)) Cause → Option Refusal
first (Ok next) = None
first (Err cause) = Some (refusal_of cause)

-- ---- a new loader

abbrev made : Bool → Bool → Bool → Bool → ℕ → Result ℕ Refusal
made named spent found full n =
    cond (not named) (Err refusal.BadName)
    (cond spent (Err refusal.NumbersSpent)
    (cond found (Err refusal.LoaderExists) (cond full (Err refusal.JournalFull) (Ok n))))

abbrev loader_step : Bool → Bool → Bool → Bool → Loaders (List ℕ) → Result (Loaders (List ℕ)) Cause
loader_step named spent found full next =
    cond (not named) (Err step.BadName)
    (cond spent (Err step.NumbersSpent)
    (cond found (Err step.LoaderExists) (cond full (Err step.JournalFull) (Ok next))))

made_as_step : (named spent found full : Bool) (next : Loaders (List ℕ)) (n : ℕ)
    → first (loader_step named spent found full next) ≡ refused (made named spent found full n)
made_as_step false spent found full next n = refl
made_as_step true true found full next n = refl
made_as_step true false true full next n = refl
made_as_step true false false true next n = refl
made_as_step true false false false next n = refl

-- ---- the rows determine the state

pub one_class : (u : ℕ) (name : List ℕ) (rows : List (Row (List ℕ)))
    → class_of class_name_in u name rows ≡ class_among words_show u name rows
one_class u name [] = refl
one_class u name (Loader r ∷ rows) = one_class u name rows
one_class u name (Class r words ∷ rows) =
    ap (cond (eqb r.loader u && bytes_eq (class_name_in words) name) (Some words))
    (one_class u name rows)

slots_are : SizesAgree (List ℕ) → (s : FrontState) → IsFront s
    → slots_of_state (state_of words_show s.rows) ≡ slots_of_rows s.rows
slots_are sizes s f = (sizes words_show s.sizes s.number s.rows f.rows).1

-- a running cache's first refusal is that of the step
running : (s : FrontState) (change : Change (List ℕ)) → s.closed ≡ false → s.broken ≡ false
    → first_refusal s change
    ≡ first (step.step words_show s.sizes (state_of words_show s.rows) s.number change)
running s change closed broken = rw closed (rw broken
    (by_answer (step.step words_show s.sizes (state_of words_show s.rows) s.number change)))
  where
    by_answer : (a : Result (Loaders (List ℕ)) Cause)
        → (elim a [ Err cause ↦ Some (refusal_of cause) | Ok next ↦ None ]) ≡ first a
    by_answer (Ok next) = refl
    by_answer (Err cause) = refl

pub loader_refused : LoadersAreFound (List ℕ) → SizesAgree (List ℕ) → (s : FrontState) (x : List ℕ)
    → IsFront s → s.closed ≡ false → s.broken ≡ false
    → first_refusal s (AddLoader x) ≡ refused (loader_made s x)
loader_refused loaders sizes s x f closed broken =
    running s (AddLoader x) closed broken
    ∙ (ap (λ (b : Bool). first (loader_step (is_loader_name x) (eqb s.number last_number) b
    (is_too_much s.sizes (slots_of_state m) (slots_of_name x)) (step.with_loader m x)))
    (loaders words_show s.rows x)
    ∙ (ap (λ (k : ℕ). first (loader_step (is_loader_name x) (eqb s.number last_number)
    (is_some (number_of x s.rows)) (is_too_much s.sizes k (slots_of_name x))
    (step.with_loader m x)))
    (slots_are sizes s f)
    ∙ made_as_step (is_loader_name x) (eqb s.number last_number) (is_some (number_of x s.rows))
    (is_too_much s.sizes (slots_of_rows s.rows) (slots_of_name x)) (step.with_loader m x)
    (suc s.number)))
  where
    m : Loaders (List ℕ)
    m = state_of words_show s.rows

-- ---- a live loader

abbrev asked : Bool → Bool → Option ℕ → Result ℕ Refusal
asked named spent o =
    cond (not named) (Err refusal.BadName)
    (cond spent (Err refusal.NumbersSpent) (elim o [ Some u ↦ Ok u | None ↦ Err refusal.NoLoader ]))

-- ---- a class

abbrev free : Bool → Bool → Bool → ℕ → Result ℕ Refusal
free taken long full u =
    cond taken (Err refusal.ClassExists)
    (cond long (Err refusal.RecordTooLong) (cond full (Err refusal.JournalFull) (Ok u)))

abbrev class_step : Bool → Bool → Bool → Bool → Bool → Bool → Loaders (List ℕ)
    → Result (Loaders (List ℕ)) Cause
class_step named spent there taken long full next =
    cond (not named) (Err step.BadName)
    (cond spent (Err step.NumbersSpent)
    (cond (not there) (Err step.NoLoader)
    (cond taken (Err step.ClassExists)
    (cond long (Err step.RecordTooLong) (cond full (Err step.JournalFull) (Ok next))))))

free_as_step : (taken long full : Bool) (next : Loaders (List ℕ)) (u : ℕ)
    → first (class_step true false true taken long full next) ≡ refused (free taken long full u)
free_as_step true long full next u = refl
free_as_step false true full next u = refl
free_as_step false false true next u = refl
free_as_step false false false next u = refl

class_as_step : (named spent : Bool) (o : Option ℕ) (among : ℕ → Option (List ℕ))
    (long full : Bool) (next : Loaders (List ℕ))
    → first (class_step named spent (is_some o) (is_some (option_and_then among o)) long full next)
    ≡ refused (elim (asked named spent o)
    [ Err r ↦ Err r | Ok u ↦ free (is_some (among u)) long full u ])
class_as_step false spent o among long full next = refl
class_as_step true true o among long full next = refl
class_as_step true false None among long full next = refl
class_as_step true false (Some u) among long full next =
    free_as_step (is_some (among u)) long full next u

pub class_refused : LoadersAreFound (List ℕ) → ClassesAreFound (List ℕ) → SizesAgree (List ℕ)
    → (s : FrontState) (x words : List ℕ) → IsFront s → s.closed ≡ false → s.broken ≡ false
    → first_refusal s (Define x words) ≡ refused (class_asked s x words)
class_refused loaders classes sizes s x words f closed broken =
    running s (Define x words) closed broken
    ∙ (ap (λ (b : Bool). first (class_step named spent b
    (is_some (class_in m x (class_name_in words))) long
    (is_too_much s.sizes (slots_of_state m) 1) next))
    (loaders words_show s.rows x)
    ∙ (ap (λ (o : Option (List ℕ)). first (class_step named spent (is_some o_x) (is_some o) long
    (is_too_much s.sizes (slots_of_state m) 1) next))
    (classes words_show s.rows x (class_name_in words))
    ∙ (ap (λ (k : ℕ). first (class_step named spent (is_some o_x)
    (is_some (option_and_then among o_x))
    long (is_too_much s.sizes k 1) next)) (slots_are sizes s f)
    ∙ (class_as_step named spent o_x among long full next
    ∙ ap (λ (g : ℕ → Option (List ℕ)). refused (elim (asked named spent o_x)
    [ Err r ↦ Err r | Ok u ↦ free (is_some (g u)) long full u ])) same))))
  where
    m : Loaders (List ℕ)
    m = state_of words_show s.rows

    named : Bool
    named = is_loader_name x

    spent : Bool
    spent = eqb s.number last_number

    o_x : Option ℕ
    o_x = number_of x s.rows

    among : ℕ → Option (List ℕ)
    among u = class_among words_show u (class_name_in words) s.rows

    long : Bool
    long = nat_lt (chunk_size s.sizes.top) (length words)

    full : Bool
    full = is_too_much s.sizes (slots_of_rows s.rows) 1

    next : Loaders (List ℕ)
    next = step.with_class words_show m x words

    same : among ≡ (λ u. class_of class_name_in u (class_name_in words) s.rows)
    same = λ i u. sym (one_class u (class_name_in words) s.rows) i

-- ---- an unload

abbrev unload_step : Bool → Bool → Bool → Loaders (List ℕ) → Result (Loaders (List ℕ)) Cause
unload_step named spent there next =
    cond (not named) (Err step.BadName)
    (cond spent (Err step.NumbersSpent) (cond (not there) (Err step.NoLoader) (Ok next)))

unload_as_step : (named spent : Bool) (o : Option ℕ) (next : Loaders (List ℕ))
    → first (unload_step named spent (is_some o) next) ≡ refused (asked named spent o)
unload_as_step false spent o next = refl
unload_as_step true true o next = refl
unload_as_step true false None next = refl
unload_as_step true false (Some u) next = refl

pub unload_refused : LoadersAreFound (List ℕ) → (s : FrontState) (x : List ℕ) → s.closed ≡ false
    → s.broken ≡ false → first_refusal s (Unload x) ≡ refused (loader_asked s x)
unload_refused loaders s x closed broken =
    running s (Unload x) closed broken
    ∙ (ap (λ (b : Bool). first (unload_step (is_loader_name x) (eqb s.number last_number) b
    (map.remove m x))) (loaders words_show s.rows x)
    ∙ unload_as_step (is_loader_name x) (eqb s.number last_number) (number_of x s.rows)
    (map.remove m x))
  where
    m : Loaders (List ℕ)
    m = state_of words_show s.rows

pub tighten_refused : LoadersAreFound (List ℕ) → (s : FrontState) (x : List ℕ) → s.closed ≡ false
    → s.broken ≡ false → first_refusal s (Tighten x) ≡ refused (loader_asked s x)
tighten_refused loaders s x closed broken =
    running s (Tighten x) closed broken
    ∙ (ap (λ (b : Bool). first (unload_step (is_loader_name x) (eqb s.number last_number) b
    (state_of words_show s.rows))) (loaders words_show s.rows x)
    ∙ unload_as_step (is_loader_name x) (eqb s.number last_number) (number_of x s.rows)
    (state_of words_show s.rows))

-- ---- an unload of several loaders

abbrev all_asked : Bool → Bool → Bool → Option (List ℕ) → Result (List ℕ) Refusal
all_asked list named spent o =
    cond (not list) (Err refusal.BadList)
    (cond (not named) (Err refusal.BadName)
    (cond spent (Err refusal.NumbersSpent)
    (elim o [ Some us ↦ Ok us | None ↦ Err refusal.NoLoader ])))

abbrev all_step : Bool → Bool → Bool → Bool → Loaders (List ℕ) → Result (Loaders (List ℕ)) Cause
all_step list named spent there next =
    cond (not list) (Err step.BadList)
    (cond (not named) (Err step.BadName)
    (cond spent (Err step.NumbersSpent) (cond (not there) (Err step.NoLoader) (Ok next))))

all_as_step : (list named spent : Bool) (o : Option (List ℕ)) (next : Loaders (List ℕ))
    → first (all_step list named spent (is_some o) next) ≡ refused (all_asked list named spent o)
all_as_step false named spent o next = refl
all_as_step true false spent o next = refl
all_as_step true true true o next = refl
all_as_step true true false None next = refl
all_as_step true true false (Some us) next = refl

-- each name has a loader if each has a number
all_there : LoadersAreFound (List ℕ) → (rows : List (Row (List ℕ))) (xs : List (List ℕ))
    → list_all (λ x. is_some (map.get (state_of words_show rows) x)) xs
    ≡ is_some (numbers_of xs rows)
all_there loaders rows [] = refl
all_there loaders rows (x ∷ xs) =
    (λ i. loaders words_show rows x i && all_there loaders rows xs i)
    ∙ by_answer (number_of x rows) (numbers_of xs rows)
  where
    by_answer : (o : Option ℕ) (r : Option (List ℕ))
        → (is_some o && is_some r)
        ≡ is_some (option_and_then (λ u. option_map (λ us. u ∷ us) r) o)
    by_answer None r = refl
    by_answer (Some u) None = refl
    by_answer (Some u) (Some us) = refl

pub unload_all_refused : LoadersAreFound (List ℕ) → (s : FrontState) (xs : List (List ℕ))
    → s.closed ≡ false → s.broken ≡ false
    → first_refusal s (UnloadAll xs) ≡ refused (loaders_asked s xs)
unload_all_refused loaders s xs closed broken =
    running s (UnloadAll xs) closed broken
    ∙ (ap (λ (b : Bool). first (all_step (step.is_list xs) (list_all is_loader_name xs)
    (eqb s.number last_number) b (step.without_all xs m))) (all_there loaders s.rows xs)
    ∙ all_as_step (step.is_list xs) (list_all is_loader_name xs) (eqb s.number last_number)
    (numbers_of xs s.rows) (step.without_all xs m))
  where
    m : Loaders (List ℕ)
    m = state_of words_show s.rows

-- ---- what a result says

-- a number is returned: the name is one, and numbers are left
pub record IsAsked (s : FrontState) (x : List ℕ) (u : ℕ) : Type 0 where
  pub named : is_loader_name x ≡ true
  pub left : eqb s.number last_number ≡ false
  pub found : number_of x s.rows ≡ Some u

err_not_ok : {X Y : Type 0} (r : Refusal) (n : Y) → ◌≡◌ {A = Result Y Refusal} (Err r) (Ok n) → X
err_not_ok r n e = absurd (cc)

ok_same : {Y : Type 0} (n k : Y) → ◌≡◌ {A = Result Y Refusal} (Ok n) (Ok k) → n ≡ k
ok_same n k e = cc

is_asked : (named spent : Bool) (o : Option ℕ) (u : ℕ) → asked named spent o ≡ Ok u
    → (named ≡ true) × (spent ≡ false) × (o ≡ Some u)
is_asked false spent o u e = err_not_ok refusal.BadName u e
is_asked true true o u e = err_not_ok refusal.NumbersSpent u e
is_asked true false None u e = err_not_ok refusal.NoLoader u e
is_asked true false (Some v) u e = (refl, refl, ap Some (ok_same v u e))

pub was_asked : (s : FrontState) (x : List ℕ) (u : ℕ) → loader_asked s x ≡ Ok u → IsAsked s x u
was_asked s x u e =
    let h = is_asked (is_loader_name x) (eqb s.number last_number) (number_of x s.rows) u e in
    record { named = h.0; left = h.1; found = h.2 }

-- numbers are returned: an unload of loaders of these names is possible
pub record AreAsked (s : FrontState) (xs : List (List ℕ)) (us : List ℕ) : Type 0 where
  pub some : 1 ≤ length xs
  pub few : length xs ≤ unload_limit
  pub differ : step.names_differ xs ≡ true
  pub left : eqb s.number last_number ≡ false
  pub found : numbers_of xs s.rows ≡ Some us

are_asked : (list named spent : Bool) (o : Option (List ℕ)) (us : List ℕ)
    → ◌≡◌ {A = Result (List ℕ) Refusal} (all_asked list named spent o) (Ok us)
    → (list ≡ true) × (spent ≡ false) × (o ≡ Some us)
are_asked false named spent o us e = err_not_ok refusal.BadList us e
are_asked true false spent o us e = err_not_ok refusal.BadName us e
are_asked true true true o us e = err_not_ok refusal.NumbersSpent us e
are_asked true true false None us e = err_not_ok refusal.NoLoader us e
are_asked true true false (Some vs) us e = (refl, refl, ap Some (ok_same vs us e))

pub were_asked : (s : FrontState) (xs : List (List ℕ)) (us : List ℕ)
    → ◌≡◌ {A = Result (List ℕ) Refusal} (loaders_asked s xs) (Ok us) → AreAsked s xs us
were_asked s xs us e =
    let h = are_asked (step.is_list xs) (list_all is_loader_name xs) (eqb s.number last_number)
    (numbers_of xs s.rows) us e in
    let some = nat_le 1 (length xs) in
    let few = nat_le (length xs) unload_limit in
    let parts = and_parts (some && few) (step.names_differ xs) h.0 in
    let sizes = and_parts some few parts.0 in
    record {
      some = leb-true 1 (length xs) sizes.0;
      few = leb-true (length xs) unload_limit sizes.1;
      differ = parts.1;
      left = h.1;
      found = h.2;
    }

pub record IsMade (s : FrontState) (x : List ℕ) (n : ℕ) : Type 0 where
  pub named : is_loader_name x ≡ true
  pub left : eqb s.number last_number ≡ false
  pub absent : number_of x s.rows ≡ None
  pub room : is_too_much s.sizes (slots_of_rows s.rows) (slots_of_name x) ≡ false
  pub number : n ≡ s.number + 1

none_of : (o : Option ℕ) → is_some o ≡ false → o ≡ None
none_of None e = refl
none_of (Some n) e = absurd (cc)

is_made : (named spent found full : Bool) (n k : ℕ) → made named spent found full n ≡ Ok k
    → (named ≡ true) × (spent ≡ false) × (found ≡ false) × (full ≡ false) × (n ≡ k)
is_made false spent found full n k e = err_not_ok refusal.BadName k e
is_made true true found full n k e = err_not_ok refusal.NumbersSpent k e
is_made true false true full n k e = err_not_ok refusal.LoaderExists k e
is_made true false false true n k e = err_not_ok refusal.JournalFull k e
is_made true false false false n k e = (refl, refl, refl, refl, ok_same n k e)

pub was_made : (s : FrontState) (x : List ℕ) (n : ℕ) → loader_made s x ≡ Ok n → IsMade s x n
was_made s x n e =
    let h = is_made (is_loader_name x) (eqb s.number last_number) (is_some (number_of x s.rows))
    (is_too_much s.sizes (slots_of_rows s.rows) (slots_of_name x)) (suc s.number) n e in
    let next : suc s.number ≡ n = h.4 in
    record {
      named = h.0;
      left = h.1;
      absent = none_of (number_of x s.rows) h.2;
      room = h.3;
      number = omega (arith, next);
    }

pub record IsFree (s : FrontState) (x : List ℕ) (words : List ℕ) (u : ℕ) : Type 0 where
  pub asked : IsAsked s x u
  pub new : class_among words_show u (class_name_in words) s.rows ≡ None
  pub fits : nat_lt (chunk_size s.sizes.top) (length words) ≡ false
  pub room : is_too_much s.sizes (slots_of_rows s.rows) 1 ≡ false

none_kept : (o : Option (List ℕ)) → is_some o ≡ false → o ≡ None
none_kept None e = refl
none_kept (Some n) e = absurd (cc)

is_free : (taken long full : Bool) (u v : ℕ) → free taken long full u ≡ Ok v
    → (taken ≡ false) × (long ≡ false) × (full ≡ false) × (u ≡ v)
is_free true long full u v e = err_not_ok refusal.ClassExists v e
is_free false true full u v e = err_not_ok refusal.RecordTooLong v e
is_free false false true u v e = err_not_ok refusal.JournalFull v e
is_free false false false u v e = (refl, refl, refl, ok_same u v e)

pub was_free : (s : FrontState) (x words : List ℕ) (u : ℕ) → class_asked s x words ≡ Ok u
    → IsFree s x words u
was_free s x words u e = by_answer (loader_asked s x) refl e
  where
    by_answer : (a : Result ℕ Refusal) → loader_asked s x ≡ a
        → ◌≡◌ {A = Result ℕ Refusal} (elim a [ Err r ↦ Err r | Ok v ↦ class_free s v words ]) (Ok u)
        → IsFree s x words u
    by_answer (Err r) a h = err_not_ok r u h
    by_answer (Ok v) a h =
        let taken = is_some (class_of class_name_in v (class_name_in words) s.rows) in
        let p = is_free taken (nat_lt (chunk_size s.sizes.top) (length words))
        (is_too_much s.sizes (slots_of_rows s.rows) 1) v u h in
        let same : v ≡ u = p.3 in
        record {
          asked = subst (λ k. IsAsked s x k) same (was_asked s x v a);
          new = subst (λ k. class_among words_show k (class_name_in words) s.rows ≡ None) same
              (sym (one_class v (class_name_in words) s.rows)
              ∙ none_kept (class_of class_name_in v (class_name_in words) s.rows) p.0);
          fits = p.1;
          room = p.2;
        }
