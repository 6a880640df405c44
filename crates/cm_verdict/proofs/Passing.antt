-- The second pass, row by row: the rows still to be taken lead to the same result as all rows.
-- For `SecondPass::take_all`, `SecondPass::take_class`, `SecondPass::take_row`.
use Rattle.std.proofs.Common.{◌≡◌, ℕ, Bool, true, false, cond, List, [], ◌∷◌, ◌++◌, length}
use Rattle.std.proofs.Common.{Option, Some, None, Ok, Err, refl, sym, ap, subst, ◌∙◌, eqb}
use Rattle.std.proofs.Common.{is_some, is_none}
use Rattle.std.specs.Prelude.{Result, ◌&&◌}
use Rattle.std.specs.Str.{bytes_eq}
use Rattle.std.proofs.lemmas.List.{map-append}
use Rattle.cm_class.specs.declared.class_file.ClassFile.{ClassFile}
use Rattle.cm_class.specs.Names.{class_name_of}
use Rattle.cm_record.specs.Layout.{lay}
use Rattle.cm_record.specs.Names.{class_name_in}
use Rattle.cm_pool.specs.Geometry.{Sizes}
use Rattle.cm_layout.specs.declared.class_row.ClassRow.{ClassRow}
use Rattle.cm_layout.specs.declared.loader_row.LoaderRow.{LoaderRow}
use Rattle.cm_layout.specs.declared.row.Row.{Row}
use Rattle.cm_layout.specs.declared.row.Row.TheVariants.{Loader, Class}
use Rattle.cm_layout.specs.Rows.{rows_with, row_with, bare}
use Rattle.cm_layout.specs.Rules.{broken_live_rule}
use Rattle.cm_layout.specs.Frames.{BareRow, LiveRowsKeep, bare_row}
use Rattle.cm_layout.proofs.{more-bare}
use Rattle.cm_index.specs.Index.{class_of}
use Rattle.cm_rows.specs.Rows.{LiveRows}
use Rattle.cm_state.specs.State.{class_shows, class_among}
use Rattle.cm_verdict.specs.declared.defined_at.DefinedAt.{DefinedAt}
use Rattle.cm_verdict.specs.declared.fault.Damage.{Damage}
use Rattle.cm_verdict.specs.declared.fault.Damage.TheVariants as damage
use Rattle.cm_verdict.specs.declared.fault.FileFault.{FileFault}
use Rattle.cm_verdict.specs.declared.fault.FileFault.TheVariants.{Damaged}
use Rattle.cm_verdict.specs.Faults.{◌>>=◌, at_slot}
use Rattle.cm_verdict.specs.Verdict.{is_whole, class_kept, words_at, if_new, class_found}
use Rattle.cm_verdict.specs.Verdict.{classes_found}
use Rattle.cm_verdict.proofs.Placed.{live_rule_bare}
use Rattle.cm_verdict.specs.declared.fault.OpenFault.{OpenFault}
use Rattle.cm_verdict.specs.declared.fault.OpenFault.TheVariants as open_fault
use Rattle.cm_verdict.specs.Opening.{IsFaultIn}
use Rattle.cm_verdict.specs.Standing.{ReportsOk, if_class, class_in_place, IsRecorded}
use Rattle.cm_verdict.specs.Standing.{TellNames, AreRecorded, bare_of, MayFollow, row_found}
use Rattle.cm_verdict.proofs.Verdicts.{through}

-- ---- what is kept of a class has no part in the rules

pub bare-with : {A B : Type 0} (f : A → B) (rows : List (Row A)) → bare (rows_with f rows)
    ≡ bare rows
bare-with f [] = refl
bare-with f (Loader r ∷ rows) = ap (λ l. Loader r ∷ l) (bare-with f rows)
bare-with f (Class r c ∷ rows) = ap (λ l. Class r (tt {0}) ∷ l) (bare-with f rows)

pub live_rule-with : {A B : Type 0} (sizes : Sizes) (base : ℕ) (f : A → B) (rows : List (Row A))
    (row : Row A) → broken_live_rule sizes base (rows_with f rows) (row_with f row)
    ≡ broken_live_rule sizes base rows row
live_rule-with {A} {B} sizes base f rows row =
    sym (live_rule_bare sizes base (rows_with f rows) (row_with f row))
    ∙ ((λ i. broken_live_rule sizes base (bare-with f rows i) (one row i))
    ∙ live_rule_bare sizes base rows row)
  where
    one : (row : Row A) → bare_row (row_with f row) ≡ bare_row row
    one (Loader r) = refl
    one (Class r c) = refl

-- ---- classes by name, in their records

same_class : (u : ℕ) (x : List ℕ) (rows : List (Row ClassFile)) → TellNames rows
    → is_some (class_of class_name_in u x (rows_with lay rows))
    ≡ is_some (class_among class_shows u x rows)
same_class u x [] named = refl
same_class u x (Loader r ∷ rows) named = same_class u x rows named
same_class u x (Class r c ∷ rows) named =
    ap (λ (name : List ℕ). is_some (cond (eqb r.loader u && bytes_eq name x) (Some (lay c))
    (class_of class_name_in u x (rows_with lay rows)))) named.0
    ∙ by_test (eqb r.loader u && bytes_eq (class_name_of c) x) (same_class u x rows named.1)
  where
    by_test : (t : Bool)
        → is_some (class_of class_name_in u x (rows_with lay rows))
        ≡ is_some (class_among class_shows u x rows)
        → is_some (cond t (Some (lay c)) (class_of class_name_in u x (rows_with lay rows)))
        ≡ is_some (cond t (Some c) (class_among class_shows u x rows))
    by_test true rest = refl
    by_test false rest = rest

pub same_name : (sizes : Sizes) (u : ℕ) (words : List ℕ) (c : ClassFile) (rows : LiveRows (List ℕ))
    (before : List (Row ClassFile)) → IsRecorded words c → AreRecorded sizes rows before
    → is_some (class_of class_name_in u (class_name_in words) rows.rows)
    ≡ is_some (class_among class_shows u (class_name_of c) before)
same_name sizes u words c rows before is are =
    (λ i. is_some (class_of class_name_in u (is.named i) (are.words i)))
    ∙ same_class u (class_name_of c) before are.named

pub more_named : (rows : List (Row ClassFile)) (row : Row ClassFile) → TellNames rows
    → TellNames (row ∷ []) → TellNames (rows ++ row ∷ [])
more_named [] row named one = one
more_named (Loader r ∷ rows) row named one = more_named rows row named one
more_named (Class r c ∷ rows) row named one = (named.0, more_named rows row named.1 one)

-- one more row
pub recorded_more : (sizes : Sizes) (rows new : LiveRows (List ℕ)) (before : List (Row ClassFile))
    (row : Row ClassFile) (words : Row (List ℕ)) → AreRecorded sizes rows before
    → words ≡ row_with lay row → TellNames (row ∷ [])
    → new ≡ record rows { rows = rows.rows ++ words ∷ [] }
    → AreRecorded sizes new (before ++ row ∷ [])
recorded_more sizes rows new before row words are laid named is = record {
  sizes_are = ap (λ (l : LiveRows (List ℕ)). l.sizes) is ∙ are.sizes_are;
  words = ap (λ (l : LiveRows (List ℕ)). l.rows) is
      ∙ ((λ i. are.words i ++ laid i ∷ []) ∙ sym (map-append (row_with lay) before (row ∷ [])));
  named = more_named before row are.named named;
}

-- ---- one row's verdict

abbrev fails : {B : Type 0} → FileFault → Result B FileFault
fails f = Err f

same_fault : {A B : Type 0} (f g : FileFault) → fails {B = A} f ≡ fails {B = A} g
    → fails {B = B} f ≡ fails {B = B} g
same_fault {A} {B} f g e =
    let same : f ≡ g = cc in
    ap (λ (h : FileFault). fails {B = B} h) same

-- a fault of one thing is also a fault of another
carried : {A B : Type 0} (e : OpenFault) (slot : ℕ) (x : Result A Damage) (y : Result B FileFault)
    → ((d : Damage) → x ≡ Err d → y ≡ Err (Damaged d slot)) → IsFaultIn e (at_slot slot x)
    → IsFaultIn e y
carried (open_fault.File f) slot (Ok a) y h told = absurd (cc)
carried {A} {B} (open_fault.File f) slot (Err d) y h told =
    h d refl ∙ same_fault {A = A} {B = B} (Damaged d slot) f told
carried open_fault.Device slot x y h told = tt
carried open_fault.NoMemory slot x y h told = tt

bound_fault : {A B : Type 0} (slot : ℕ) (x : Result A Damage) (f : A → Result B FileFault)
    (d : Damage)
    → x ≡ Err d → (at_slot slot x >>= f) ≡ Err (Damaged d slot)
bound_fault slot x f d e = ap (λ t. at_slot slot t >>= f) e

place_damaged : (sizes : Sizes) (contents : List ℕ) (before : List (Row ClassFile)) (r : ClassRow)
    (d : Damage) → class_in_place sizes contents r.place ≡ Err d
    → class_found sizes contents before r ≡ Err d
unfolding class_found
place_damaged sizes contents before r d =
    by_root (is_whole sizes (length contents) r.place)
    (class_kept (words_at sizes contents r.place))
  where
    by_root : (t : Bool) (o : Option ClassFile)
        → cond t (if_class o) (Err damage.Chunks) ≡ Err d
        → cond t (if_new before r o) (Err damage.Chunks) ≡ Err d
    by_root true None e = cc
    by_root true (Some c) e = absurd (cc)
    by_root false o e = cc

pub place_fault : (e : OpenFault) (sizes : Sizes) (contents : List ℕ)
    (before : List (Row ClassFile))
    (r : ClassRow) (slot : ℕ) → IsFaultIn e (at_slot slot (class_in_place sizes contents r.place))
    → IsFaultIn e (row_found sizes contents before (Class r (record { slot = slot })))
place_fault e sizes contents before r slot told =
    carried e slot (class_in_place sizes contents r.place)
    (row_found sizes contents before (Class r (record { slot = slot })))
    (λ d is. bound_fault slot (class_found sizes contents before r) _ d
    (place_damaged sizes contents before r d is)) told

unslotted : {A : Type 0} (slot : ℕ) (r : Result A Damage) (x : A) → at_slot slot r ≡ Ok x
    → r ≡ Ok x
unslotted slot (Ok d) x e = cc
unslotted slot (Err what) x e = absurd (cc)

-- the class at the place is taken, if its name is new
abbrev named_class : List (Row ClassFile) → ClassRow → ClassFile → Result ClassFile Damage
named_class before r c =
    cond (is_none (class_among class_shows r.loader (class_name_of c) before)) (Ok c)
    (Err damage.ClassTwice)

abbrev class_ok : ClassFile → Result ClassFile Damage
class_ok c = Ok c

class_so : (sizes : Sizes) (contents : List ℕ) (before : List (Row ClassFile)) (r : ClassRow)
    (c : ClassFile) → class_in_place sizes contents r.place ≡ Ok c
    → class_found sizes contents before r ≡ named_class before r c
unfolding class_found
class_so sizes contents before r c =
    by_root (is_whole sizes (length contents) r.place)
    (class_kept (words_at sizes contents r.place))
  where
    same : (d : ClassFile) → class_ok d ≡ class_ok c → d ≡ c
    same d e = cc

    by_root : (t : Bool) (o : Option ClassFile)
        → cond t (if_class o) (Err damage.Chunks) ≡ Ok c
        → cond t (if_new before r o) (Err damage.Chunks) ≡ named_class before r c
    by_root true None e = absurd (cc)
    by_root true (Some d) e = ap (λ (k : ClassFile). if_new before r (Some k)) (same d e)
    by_root false o e = absurd (cc)

module _ (sizes : Sizes) (contents : List ℕ) (before : List (Row ClassFile))
    (r : ClassRow) (slot : ℕ)
    (c : ClassFile) (there : at_slot slot (class_in_place sizes contents r.place) ≡ Ok c) where
  found_so : class_found sizes contents before r ≡ named_class before r c
  found_so =
      class_so sizes contents before r c
      (unslotted slot (class_in_place sizes contents r.place) c there)

  pub class_twice : is_some (class_among class_shows r.loader (class_name_of c) before) ≡ true
      → row_found sizes contents before (Class r (record { slot = slot }))
      ≡ Err (Damaged damage.ClassTwice slot)
  class_twice twice =
      bound_fault slot (class_found sizes contents before r) _ damage.ClassTwice
      (found_so ∙ by_class (class_among class_shows r.loader (class_name_of c) before) twice)
    where
      by_class : (o : Option ClassFile) → is_some o ≡ true
          → cond (is_none o) (Ok c) (Err damage.ClassTwice) ≡ Err damage.ClassTwice
      by_class None e = absurd (cc)
      by_class (Some d) e = refl

  pub class_new : is_some (class_among class_shows r.loader (class_name_of c) before) ≡ false
      → row_found sizes contents before (Class r (record { slot = slot }))
      ≡ Ok (before ++ Class r c ∷ [])
  class_new new =
      ap (λ t. at_slot slot t >>= λ d. Ok (before ++ Class r d ∷ []))
      (found_so ∙ by_class (class_among class_shows r.loader (class_name_of c) before) new)
    where
      by_class : (o : Option ClassFile) → is_some o ≡ false
          → cond (is_none o) (Ok c) (Err damage.ClassTwice) ≡ Ok c
      by_class None e = refl
      by_class (Some d) e = absurd (cc)

-- what is taken keeps the rules on what was taken
pub keeps_rule : (sizes : Sizes) (number : ℕ) (taken : LiveRows (List ℕ)) (row : Row (List ℕ))
    → MayFollow sizes number taken (bare_row row)
    → broken_live_rule taken.sizes number taken.rows row ≡ None
keeps_rule sizes number taken row follows =
    ap (λ (g : Sizes). broken_live_rule g number taken.rows row) follows.sizes_are
    ∙ (sym (live_rule_bare sizes number taken.rows row) ∙ follows.keeps)

pub took_loader : (sizes : Sizes) (contents : List ℕ) (rows new : LiveRows (List ℕ))
    (before : List (Row ClassFile)) (r : LoaderRow) → AreRecorded sizes rows before
    → new ≡ record rows { rows = rows.rows ++ Loader r ∷ [] }
    → ReportsOk (λ (u : Unit {0}). AreRecorded sizes new)
    (row_found sizes contents before (Loader r)) tt
took_loader sizes contents rows new before r are is = record {
  told = before ++ Loader r ∷ [];
  verdict_is = refl;
  alike = recorded_more sizes rows new before (Loader r) (Loader r) are refl tt is;
}

module _ (sizes : Sizes) (contents : List ℕ) (rows : LiveRows (List ℕ))
    (before : List (Row ClassFile)) (are : AreRecorded sizes rows before) (r : ClassRow) (slot : ℕ)
    (words : List ℕ) (t : ReportsOk IsRecorded
    (at_slot slot (class_in_place sizes contents r.place)) words)
  where
    name_same : (b : Bool)
        → b ≡ is_some (class_of class_name_in r.loader (class_name_in words) rows.rows)
        → is_some (class_among class_shows r.loader (class_name_of t.told) before) ≡ b
    name_same b has =
        sym (has ∙ same_name sizes r.loader words t.told rows before t.alike are)

    pub told_twice : (b : Bool)
        → b ≡ is_some (class_of class_name_in r.loader (class_name_in words) rows.rows) → b ≡ true
        → row_found sizes contents before (Class r (record { slot = slot }))
        ≡ Err (Damaged damage.ClassTwice slot)
    told_twice b has is =
        class_twice sizes contents before r slot t.told t.verdict_is (name_same b has ∙ is)

    pub took_class : (b : Bool) (new : LiveRows (List ℕ))
        → b ≡ is_some (class_of class_name_in r.loader (class_name_in words) rows.rows) → b ≡ false
        → new ≡ record rows { rows = rows.rows ++ Class r words ∷ [] }
        → ReportsOk (λ (u : Unit {0}). AreRecorded sizes new)
        (row_found sizes contents before (Class r (record { slot = slot }))) tt
    took_class b new has is pushed = record {
      told = before ++ Class r t.told ∷ [];
      verdict_is =
          class_new sizes contents before r slot t.told t.verdict_is (name_same b has ∙ is);
      alike = recorded_more sizes rows new before (Class r t.told) (Class r words) are
          (ap (λ (w : List ℕ). Class r w) t.alike.laid)
          (sym (ap class_name_in t.alike.laid) ∙ t.alike.named, tt) pushed;
    }

-- ---- all rows

joined : {A B C : Type 0} (r : Result A FileFault) (f : A → Result B FileFault)
    (g : B → Result C FileFault) → ((r >>= f) >>= g) ≡ (r >>= λ x. f x >>= g)
joined (Ok x) f g = refl
joined (Err e) f g = refl

next_row : (sizes : Sizes) (contents : List ℕ) (before : List (Row ClassFile)) (row : Row DefinedAt)
    (rest : List (Row DefinedAt))
    → (row_found sizes contents before row >>= λ b. classes_found sizes contents b rest)
    ≡ classes_found sizes contents before (row ∷ rest)
unfolding classes_found
next_row sizes contents before (Loader r) rest = refl
next_row sizes contents before (Class r at) rest =
    joined (at_slot at.slot (class_found sizes contents before r))
    (λ c. Ok (before ++ Class r c ∷ [])) (λ b. classes_found sizes contents b rest)

abbrev rows_ok : List (Row ClassFile) → Result (List (Row ClassFile)) FileFault
rows_ok rows = Ok rows

rows_same : (a b : List (Row ClassFile)) → rows_ok a ≡ rows_ok b → a ≡ b
rows_same a b e = cc

found_bare : (sizes : Sizes) (contents : List ℕ) (before : List (Row ClassFile))
    (row : Row DefinedAt)
    (b : List (Row ClassFile)) → row_found sizes contents before row ≡ Ok b
    → bare b ≡ bare before ++ bare_of row ∷ []
found_bare sizes contents before (Loader r) b e =
    ap bare (sym (rows_same (before ++ Loader r ∷ []) b e)) ∙ more-bare before (Loader r)
found_bare sizes contents before (Class r at) b e =
    by_class (at_slot at.slot (class_found sizes contents before r)) e
  where
    by_class : (x : Result ClassFile FileFault) → (x >>= λ c. Ok (before ++ Class r c ∷ [])) ≡ Ok b
        → bare b ≡ bare before ++ bare_of (Class r at) ∷ []
    by_class (Ok c) e =
        ap bare (sym (rows_same (before ++ Class r c ∷ []) b e)) ∙ more-bare before (Class r c)
    by_class (Err f) e = absurd (cc)

-- some rows are taken, and these are left
pub record IsPassing (sizes : Sizes) (contents : List ℕ) (number : ℕ)
    (all rest : List (Row DefinedAt))
    (rows : LiveRows (List ℕ)) : Type 0 where
  pub taken : List (Row ClassFile)
  pub recorded : AreRecorded sizes rows taken
  pub same : classes_found sizes contents taken rest ≡ classes_found sizes contents [] all
  pub live : LiveRowsKeep sizes number (bare rows.rows) (bare rest)

pub passing_begins : (sizes : Sizes) (contents : List ℕ) (number : ℕ)
    (all rest : List (Row DefinedAt))
    (rows : LiveRows (List ℕ)) → rows ≡ record { sizes = sizes; rows = [] } → rest ≡ all
    → LiveRowsKeep sizes number [] (bare all) → IsPassing sizes contents number all rest rows
passing_begins sizes contents number all rest rows none same live =
    let empty : rows.rows ≡ [] = ap (λ (l : LiveRows (List ℕ)). l.rows) none in
    record {
      taken = [];
      recorded = record {
        sizes_are = ap (λ (l : LiveRows (List ℕ)). l.sizes) none;
        words = empty;
        named = tt;
      };
      same = ap (classes_found sizes contents []) same;
      live = subst (λ (l : List BareRow). LiveRowsKeep sizes number l (bare rest))
          (ap bare (sym empty))
          (subst (λ (l : List (Row DefinedAt)). LiveRowsKeep sizes number [] (bare l))
          (sym same) live);
    }

module _ (sizes : Sizes) (contents : List ℕ) (number : ℕ) (all rest : List (Row DefinedAt))
    (row : Row DefinedAt) (rows : LiveRows (List ℕ))
    (p : IsPassing sizes contents number all (row ∷ rest) rows) where
  pub may_follow : MayFollow sizes number rows (bare_of row)
  may_follow = record { sizes_are = p.recorded.sizes_are; keeps = p.live.1 }

  pub passing_fails : (e : OpenFault) → IsFaultIn e (row_found sizes contents p.taken row)
      → IsFaultIn e (classes_found sizes contents [] all)
  passing_fails e told =
      subst (IsFaultIn e) (next_row sizes contents p.taken row rest ∙ p.same)
      (through e (row_found sizes contents p.taken row)
      (λ b. classes_found sizes contents b rest) told)

  pub passing_on : (new : LiveRows (List ℕ))
      → ReportsOk (λ (u : Unit {0}). AreRecorded sizes new) (row_found sizes contents p.taken row)
      tt
      → IsPassing sizes contents number all rest new
  passing_on new t = record {
    taken = t.told;
    recorded = t.alike;
    same = sym (ap (λ r. r >>= λ b. classes_found sizes contents b rest) t.verdict_is)
        ∙ (next_row sizes contents p.taken row rest ∙ p.same);
    live = subst (λ (l : List BareRow). LiveRowsKeep sizes number l (bare rest))
        (sym (ap bare t.alike.words ∙ (bare-with lay t.told
        ∙ (found_bare sizes contents p.taken row t.told t.verdict_is
        ∙ ap (λ (l : List BareRow). l ++ bare_of row ∷ [])
        (sym (ap bare p.recorded.words ∙ bare-with lay p.taken))))))
        p.live.2;
  }

pub passing_ends : (sizes : Sizes) (contents : List ℕ) (number : ℕ)
    (all rest : List (Row DefinedAt))
    (rows : LiveRows (List ℕ)) → rest ≡ [] → IsPassing sizes contents number all rest rows
    → ReportsOk (AreRecorded sizes) (classes_found sizes contents [] all) rows
unfolding classes_found
passing_ends sizes contents number all rest rows none p = record {
  told = p.taken;
  verdict_is = sym p.same ∙ ap (classes_found sizes contents p.taken) none;
  alike = p.recorded;
}
