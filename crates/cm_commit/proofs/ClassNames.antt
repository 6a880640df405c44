-- Whether a class's name is new, by what is committed and by the entries before it.
-- For `take_group`.
use Rattle.std.proofs.Common.{◌≡◌, ℕ, Bool, true, false, cond, not, List, []}
use Rattle.std.proofs.Common.{◌∷◌, ◌++◌, Some, None, inl, inr, refl, sym, ap, subst, ◌∙◌}
use Rattle.std.proofs.Common.{eqb, is_some, is_none}
use Rattle.std.specs.Prelude.{◌&&◌, ◌||◌, ◌==◌}
use Rattle.std.specs.Str.{bytes_eq}
use Rattle.std.specs.List.{list_any}
use Rattle.std.proofs.lemmas.Bool.{eqb-true, eq-eqb}
use Rattle.cm_pool.specs.declared.chunk.Chunk.{Chunk}
use Rattle.cm_pool.specs.Chunks.{same_chunk}
use Rattle.cm_pool.specs.Lists.{Among}
use Rattle.cm_record.specs.Names.{class_name_in}
use Rattle.cm_layout.specs.declared.class_row.ClassRow.{ClassRow}
use Rattle.cm_layout.specs.declared.loader_row.LoaderRow.{LoaderRow}
use Rattle.cm_layout.specs.declared.row.Row.{Row}
use Rattle.cm_layout.specs.declared.row.Row.TheVariants.{Loader, Class}
use Rattle.cm_layout.specs.Rows.{name_of, without_loader, without_loaders, moved, classes_in}
use Rattle.cm_layout.specs.Rules.{is_live}
use Rattle.cm_layout.proofs.{name-gone, name-without}
use Rattle.cm_state.specs.State.{words_show, class_among}
use Rattle.cm_group.specs.Groups.{Carried}
use Rattle.cm_commit.specs.Joining.{makes_class}

-- ---- classes among rows

abbrev pub is_there : ℕ → List ℕ → List (Row (List ℕ)) → Bool
is_there u name rows = is_none (class_among words_show u name rows)

pub there-loader : (u : ℕ) (name : List ℕ) (rows : List (Row (List ℕ))) (r : LoaderRow)
    → is_there u name (rows ++ Loader r ∷ []) ≡ is_there u name rows
there-loader u name [] r = refl
there-loader u name (Loader s ∷ rows) r = there-loader u name rows r
there-loader u name (Class s w ∷ rows) r =
    by_test ((s.loader == u) && bytes_eq (class_name_in w) name) (there-loader u name rows r)
  where
    by_test : (t : Bool) → is_there u name (rows ++ Loader r ∷ []) ≡ is_there u name rows
        → is_none (cond t (Some w) (class_among words_show u name (rows ++ Loader r ∷ [])))
        ≡ is_none (cond t (Some w) (class_among words_show u name rows))
    by_test true rest = refl
    by_test false rest = rest

pub there-class : (u : ℕ) (name : List ℕ) (rows : List (Row (List ℕ))) (r : ClassRow)
    (words : List ℕ)
    → is_there u name (rows ++ Class r words ∷ [])
    ≡ (is_there u name rows && not ((r.loader == u) && bytes_eq (class_name_in words) name))
there-class u name [] r words = by_test ((r.loader == u) && bytes_eq (class_name_in words) name)
  where
    by_test : (t : Bool) → is_none (cond t (Some words) None) ≡ not t
    by_test true = refl
    by_test false = refl
there-class u name (Loader s ∷ rows) r words = there-class u name rows r words
there-class u name (Class s w ∷ rows) r words =
    by_test ((s.loader == u) && bytes_eq (class_name_in w) name) (there-class u name rows r words)
  where
    is : Bool
    is = not ((r.loader == u) && bytes_eq (class_name_in words) name)

    by_test : (t : Bool)
        → is_there u name (rows ++ Class r words ∷ []) ≡ (is_there u name rows && is)
        → is_none (cond t (Some w) (class_among words_show u name (rows ++ Class r words ∷ [])))
        ≡ (is_none (cond t (Some w) (class_among words_show u name rows)) && is)
    by_test true rest = refl
    by_test false rest = rest

other : (a b c : ℕ) → eqb a b ≡ true → eqb c b ≡ false → eqb a c ≡ false
other a b c same differ = by_eq (eqb a c) refl
  where
    true_not : {X : Type 0} → true ≡ false → X
    true_not p = absurd (cc)

    by_eq : (t : Bool) → eqb a c ≡ t → t ≡ false
    by_eq true e =
        true_not (sym (eq-eqb c b (sym (eqb-true a c e) ∙ eqb-true a b same)) ∙ differ)
    by_eq false e = refl

there-without : (u v : ℕ) (name : List ℕ) (rows : List (Row (List ℕ))) → eqb u v ≡ false
    → is_there u name (without_loader v rows) ≡ is_there u name rows
there-without u v name [] differ = refl
there-without u v name (Loader s ∷ rows) differ =
    by_test (s.number == v) (there-without u v name rows differ)
  where
    by_test : (t : Bool) → is_there u name (without_loader v rows) ≡ is_there u name rows
        → is_there u name (cond (not t) (Loader s ∷ without_loader v rows) (without_loader v rows))
        ≡ is_there u name rows
    by_test true rest = rest
    by_test false rest = rest
there-without u v name (Class s w ∷ rows) differ =
    by_test (eqb s.loader v) refl (there-without u v name rows differ)
  where
    named : Bool
    named = bytes_eq (class_name_in w) name

    kept : (t : Bool) → is_there u name (without_loader v rows) ≡ is_there u name rows
        → is_none (cond t (Some w) (class_among words_show u name (without_loader v rows)))
        ≡ is_none (cond t (Some w) (class_among words_show u name rows))
    kept true rest = refl
    kept false rest = rest

    differs : eqb s.loader v ≡ true → eqb s.loader u ≡ false
    differs e = other s.loader v u e differ

    by_test : (t : Bool) → eqb s.loader v ≡ t
        → is_there u name (without_loader v rows) ≡ is_there u name rows
        → is_there u name (cond (not t) (Class s w ∷ without_loader v rows) (without_loader v rows))
        ≡ is_none (cond (eqb s.loader u && named) (Some w) (class_among words_show u name rows))
    by_test true e rest = rw (differs e) rest
    by_test false e rest = kept (eqb s.loader u && named) rest

-- a loader that has no class has none of a name
pub none-there : (u : ℕ) (name : List ℕ) (rows : List (Row (List ℕ)))
    → ((r : ClassRow) → Among r (classes_in rows) → eqb r.loader u ≡ false)
    → is_there u name rows ≡ true
none-there u name [] none = refl
none-there u name (Loader s ∷ rows) none = none-there u name rows none
none-there u name (Class s w ∷ rows) none =
    rw (none s (inl refl)) (none-there u name rows (λ r a. none r (inr a)))

-- ---- loaders among rows

pub live-loader : (u : ℕ) (rows : List (Row (List ℕ))) (r : LoaderRow)
    → is_live u (rows ++ Loader r ∷ []) ≡ true → eqb r.number u ≡ false → is_live u rows ≡ true
live-loader u [] r live differ = by_test (eqb r.number u) differ live
  where
    by_test : (t : Bool) → t ≡ false → is_some (cond t (Some r.name) None) ≡ true → false ≡ true
    by_test true e h = sym e
    by_test false e h = h
live-loader u (Loader s ∷ rows) r live differ =
    by_test (eqb s.number u) (λ h. live-loader u rows r h differ) live
  where
    by_test : (t : Bool)
        → (is_live u (rows ++ Loader r ∷ []) ≡ true → is_live u rows ≡ true)
        → is_some (cond t (Some s.name) (name_of u (rows ++ Loader r ∷ []))) ≡ true
        → is_some (cond t (Some s.name) (name_of u rows)) ≡ true
    by_test true rest h = refl
    by_test false rest h = rest h
live-loader u (Class s w ∷ rows) r live differ = live-loader u rows r live differ

pub live-class : (u : ℕ) (rows : List (Row (List ℕ))) (r : ClassRow) (words : List ℕ)
    → is_live u (rows ++ Class r words ∷ []) ≡ is_live u rows
live-class u [] r words = refl
live-class u (Loader s ∷ rows) r words = by_test (eqb s.number u) (live-class u rows r words)
  where
    by_test : (t : Bool) → is_live u (rows ++ Class r words ∷ []) ≡ is_live u rows
        → is_some (cond t (Some s.name) (name_of u (rows ++ Class r words ∷ [])))
        ≡ is_some (cond t (Some s.name) (name_of u rows))
    by_test true rest = refl
    by_test false rest = rest
live-class u (Class s w ∷ rows) r words = live-class u rows r words

live-without : (u v : ℕ) (rows : List (Row (List ℕ)))
    → is_live u (without_loader v rows) ≡ true → (is_live u rows ≡ true) × (eqb u v ≡ false)
live-without u v rows live = by_test (eqb u v) refl
  where
    gone : {X : Type 0} → name_of u (without_loader v rows) ≡ None → X
    gone none = let not_live = sym live ∙ ap is_some none in absurd (cc)

    by_test : (t : Bool) → eqb u v ≡ t → (is_live u rows ≡ true) × (eqb u v ≡ false)
    by_test true same =
        gone (subst (λ (k : ℕ). name_of k (without_loader v rows) ≡ None) (sym (eqb-true u v same))
        (name-gone v rows))
    by_test false differ =
        let turned = other v v u (eq-eqb v v refl) differ in
        (sym (ap is_some (name-without u v rows turned)) ∙ live, differ)

-- a loader that is left was live before, and has the classes that it had
pub record IsLeft (u : ℕ) (vs : List ℕ) (rows : List (Row (List ℕ))) : Type 0 where
  pub live : is_live u rows ≡ true
  pub there : (name : List ℕ)
      → is_there u name (without_loaders vs rows) ≡ is_there u name rows

pub left-without : (u : ℕ) (vs : List ℕ) (rows : List (Row (List ℕ)))
    → is_live u (without_loaders vs rows) ≡ true → IsLeft u vs rows
left-without u [] rows live = record { live = live; there = λ name. refl }
left-without u (v ∷ vs) rows live =
    let rest = left-without u vs (without_loader v rows) live in
    let one = live-without u v rows rest.live in
    record {
      live = one.0;
      there = λ name. rest.there name ∙ there-without u v name rows one.1;
    }

-- ---- entries before

pub any-more : (u : ℕ) (name : List ℕ) (before : List Carried) (c : Carried)
    → list_any (makes_class u name) (before ++ c ∷ [])
    ≡ (list_any (makes_class u name) before || makes_class u name c)
any-more u name [] c = by_test (makes_class u name c)
  where
    by_test : (t : Bool) → (t || false) ≡ t
    by_test true = refl
    by_test false = refl
any-more u name (b ∷ before) c = by_test (makes_class u name b) (any-more u name before c)
  where
    by_test : (t : Bool)
        → list_any (makes_class u name) (before ++ c ∷ [])
        ≡ (list_any (makes_class u name) before || makes_class u name c)
        → (t || list_any (makes_class u name) (before ++ c ∷ []))
        ≡ (t || list_any (makes_class u name) before || makes_class u name c)
    by_test true rest = refl
    by_test false rest = rest

-- ---- after a move

pub there-moved : (u : ℕ) (from to : Chunk) (name : List ℕ) (rows : List (Row (List ℕ)))
    → is_there u name (moved from to rows) ≡ is_there u name rows
there-moved u from to name [] = refl
there-moved u from to name (Loader s ∷ rows) = there-moved u from to name rows
there-moved u from to name (Class s w ∷ rows) =
    by_test (same_chunk s.place.chunk from) (there-moved u from to name rows)
  where
    kept : (t : Bool) → is_there u name (moved from to rows) ≡ is_there u name rows
        → is_none (cond t (Some w) (class_among words_show u name (moved from to rows)))
        ≡ is_none (cond t (Some w) (class_among words_show u name rows))
    kept true rest = refl
    kept false rest = rest

    by_test : (t : Bool) → is_there u name (moved from to rows) ≡ is_there u name rows
        → is_there u name (cond t (Class (record s { place = record s.place { chunk = to } }) w)
        (Class s w) ∷ moved from to rows)
        ≡ is_there u name (Class s w ∷ rows)
    by_test true rest = kept ((s.loader == u) && bytes_eq (class_name_in w) name) rest
    by_test false rest = kept ((s.loader == u) && bytes_eq (class_name_in w) name) rest

pub live-moved : (u : ℕ) (from to : Chunk) (rows : List (Row (List ℕ)))
    → is_live u (moved from to rows) ≡ is_live u rows
live-moved u from to [] = refl
live-moved u from to (Loader s ∷ rows) =
    by_test (eqb s.number u) (live-moved u from to rows)
  where
    by_test : (t : Bool) → is_live u (moved from to rows) ≡ is_live u rows
        → is_some (cond t (Some s.name) (name_of u (moved from to rows)))
        ≡ is_some (cond t (Some s.name) (name_of u rows))
    by_test true rest = refl
    by_test false rest = rest
live-moved u from to (Class s w ∷ rows) =
    by_test (same_chunk s.place.chunk from) (live-moved u from to rows)
  where
    by_test : (t : Bool) → is_live u (moved from to rows) ≡ is_live u rows
        → is_live u (cond t (Class (record s { place = record s.place { chunk = to } }) w)
        (Class s w) ∷ moved from to rows) ≡ is_live u rows
    by_test true rest = rest
    by_test false rest = rest
