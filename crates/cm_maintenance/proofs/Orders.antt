-- What is gathered of rows, and what is listed of that.
-- For `gather`, `list`.
use Rattle.std.proofs.Common.{◌≡◌, ℕ, Bool, true, false, cond, List, [], ◌∷◌, ◌++◌, map, refl}
use Rattle.std.proofs.Common.{sym, ap, subst, ◌∙◌, eqb, append_assoc}
use Rattle.std.proofs.Common.{length, arith}
use Rattle.std.proofs.lemmas.Simd.{map-map}
use Rattle.std.specs.BTreeMap.{BTreeMap}
use Rattle.std.specs.FinMap.{entries, insert, entries-insert, values}
use Rattle.std.specs.Global.{Vec}
use Rattle.std.specs.Cmp.Lexicographic.{nat_list_cmp_total}
use Rattle.cm_record.specs.Names.{class_name_in}
use Rattle.cm_layout.specs.declared.row.Row.{Row}
use Rattle.cm_layout.specs.declared.row.Row.TheVariants.{Loader, Class}
use Rattle.cm_state.specs.State.{ByName, Shows, classes_of, loaders_among}
use Rattle.cm_maintenance.specs.declared.listing.ListedClass.{ListedClass}
use Rattle.cm_maintenance.specs.declared.gathered.Gathered.{Gathered}
use Rattle.cm_maintenance.specs.Listing.{placed, listed_shows, listing}
use Rattle.cm_maintenance.specs.Gathered.{by_bytes, entry_put, kept_of, Adds}
use Rattle.cm_maintenance.specs.Gathered.{Gathers, numbers_among}
use Rattle.cm_maintenance.proofs.Entries.{entries-empty, put-map}

-- ---- gathering

pub none_gathered : (numbers : BTreeMap (Vec ℕ) ℕ)
    (classes : BTreeMap ℕ (BTreeMap (Vec ℕ) ListedClass)) (g : Gathered)
    → numbers.entries ≡ [] → classes.entries ≡ [] → g.numbers ≡ numbers → g.classes ≡ classes
    → Gathers [] g
none_gathered numbers classes g no_number no_class numbers_are classes_are = record {
  numbers = ap (λ (m : BTreeMap (Vec ℕ) ℕ). by_bytes m.entries) numbers_are
      ∙ (ap by_bytes no_number ∙ sym (entries-empty ℕ));
  classes = λ u. ap (λ (m : BTreeMap ℕ (BTreeMap (Vec ℕ) ListedClass)). kept_of m u) classes_are
      ∙ (nothing u ∙ sym (entries-empty ListedClass));
}
  where
    nothing : (u : ℕ) → kept_of classes u ≡ []
    nothing u = rw no_class refl

pub one_more : (row : Row (List ℕ)) (rows : List (Row (List ℕ))) (old new : Gathered)
    → Adds row old new → Gathers rows old → Gathers (row ∷ rows) new
one_more (Loader r) rows old new adds had = record {
  numbers = adds.0 ∙ (ap (entry_put r.name r.number) had.numbers
      ∙ sym (entries-insert nat_list_cmp_total (numbers_among rows) r.name r.number));
  classes = λ u. ap (λ (m : BTreeMap ℕ (BTreeMap (Vec ℕ) ListedClass)). kept_of m u) adds.1
      ∙ had.classes u;
}
one_more (Class r words) rows old new adds had = record {
  numbers = ap (λ (m : BTreeMap (Vec ℕ) ℕ). by_bytes m.entries) adds.0 ∙ had.numbers;
  classes = λ u. adds.1.each u ∙ by_test u (eqb r.loader u) (had.classes u);
}
  where
    c : ListedClass
    c = record { class = words; place = r.place }

    by_test : (u : ℕ) (t : Bool)
        → kept_of old.classes u ≡ entries (classes_of listed_shows u (placed rows))
        → cond t (entry_put (class_name_in words) c (kept_of old.classes u))
        (kept_of old.classes u)
        ≡ entries (cond t (insert (classes_of listed_shows u (placed rows)) (class_name_in words) c)
        (classes_of listed_shows u (placed rows)))
    by_test u true kept =
        ap (entry_put (class_name_in words) c) kept
        ∙ sym (entries-insert nat_list_cmp_total (classes_of listed_shows u (placed rows))
        (class_name_in words) c)
    by_test u false kept = kept

-- the rows after those that are left are gathered
pub record IsGathering (rows left : List (Row (List ℕ))) (g : Gathered) : Type 0 where
  pub done : List (Row (List ℕ))
  pub all : rows ≡ left ++ done
  pub gathers : Gathers done g

pub gathering_on : (rows left rest : List (Row (List ℕ))) (row : Row (List ℕ)) (old new : Gathered)
    → left ≡ rest ++ row ∷ [] → Adds row old new → IsGathering rows left old
    → IsGathering rows rest new
gathering_on rows left rest row old new last adds h = record {
  done = row ∷ h.done;
  all = h.all ∙ (ap (λ (l : List (Row (List ℕ))). l ++ h.done) last
      ∙ append_assoc rest (row ∷ []) h.done);
  gathers = one_more row h.done old new adds h.gathers;
}

pub none_mapped : {A B : Type 0} (f : A → B) (l : List A) → length l ≡ 0 → map f l ≡ []
none_mapped f [] e = refl
none_mapped f (x ∷ l) e = absurd (omega (arith, e))

pub gathering_ends : (rows left : List (Row (List ℕ))) (g : Gathered) → left ≡ []
    → IsGathering rows left g → Gathers rows g
gathering_ends rows left g none h =
    subst (λ (l : List (Row (List ℕ))). Gathers l g)
    (sym (h.all ∙ ap (λ (l : List (Row (List ℕ))). l ++ h.done) none)) h.gathers

-- ---- listing

pub loaders_numbered : {A : Type 0} (shows : Shows A) (all rows : List (Row A))
    → entries (loaders_among shows all rows)
    ≡ map (λ e. (e.0, classes_of shows e.1 all)) (entries (numbers_among rows))
loaders_numbered {A} shows all [] =
    entries-empty (ByName A)
    ∙ ap (map (λ (e : List ℕ × ℕ). (e.0, classes_of shows e.1 all))) (sym (entries-empty ℕ))
loaders_numbered {A} shows all (Loader r ∷ rows) =
    entries-insert nat_list_cmp_total (loaders_among shows all rows) r.name
    (classes_of shows r.number all)
    ∙ (ap (entry_put r.name (classes_of shows r.number all)) (loaders_numbered shows all rows)
    ∙ (sym (put-map (λ (u : ℕ). classes_of shows u all) r.name r.number
    (entries (numbers_among rows)))
    ∙ ap (map (λ (e : List ℕ × ℕ). (e.0, classes_of shows e.1 all)))
    (sym (entries-insert nat_list_cmp_total (numbers_among rows) r.name r.number))))
loaders_numbered shows all (Class r c ∷ rows) = loaders_numbered shows all rows

pub same_numbers : (rows : List (Row (List ℕ))) → numbers_among (placed rows) ≡ numbers_among rows
same_numbers [] = refl
same_numbers (Loader r ∷ rows) =
    ap (λ (m : ByName ℕ). insert m r.name r.number) (same_numbers rows)
same_numbers (Class r words ∷ rows) = same_numbers rows

-- the classes of loaders, by their numbers
abbrev pub listed_by : BTreeMap ℕ (BTreeMap (Vec ℕ) ListedClass) → List (List ℕ × ℕ)
    → List (List ℕ × List ListedClass)
listed_by classes numbers =
    map (λ n. (n.0, map (λ (e : List ℕ × ListedClass). e.1) (kept_of classes n.1))) numbers

pub each_same : {A B : Type 0} (f g : A → B) → ((a : A) → f a ≡ g a) → (l : List A)
    → map f l ≡ map g l
each_same f g same [] = refl
each_same f g same (a ∷ l) = λ i. same a i ∷ each_same f g same l i

pub listed : (rows : List (Row (List ℕ))) (g : Gathered) → Gathers rows g
    → listed_by g.classes (by_bytes g.numbers.entries) ≡ listing rows
listed rows g h =
    ap (listed_by g.classes) h.numbers
    ∙ (each_same (λ (n : List ℕ × ℕ).
    (n.0, map (λ (e : List ℕ × ListedClass). e.1) (kept_of g.classes n.1)))
    (λ (n : List ℕ × ℕ). (n.0, values (classes_of listed_shows n.1 (placed rows))))
    (λ n. ap (λ (l : List (List ℕ × ListedClass)). (n.0, map (λ (e : List ℕ × ListedClass). e.1) l))
    (h.classes n.1))
    (entries (numbers_among rows))
    ∙ (sym (map-map (λ (l : List ℕ × ByName ListedClass). (l.0, values l.1))
    (λ (n : List ℕ × ℕ). (n.0, classes_of listed_shows n.1 (placed rows)))
    (entries (numbers_among rows)))
    ∙ ap (map (λ (l : List ℕ × ByName ListedClass). (l.0, values l.1)))
    (sym (loaders_numbered listed_shows (placed rows) (placed rows)
    ∙ ap (λ (m : ByName ℕ). map
    (λ (n : List ℕ × ℕ). (n.0, classes_of listed_shows n.1 (placed rows))) (entries m))
    (same_numbers rows)))))
