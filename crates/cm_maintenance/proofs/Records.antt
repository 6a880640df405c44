-- A listing without its places, entry by entry.
-- For `listing_is_state`.
use Rattle.std.proofs.Common.{◌≡◌, ℕ, Bool, true, false, cond, List, [], ◌∷◌, map}
use Rattle.std.proofs.Common.{sym, ap, ◌∙◌, eqb}
use Rattle.std.proofs.lemmas.Simd.{map-map}
use Rattle.std.specs.FinMap.{entries, insert, entries-insert, values}
use Rattle.std.specs.Cmp.Lexicographic.{nat_list_cmp_total}
use Rattle.cm_record.specs.Names.{class_name_in}
use Rattle.cm_layout.specs.declared.row.Row.{Row}
use Rattle.cm_layout.specs.declared.row.Row.TheVariants.{Loader, Class}
use Rattle.cm_state.specs.State.{ByName, Shows, classes_of, loaders_among, words_show}
use Rattle.cm_maintenance.specs.declared.listing.ListedClass.{ListedClass}
use Rattle.cm_maintenance.specs.Listing.{placed, listed_shows, in_order}
use Rattle.cm_maintenance.specs.Gathered.{entry_put, numbers_among}
use Rattle.cm_maintenance.specs.Laws.{without_places, ListsState}
use Rattle.cm_maintenance.proofs.Entries.{entries-empty, put-map}
use Rattle.cm_maintenance.proofs.Orders.{loaders_numbered, same_numbers, each_same}

abbrev pub record_of : ListedClass → List ℕ
record_of c = c.class

-- the classes of a loader, by name
records_of : (u : ℕ) (rows : List (Row (List ℕ)))
    → map (λ e. (e.0, record_of e.1)) (entries (classes_of listed_shows u (placed rows)))
    ≡ entries (classes_of words_show u rows)
records_of u [] =
    ap (map (λ (e : List ℕ × ListedClass). (e.0, record_of e.1))) (entries-empty ListedClass)
    ∙ sym (entries-empty (List ℕ))
records_of u (Loader r ∷ rows) = records_of u rows
records_of u (Class r words ∷ rows) = by_test (eqb r.loader u) (records_of u rows)
  where
    c : ListedClass
    c = record { class = words; place = r.place }

    here : ByName ListedClass
    here = classes_of listed_shows u (placed rows)

    there : ByName (List ℕ)
    there = classes_of words_show u rows

    by_test : (t : Bool) → map (λ e. (e.0, record_of e.1)) (entries here) ≡ entries there
        → map (λ e. (e.0, record_of e.1))
        (entries (cond t (insert here (class_name_in words) c) here))
        ≡ entries (cond t (insert there (class_name_in words) words) there)
    by_test true rest =
        ap (map (λ (e : List ℕ × ListedClass). (e.0, record_of e.1)))
        (entries-insert nat_list_cmp_total here (class_name_in words) c)
        ∙ (put-map record_of (class_name_in words) c (entries here)
        ∙ (ap (entry_put (class_name_in words) words) rest
        ∙ sym (entries-insert nat_list_cmp_total there (class_name_in words) words)))
    by_test false rest = rest

-- the same in a list
values_without : (u : ℕ) (rows : List (Row (List ℕ)))
    → map record_of (values (classes_of listed_shows u (placed rows)))
    ≡ values (classes_of words_show u rows)
values_without u rows =
    map-map record_of (λ (e : List ℕ × ListedClass). e.1)
    (entries (classes_of listed_shows u (placed rows)))
    ∙ (sym (map-map (λ (e : List ℕ × List ℕ). e.1)
    (λ (e : List ℕ × ListedClass). (e.0, record_of e.1))
    (entries (classes_of listed_shows u (placed rows))))
    ∙ ap (map (λ (e : List ℕ × List ℕ). e.1)) (records_of u rows))

-- the loaders of rows in order, by their numbers
in_order_numbered : {A : Type 0} (shows : Shows A) (all rows : List (Row A))
    → in_order (loaders_among shows all rows)
    ≡ map (λ n. (n.0, values (classes_of shows n.1 all))) (entries (numbers_among rows))
in_order_numbered {A} shows all rows =
    ap (map (λ (l : List ℕ × ByName A). (l.0, values l.1))) (loaders_numbered shows all rows)
    ∙ map-map (λ (l : List ℕ × ByName A). (l.0, values l.1))
    (λ (n : List ℕ × ℕ). (n.0, classes_of shows n.1 all)) (entries (numbers_among rows))

pub lists_state : ListsState
lists_state rows =
    ap without_places (in_order_numbered listed_shows (placed rows) (placed rows))
    ∙ (ap (λ (m : ByName ℕ). without_places
    (map (λ (n : List ℕ × ℕ). (n.0, values (classes_of listed_shows n.1 (placed rows))))
    (entries m)))
    (same_numbers rows)
    ∙ (map-map (λ (l : List ℕ × List ListedClass). (l.0, map (λ (c : ListedClass). c.class) l.1))
    (λ (n : List ℕ × ℕ). (n.0, values (classes_of listed_shows n.1 (placed rows))))
    (entries (numbers_among rows))
    ∙ (each_same (λ (n : List ℕ × ℕ).
    (n.0, map record_of (values (classes_of listed_shows n.1 (placed rows)))))
    (λ (n : List ℕ × ℕ). (n.0, values (classes_of words_show n.1 rows)))
    (λ n. ap (λ (l : List (List ℕ)). (n.0, l)) (values_without n.1 rows))
    (entries (numbers_among rows))
    ∙ sym (in_order_numbered words_show rows rows))))
