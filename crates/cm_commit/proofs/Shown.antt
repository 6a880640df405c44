-- Contents that match what is committed denote its cache, if its records are those of classes that
-- keep the class rules.
-- For `Committer::advance`, `Committer::images`, `Committer::offer`, `Committer::steps_left`.
use Rattle.std.proofs.Common.{◌≡◌, ℕ, ◌≤◌, ◌^◌, Bool, true, false, cond, List, [], ◌∷◌, ◌++◌}
use Rattle.std.proofs.Common.{length, drop, get_or, Some, None, inl, inr, refl, sym, ap, subst}
use Rattle.std.proofs.Common.{arith}
use Rattle.std.specs.Prelude.{◌&&◌, ◌==◌}
use Rattle.std.specs.Str.{bytes_eq}
use Rattle.std.proofs.lemmas.List.{map-append}
use Rattle.cm_class.specs.declared.class_file.ClassFile.{ClassFile}
use Rattle.cm_record_layout.specs.Packing.{second_of}
use Rattle.cm_record.specs.Layout.{lay, limit, IsRecordOf}
use Rattle.cm_record.specs.Names.{class_name_of, class_name_in}
use Rattle.cm_record.specs.Runs.{name_run}
use Rattle.cm_record.proofs.{own_name, run_read}
use Rattle.std.proofs.Math.Pow.{pow_mono}
use Rattle.cm_pool.specs.Geometry.{Sizes, IsGeometry}
use Rattle.cm_pool.specs.declared.place.Place.{Place}
use Rattle.cm_pool.specs.Lists.{Among}
use Rattle.cm_layout.specs.declared.class_row.ClassRow.{ClassRow}
use Rattle.cm_layout.specs.declared.row.Row.{Row}
use Rattle.cm_layout.specs.declared.row.Row.TheVariants.{Loader, Class}
use Rattle.cm_layout.specs.Offsets.{roots_at}
use Rattle.cm_layout.specs.Rows.{classes_in, rows_with, row_with}
use Rattle.cm_layout.specs.Frames.{HoldsRow, Frames}
use Rattle.cm_layout.proofs.{matches_frame}
use Rattle.cm_group.specs.Groups.{AreRight}
use Rattle.std.specs.List.{AllByRecursion}
use Rattle.cm_state.specs.State.{NamesDiffer, class_among, class_shows, words_show, state_of}
use Rattle.cm_state.specs.Stands.{EachKeepsRules, arenas_among}
use Rattle.cm_commit.specs.Committed.{Committed}
use Rattle.cm_commit.specs.Guarding.{IsCommitted, ContentsShow}
use Rattle.cm_commit.specs.States.{ShowsCache}
use Rattle.cm_commit.proofs.Guards.{rows_inside}
use Rattle.cm_commit.proofs.Places.{IsInside}

-- ---- names

name_told : (c : ClassFile) (words : List ℕ) → IsRecordOf c words
    → class_name_in words ≡ class_name_of c
unfolding class_name_in
name_told c words is =
    ap (λ r. elim r [ Some run ↦ run.0 | None ↦ [] ])
    (run_read words (name_run words (second_of (get_or words 1 0))) (class_name_of c)
    (own_name c words is))

-- each record gives its class's name
AreNamed : List (Row ClassFile) → Type 0
AreNamed [] = Unit {0}
AreNamed (Loader r ∷ rows) = AreNamed rows
AreNamed (Class r c ∷ rows) = (class_name_in (lay c) ≡ class_name_of c) × AreNamed rows

none_among : (u : ℕ) (name : List ℕ) (rows : List (Row ClassFile)) → AreNamed rows
    → class_among words_show u name (rows_with lay rows) ≡ None
    → class_among class_shows u name rows ≡ None
unfolding AreNamed
none_among u name [] named e = refl
none_among u name (Loader r ∷ rows) named e = none_among u name rows named e
none_among u name (Class r c ∷ rows) named e =
    by_test ((r.loader == u) && bytes_eq (class_name_of c) name)
    (subst (λ (x : List ℕ). cond ((r.loader == u) && bytes_eq x name) (Some (lay c))
    (class_among words_show u name (rows_with lay rows)) ≡ None) named.0 e)
    (none_among u name rows named.1)
  where
    by_test : (t : Bool)
        → cond t (Some (lay c)) (class_among words_show u name (rows_with lay rows)) ≡ None
        → (class_among words_show u name (rows_with lay rows) ≡ None
        → class_among class_shows u name rows ≡ None)
        → cond t (Some c) (class_among class_shows u name rows) ≡ None
    by_test true none rest = absurd (cc)
    by_test false none rest = rest none

named-append : (pre : List (Row ClassFile)) (row : Row ClassFile) → AreNamed pre
    → AreNamed (row ∷ []) → AreNamed (pre ++ row ∷ [])
unfolding AreNamed
named-append [] row named one = one
named-append (Loader r ∷ pre) row named one = named-append pre row named one
named-append (Class r c ∷ pre) row named one = (named.0, named-append pre row named.1 one)

differ : (pre rows : List (Row ClassFile)) → AreNamed pre → AreNamed rows
    → NamesDiffer words_show (rows_with lay pre) (rows_with lay rows)
    → NamesDiffer class_shows pre rows
unfolding AreNamed
differ pre [] before named d = tt
differ pre (Loader r ∷ rows) before named d =
    differ (pre ++ Loader r ∷ []) rows (named-append pre (Loader r) before tt) named
    (subst (λ (l : List (Row (List ℕ))). NamesDiffer words_show l (rows_with lay rows))
    (sym (map-append (row_with lay) pre (Loader r ∷ []))) d)
differ pre (Class r c ∷ rows) before named d = (
  none_among r.loader (class_name_of c) pre before
      (subst (λ (x : List ℕ). class_among words_show r.loader x (rows_with lay pre) ≡ None)
      named.0 d.0),
  differ (pre ++ Class r c ∷ []) rows (named-append pre (Class r c) before (named.0, tt)) named.1
      (subst (λ (l : List (Row (List ℕ))). NamesDiffer words_show l (rows_with lay rows))
      (sym (map-append (row_with lay) pre (Class r c ∷ []))) d.1),
)

-- ---- the classes of the records

pub AreShort : List (Row (List ℕ)) → Type 0
AreShort [] = Unit {0}
AreShort (Loader r ∷ rows) = AreShort rows
AreShort (Class r words ∷ rows) = (length words ≤ limit) × AreShort rows

record HasClasses (rows : List (Row (List ℕ))) : Type 0 where
  classes : List (Row ClassFile)
  laid : rows_with lay classes ≡ rows
  kept : EachKeepsRules classes
  named : AreNamed classes

has_classes : (rows : List (Row (List ℕ))) → AreRight rows → AreShort rows → HasClasses rows
unfolding AreNamed AreShort
has_classes [] right short = record { classes = []; laid = refl; kept = tt; named = tt }
has_classes (Loader r ∷ rows) right short =
    let rest = has_classes rows right short in
    record {
      classes = Loader r ∷ rest.classes;
      laid = ap (λ (l : List (Row (List ℕ))). Loader r ∷ l) rest.laid;
      kept = rest.kept;
      named = rest.named;
    }
has_classes (Class r words ∷ rows) right short =
    let rest = has_classes rows right.1 short.1 in
    let c = right.0.0 in
    let laid : words ≡ lay c = right.0.2 in
    record {
      classes = Class r c ∷ rest.classes;
      laid = (λ i. Class r (sym laid i) ∷ rest.laid i);
      kept = (right.0.1, rest.kept);
      named = (
        name_told c (lay c) (record {
          spelled = right.0.1.spelled;
          laid = refl;
          short = subst (λ (l : List ℕ). length l ≤ limit) laid short.0;
        }),
        rest.named,
      );
    }

pub chunk_words : (sizes : Sizes) → IsGeometry sizes → (place : Place) → IsInside sizes place
    → place.words ≤ limit
chunk_words sizes g place is =
    let power : 2 ^ sizes.top ≤ 2 ^ 12 = pow_mono g.top_to in
    omega (arith, is.words, is.chunk, power)

-- a record is no longer than its chunk
pub are_short : (sizes : Sizes) (roots : List ℕ) (rows : List (Row (List ℕ)))
    → ((r : ClassRow) → Among r (classes_in rows) → r.place.words ≤ limit)
    → AllByRecursion (HoldsRow sizes roots) rows → AreShort rows
unfolding AreShort
are_short sizes roots [] small held = tt
are_short sizes roots (Loader r ∷ rows) small held = are_short sizes roots rows small held.1
are_short sizes roots (Class r words ∷ rows) small held = (
  omega (arith, held.0.count, small r (inl refl)),
  are_short sizes roots rows (λ s m. small s (inr m)) held.1,
)

-- ---- what the contents denote

pub shows_cache : (c : Committed) (contents : List ℕ) → IsCommitted c → AreRight c.rows
    → NamesDiffer words_show [] c.rows → ContentsShow c contents
    → ShowsCache c.sizes c.rows c.number contents
unfolding AreNamed
shows_cache c contents right records names shows =
    let short = are_short c.sizes (drop (roots_at c.sizes) contents) c.rows
    (λ r m. chunk_words c.sizes right.lawful r.place
    (rows_inside c.sizes c.framing c.rows c.number right r m)) shows.records in
    let has = has_classes c.rows records short in
    let frames = matches_frame c.sizes contents c.rows c.number
    (record { framing = c.framing; right = right; matches = shows }) in
    record {
      state = state_of class_shows has.classes;
      arenas = arenas_among (classes_in has.classes) has.classes;
      stands = record {
        rows = has.classes;
        framed = subst (λ (l : List (Row (List ℕ))). Frames c.sizes contents l c.number)
            (sym has.laid) frames;
        kept = has.kept;
        differ = differ [] has.classes (tt {0}) has.named
            (subst (NamesDiffer words_show []) (sym has.laid) names);
        state_is = refl;
        arenas_are = refl;
      };
      records = has.laid;
    }
