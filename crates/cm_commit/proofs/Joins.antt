-- Entries may join exactly if tests on what is committed say so.
-- For `take_group`.
use Rattle.std.proofs.Common.{◌≡◌, ℕ, ◌+◌, ◌^◌, ◌<◌, ◌≤◌, Bool, true, false, not, List, [], ◌∷◌}
use Rattle.std.proofs.Common.{◌++◌, length, Option, Some, None, refl, sym, ap, subst, ◌∙◌, arith}
use Rattle.std.proofs.Common.{eqb, is_some, is_none}
use Rattle.std.specs.Prelude.{◌&&◌, ◌||◌, ◌==◌}
use Rattle.std.specs.Str.{bytes_eq}
use Rattle.std.specs.List.{list_all, list_any}
use Rattle.std.proofs.lemmas.Bool.{eqb-true, and_parts, and_from}
use Rattle.cm_pool.specs.Geometry.{Sizes, IsGeometry}
use Rattle.cm_pool.specs.Lists.{Among}
use Rattle.cm_record.specs.Names.{class_name_in}
use Rattle.cm_layout.specs.declared.class_row.ClassRow.{ClassRow}
use Rattle.cm_layout.specs.declared.row.Row.{Row}
use Rattle.cm_layout.specs.declared.row.Row.TheVariants.{Loader, Class}
use Rattle.cm_layout.specs.declared.entry.Entry.{Entry}
use Rattle.cm_layout.specs.declared.entry.Entry.TheVariants as entry
use Rattle.cm_layout.specs.Slots.{FitsEntry}
use Rattle.cm_layout.specs.Rows.{bare, rows_after, without_loaders}
use Rattle.cm_layout.specs.Rules.{broken_rule, is_live, has_room, class_fits, is_new_loader}
use Rattle.cm_layout.specs.Frames.{BareRow, AreApart, bare_entry}
use Rattle.cm_layout.proofs.{own_loaders, name-bare, classes-bare, rule-bare}
use Rattle.cm_state.specs.State.{words_show, class_among}
use Rattle.cm_state.specs.Entries.{IsNewClass, AreCacheRows}
use Rattle.cm_group.specs.Groups.{Carried, entries_in}
use Rattle.cm_commit.specs.Offers.{filled, HasRecords, carries_own, writes_apart}
use Rattle.cm_commit.specs.Offers.{MayJoin, MayJoinAll}
use Rattle.cm_commit.specs.Keeping.{keep_rules}
use Rattle.cm_commit.specs.Joining.{makes_class, is_new_name, is_new, are_new, entries_are_apart}
use Rattle.cm_commit.specs.Joining.{may_join, MovesThem, AllMoveThem}
use Rattle.cm_commit.proofs.Committing.{own_all, rules_kept}
use Rattle.cm_commit.proofs.Rights.{AreKept, kept-after, after-filled, rule-filled}
use Rattle.cm_commit.proofs.Fitting.{has_one, rule_rows, rule_both, live_past, fits_one}
use Rattle.cm_commit.proofs.MovedOn.{TellsRecords, records_first, records_next, moves-right}
use Rattle.cm_commit.proofs.MovedOn.{moves-them}
use Rattle.cm_commit.proofs.ClassNames.{is_there, there-loader, there-class, left-without}
use Rattle.cm_commit.proofs.ClassNames.{there-moved, live-moved}
use Rattle.cm_commit.proofs.ClassNames.{none-there, live-loader, live-class, any-more}

-- ---- tests

with_true : (t : Bool) → t ≡ (t && true)
with_true true = refl
with_true false = refl

neither : (a b d : Bool) → (a && not (b || d)) ≡ ((a && not b) && not d)
neither true true d = refl
neither true false d = refl
neither false b d = refl

none_is : {A : Type 0} (o : Option A) → is_none o ≡ true → o ≡ None
none_is None e = refl
none_is (Some a) e = absurd (cc)

below_differs : (a b : ℕ) → a < b → eqb a b ≡ false
below_differs a b lt = by_eq (eqb a b) refl
  where
    by_eq : (t : Bool) → eqb a b ≡ t → t ≡ false
    by_eq true e = absurd (omega (arith, eqb-true a b e, lt))
    by_eq false e = refl

-- ---- loaders of rows

live_bare : (u : ℕ) (rows : List (Row (List ℕ))) → is_live u (bare rows) ≡ is_live u rows
live_bare u rows = ap is_some (name-bare u rows)

-- a loader that comes later has no class yet
none_later : (sizes : Sizes) (n : ℕ) (rows : List (Row (List ℕ))) (u : ℕ) (name : List ℕ)
    → AreKept sizes n rows → n < u → is_there u name rows ≡ true
none_later sizes n rows u name kept lt =
    none-there u name rows (λ (r : ClassRow) among.
    let own = (own_loaders sizes n (bare rows) kept.live).owned r
    (subst (λ (l : List ClassRow). Among r l) (sym (classes-bare rows)) among) in
    let past = live_past sizes n (bare rows) r.loader kept.live own in
    below_differs r.loader u (omega (arith, past, lt)))

-- ---- names of classes

-- The class names of live loaders follow from what is committed and the entries before.
pub record TellsNames (committed : List (Row (List ℕ))) (before : List Carried)
    (rows : List (Row (List ℕ))) (n : ℕ) : Type 0 where
  pub live : (u : ℕ) (name : List ℕ) → is_live u rows ≡ true
      → is_there u name rows ≡ is_new_name committed before u name
  pub later : (u : ℕ) (name : List ℕ) → n < u → is_new_name committed before u name ≡ true

pub tells_first : (sizes : Sizes) (n : ℕ) (rows : List (Row (List ℕ))) → AreKept sizes n rows
    → TellsNames rows [] rows n
tells_first sizes n rows kept = record {
  live = λ u name live. with_true (is_there u name rows);
  later = λ u name lt.
      sym (with_true (is_there u name rows)) ∙ none_later sizes n rows u name kept lt;
}

one_more : (committed : List (Row (List ℕ))) (before : List Carried) (c : Carried) (u : ℕ)
    (name : List ℕ)
    → is_new_name committed (before ++ c ∷ []) u name
    ≡ (is_new_name committed before u name && not (makes_class u name c))
one_more committed before c u name =
    let there = is_there u name committed in
    ap (λ (t : Bool). there && not t) (any-more u name before c)
    ∙ neither there (list_any (makes_class u name) before) (makes_class u name c)

no_class : (committed : List (Row (List ℕ))) (before : List Carried) (c : Carried) (u : ℕ)
    (name : List ℕ) → makes_class u name c ≡ false
    → is_new_name committed (before ++ c ∷ []) u name ≡ is_new_name committed before u name
no_class committed before c u name none =
    one_more committed before c u name
    ∙ (ap (λ (t : Bool). is_new_name committed before u name && not t) none
    ∙ sym (with_true (is_new_name committed before u name)))

-- the same once loaders are unloaded
names-left : (n : ℕ) (committed : List (Row (List ℕ))) (before : List Carried)
    (rows : List (Row (List ℕ))) (us : List ℕ) (c : Carried)
    → ((u : ℕ) (name : List ℕ) → makes_class u name c ≡ false)
    → TellsNames committed before rows n
    → TellsNames committed (before ++ c ∷ []) (without_loaders us rows) (n + 1)
names-left n committed before rows us c none tells = record {
  live = λ u name live.
      let is = left-without u us rows live in
      is.there name
      ∙ (tells.live u name is.live ∙ sym (no_class committed before c u name (none u name)));
  later = λ u name lt.
      no_class committed before c u name (none u name) ∙ tells.later u name (omega (arith, lt));
}

pub tells_next : (sizes : Sizes) (n : ℕ) (committed : List (Row (List ℕ))) (before : List Carried)
    (rows : List (Row (List ℕ))) (e : Entry (List ℕ)) (moved : List (List ℕ)) → AreKept sizes n rows
    → broken_rule sizes (bare rows) (n + 1) (bare_entry e) ≡ None → HasRecords rows e moved
    → TellsNames committed before rows n
    → TellsNames committed (before ++ record { entry = e; moved = moved } ∷ [])
    (rows_after rows (filled (record { entry = e; moved = moved }))) (n + 1)
tells_next sizes n committed before rows (entry.Live (Loader r)) moved kept keeps has tells =
    let c : Carried = record { entry = entry.Live (Loader r); moved = moved } in
    let number = (and_parts (r.number == n + 1) (is_new_loader sizes (bare rows) r)
    (rule_rows ((r.number == n + 1) && is_new_loader sizes (bare rows) r) keeps)).0 in
    record {
      live = λ u name live.
          there-loader u name rows r
          ∙ (by_number u name number live (eqb r.number u) refl
          ∙ sym (no_class committed before c u name refl));
      later = λ u name lt.
          no_class committed before c u name refl ∙ tells.later u name (omega (arith, lt));
    }
  where
    by_number : (u : ℕ) (name : List ℕ) → (r.number == n + 1) ≡ true
        → is_live u (rows ++ Loader r ∷ []) ≡ true → (t : Bool) → eqb r.number u ≡ t
        → is_there u name rows ≡ is_new_name committed before u name
    by_number u name number live true e =
        let lt : n < u = omega (arith, eqb-true r.number (n + 1) number, eqb-true r.number u e) in
        none_later sizes n rows u name kept lt ∙ sym (tells.later u name lt)
    by_number u name number live false e = tells.live u name (live-loader u rows r live e)
tells_next sizes n committed before rows (entry.Live (Class r words)) moved kept keeps has tells =
    let c : Carried = record { entry = entry.Live (Class r words); moved = moved } in
    let rules = rule_both
    (is_live r.loader (bare rows) && has_room sizes (bare rows) (Class r (tt {0})))
    (class_fits sizes (bare rows) r) keeps in
    let alive = (and_parts (is_live r.loader (bare rows))
    (has_room sizes (bare rows) (Class r (tt {0})))
    rules.0).0 in
    let past = live_past sizes n (bare rows) r.loader kept.live alive in
    record {
      live = λ u name live.
          there-class u name rows r words
          ∙ (ap (λ (t : Bool). t && not (makes_class u name c))
          (tells.live u name (sym (live-class u rows r words) ∙ live))
          ∙ sym (one_more committed before c u name));
      later = λ u name lt.
          no_class committed before c u name
          (ap (λ (t : Bool). t && bytes_eq (class_name_in words) name)
          (below_differs r.loader u (omega (arith, past, lt))))
          ∙ tells.later u name (omega (arith, lt));
    }
tells_next sizes n committed before rows (entry.Unload e) moved kept keeps has tells =
    names-left n committed before rows (e.loader ∷ []) (record {
      entry = entry.Unload e;
      moved = moved;
    }) (λ u name. refl) tells
tells_next sizes n committed before rows (entry.UnloadAll e) moved kept keeps has tells =
    names-left n committed before rows e.loaders (record {
      entry = entry.UnloadAll e;
      moved = moved;
    }) (λ u name. refl) tells
tells_next sizes n committed before rows (entry.Move e) records kept keeps has tells =
    let c : Carried = record { entry = entry.Move e; moved = records } in
    record {
      live = λ u name live.
          there-moved u e.from e.to name rows
          ∙ (tells.live u name (sym (live-moved u e.from e.to rows) ∙ live)
          ∙ sym (no_class committed before c u name refl));
      later = λ u name lt.
          no_class committed before c u name refl ∙ tells.later u name (omega (arith, lt));
    }

-- ---- one entry

fits_filled : (e : Entry (List ℕ)) → FitsEntry (bare_entry e) → FitsEntry e
fits_filled (entry.Live (Loader r)) fits = fits
fits_filled (entry.Live (Class r words)) fits = fits
fits_filled (entry.Unload e) fits = fits
fits_filled (entry.Move e) fits = fits
fits_filled (entry.UnloadAll e) fits = fits

apart-bare : {P Q : Type 0} (committed : List (Row P)) (e : Entry Q)
    → writes_apart committed (bare_entry e) ≡ writes_apart committed e
apart-bare committed (entry.Live (Loader r)) = refl
apart-bare committed (entry.Live (Class r p)) = refl
apart-bare committed (entry.Unload e) = refl
apart-bare committed (entry.Move e) = refl
apart-bare committed (entry.UnloadAll e) = refl

class_is_new : (sizes : Sizes) (n : ℕ) (committed : List (Row (List ℕ))) (before : List Carried)
    (rows : List (Row (List ℕ))) (e : Entry (List ℕ)) (moved : List (List ℕ))
    → broken_rule sizes (bare rows) (n + 1) (bare_entry e) ≡ None → HasRecords rows e moved
    → TellsNames committed before rows n → is_new committed before e ≡ true
    → IsNewClass words_show rows (filled (record { entry = e; moved = moved }))
class_is_new sizes n committed before rows (entry.Live (Loader r)) moved keeps has tells new = tt
class_is_new sizes n committed before rows (entry.Live (Class r words)) moved keeps has tells new =
    let name = class_name_in words in
    let rules = rule_both
    (is_live r.loader (bare rows) && has_room sizes (bare rows) (Class r (tt {0})))
    (class_fits sizes (bare rows) r) keeps in
    let alive = (and_parts (is_live r.loader (bare rows))
    (has_room sizes (bare rows) (Class r (tt {0})))
    rules.0).0 in (
      none_is (class_among words_show r.loader name rows)
          (tells.live r.loader name (sym (live_bare r.loader rows) ∙ alive) ∙ new),
      has.0,
    )
class_is_new sizes n committed before rows (entry.Unload e) moved keeps has tells new = tt
class_is_new sizes n committed before rows (entry.Move e) moved keeps has tells new = tt
class_is_new sizes n committed before rows (entry.UnloadAll e) moved keeps has tells new = tt

new_class_is : (sizes : Sizes) (n : ℕ) (committed : List (Row (List ℕ))) (before : List Carried)
    (rows : List (Row (List ℕ))) (e : Entry (List ℕ)) (moved : List (List ℕ))
    → broken_rule sizes (bare rows) (n + 1) (bare_entry e) ≡ None
    → TellsNames committed before rows n
    → IsNewClass words_show rows (filled (record { entry = e; moved = moved }))
    → is_new committed before e ≡ true
new_class_is sizes n committed before rows (entry.Live (Loader r)) moved keeps tells new = refl
new_class_is sizes n committed before rows (entry.Live (Class r words)) moved keeps tells new =
    let name = class_name_in words in
    let rules = rule_both
    (is_live r.loader (bare rows) && has_room sizes (bare rows) (Class r (tt {0})))
    (class_fits sizes (bare rows) r) keeps in
    let alive = (and_parts (is_live r.loader (bare rows))
    (has_room sizes (bare rows) (Class r (tt {0})))
    rules.0).0 in
    sym (tells.live r.loader name (sym (live_bare r.loader rows) ∙ alive)) ∙ ap is_none new.0
new_class_is sizes n committed before rows (entry.Unload e) moved keeps tells new = refl
new_class_is sizes n committed before rows (entry.Move e) moved keeps tells new = refl
new_class_is sizes n committed before rows (entry.UnloadAll e) moved keeps tells new = refl

joins_one : (sizes : Sizes) (n : ℕ) (committed : List (Row (List ℕ))) (before : List Carried)
    (rows : List (Row (List ℕ))) (c : Carried) → IsGeometry sizes → n < 2 ^ 63
    → AreKept sizes n rows → TellsNames committed before rows n → TellsRecords committed before rows
    → broken_rule sizes (bare rows) (n + 1) (bare_entry c.entry) ≡ None → carries_own c ≡ true
    → MovesThem committed before c.entry c.moved → writes_apart committed (bare_entry c.entry) ≡
    true → is_new committed before c.entry ≡ true
    → MayJoin sizes committed rows n c
joins_one sizes n committed before rows c g small kept tells told keeps own moves apart new =
    let has = has_one rows c.entry c.moved own
    (moves-right sizes n committed before rows c.entry c.moved keeps told moves) in
    record {
      follows = record {
        fits = fits_filled c.entry
            (fits_one sizes n (bare rows) c.entry c.moved g small kept.live keeps own);
        keeps = sym (rule-bare sizes rows (n + 1) c.entry) ∙ keeps;
        new = class_is_new sizes n committed before rows c.entry c.moved keeps has tells new;
      };
      records = has;
      apart = sym (apart-bare committed c.entry) ∙ apart;
    }

-- ---- all of them

pub joins_all : (sizes : Sizes) (n : ℕ) (committed : List (Row (List ℕ))) (before : List Carried)
    (rows : List (Row (List ℕ))) (carried : List Carried) → IsGeometry sizes
    → n + length carried ≤ 2 ^ 63 → AreKept sizes n rows → TellsNames committed before rows n
    → TellsRecords committed before rows → AllMoveThem committed before carried
    → keep_rules sizes (bare rows) (n + 1) (entries_in carried) ≡ true
    → list_all carries_own carried ≡ true → entries_are_apart committed carried ≡ true
    → are_new committed before carried ≡ true → MayJoinAll sizes committed rows n carried
joins_all sizes n committed before rows [] g le kept tells told moves keep own apart new = tt
joins_all sizes n committed before rows (c ∷ carried) g le kept tells told moves keep own apart
    new =
    let rule = broken_rule sizes (bare rows) (n + 1) (bare_entry c.entry) in
    let keeps = and_parts (is_none rule)
    (keep_rules sizes (rows_after (bare rows) (bare_entry c.entry)) (n + 1 + 1)
    (entries_in carried)) keep in
    let owns = and_parts (carries_own c) (list_all carries_own carried) own in
    let aparts = and_parts (writes_apart committed (bare_entry c.entry))
    (entries_are_apart committed carried) apart in
    let news = and_parts (is_new committed before c.entry)
    (are_new committed (before ++ c ∷ []) carried) new in
    let none = none_is rule keeps.0 in
    let joins = joins_one sizes n committed before rows c g (omega (arith, le)) kept tells told none
    owns.0 moves.0 aparts.0 news.0 in (
      joins,
      joins_all sizes (n + 1) committed (before ++ c ∷ []) (rows_after rows (filled c)) carried g
          (omega (arith, le))
          (kept-after sizes committed rows n c kept joins)
          (tells_next sizes n committed before rows c.entry c.moved kept none joins.records tells)
          (records_next sizes n committed before rows c.entry c.moved kept none joins.records told)
          moves.1
          (subst (λ (l : List BareRow). keep_rules sizes l (n + 1 + 1) (entries_in carried) ≡ true)
          (sym (after-filled rows c)) keeps.1)
          owns.1
          aparts.1
          news.1,
    )

pub all_apart : (sizes : Sizes) (committed rows : List (Row (List ℕ))) (n : ℕ)
    (carried : List Carried) → MayJoinAll sizes committed rows n carried
    → entries_are_apart committed carried ≡ true
all_apart sizes committed rows n [] joins = refl
all_apart sizes committed rows n (c ∷ carried) joins =
    and_from (writes_apart committed (bare_entry c.entry)) (entries_are_apart committed carried)
    (apart-bare committed c.entry ∙ joins.0.apart)
    (all_apart sizes committed (rows_after rows (filled c)) (n + 1) carried joins.1)

pub all_new : (sizes : Sizes) (n : ℕ) (committed : List (Row (List ℕ))) (before : List Carried)
    (rows : List (Row (List ℕ))) (carried : List Carried) → AreKept sizes n rows
    → TellsNames committed before rows n → MayJoinAll sizes committed rows n carried
    → are_new committed before carried ≡ true
all_new sizes n committed before rows [] kept tells joins = refl
all_new sizes n committed before rows (c ∷ carried) kept tells joins =
    let none = rule-filled sizes rows (n + 1) c joins.0.follows.keeps in
    and_from (is_new committed before c.entry)
    (are_new committed (before ++ c ∷ []) carried)
    (new_class_is sizes n committed before rows c.entry c.moved none tells joins.0.follows.new)
    (all_new sizes (n + 1) committed (before ++ c ∷ []) (rows_after rows (filled c)) carried
    (kept-after sizes committed rows n c kept joins.0)
    (tells_next sizes n committed before rows c.entry c.moved kept none joins.0.records tells)
    joins.1)

-- ---- as one test

pub cache_kept : (sizes : Sizes) (n : ℕ) (rows : List (Row (List ℕ)))
    → AreCacheRows words_show sizes n rows → AreKept sizes n rows
cache_kept sizes n rows cache = record {
  live = cache.live;
  apart = subst AreApart (sym (classes-bare rows)) cache.apart;
}

pub joins_where : (sizes : Sizes) (n : ℕ) (rows : List (Row (List ℕ))) (carried : List Carried)
    → IsGeometry sizes → n + length carried ≤ 2 ^ 63 → AreCacheRows words_show sizes n rows
    → may_join sizes rows n carried ≡ true → AllMoveThem rows [] carried
    → MayJoinAll sizes rows rows n carried
joins_where sizes n rows carried g le cache may moves =
    let kept = cache_kept sizes n rows cache in
    let own = list_all carries_own carried in
    let keep = keep_rules sizes (bare rows) (n + 1) (entries_in carried) in
    let apart = entries_are_apart rows carried in
    let new = are_new rows [] carried in
    let one = and_parts own (keep && (apart && new)) may in
    let two = and_parts keep (apart && new) one.1 in
    let three = and_parts apart new two.1 in
    joins_all sizes n rows [] rows carried g le kept (tells_first sizes n rows kept)
    (records_first rows) moves two.0 one.0 three.0 three.1

pub may_where : (sizes : Sizes) (n : ℕ) (rows : List (Row (List ℕ))) (carried : List Carried)
    → AreCacheRows words_show sizes n rows → MayJoinAll sizes rows rows n carried
    → may_join sizes rows n carried ≡ true
may_where sizes n rows carried cache joins =
    let kept = cache_kept sizes n rows cache in
    let own = list_all carries_own carried in
    let keep = keep_rules sizes (bare rows) (n + 1) (entries_in carried) in
    let apart = entries_are_apart rows carried in
    let new = are_new rows [] carried in
    and_from own (keep && (apart && new)) (own_all sizes rows rows n carried joins)
    (and_from keep (apart && new) (rules_kept sizes rows rows n carried joins)
    (and_from apart new (all_apart sizes rows rows n carried joins)
    (all_new sizes n rows [] rows carried kept (tells_first sizes n rows kept) joins)))

all_move : (sizes : Sizes) (n : ℕ) (committed : List (Row (List ℕ))) (before : List Carried)
    (rows : List (Row (List ℕ))) (carried : List Carried) → AreKept sizes n rows
    → TellsRecords committed before rows → MayJoinAll sizes committed rows n carried
    → AllMoveThem committed before carried
all_move sizes n committed before rows [] kept told joins = tt
all_move sizes n committed before rows (c ∷ carried) kept told joins =
    let none = rule-filled sizes rows (n + 1) c joins.0.follows.keeps in (
      moves-them sizes n committed before rows c.entry c.moved none told joins.0.records,
      all_move sizes (n + 1) committed (before ++ c ∷ []) (rows_after rows (filled c)) carried
          (kept-after sizes committed rows n c kept joins.0)
          (records_next sizes n committed before rows c.entry c.moved kept none joins.0.records
          told)
          joins.1,
    )

pub moves_where : (sizes : Sizes) (n : ℕ) (rows : List (Row (List ℕ))) (carried : List Carried)
    → AreCacheRows words_show sizes n rows → MayJoinAll sizes rows rows n carried
    → AllMoveThem rows [] carried
moves_where sizes n rows carried cache joins =
    all_move sizes n rows [] rows carried (cache_kept sizes n rows cache) (records_first rows) joins
