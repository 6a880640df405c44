-- What taking a group does to what a committer keeps.
-- For `Committer::advance`, `may_join` and others.
use Rattle.std.proofs.Common.{◌≡◌, ℕ, ◌+◌, ◌*◌, ◌^◌, ◌≤◌, inl, inr, true, List}
use Rattle.std.proofs.Common.{[], ◌∷◌, ◌++◌, length, None, is_none, refl, ap, subst, arith}
use Rattle.std.proofs.Common.{◌∙◌, length-append}
use Rattle.std.specs.Prelude.{nat_lt, nat_le, ◌==◌}
use Rattle.std.specs.List.{AllByRecursion, list_all}
use Rattle.std.proofs.lemmas.Bool.{eq-eqb, lt-ltb, le-leb, and_from}
use Rattle.std.proofs.Math.Pow.{pow_mono}
use Rattle.cm_pool.specs.Chunks.{chunk_size}
use Rattle.cm_pool.specs.Geometry.{Sizes, IsGeometry}
use Rattle.cm_pool.specs.declared.place.Place.{Place}
use Rattle.cm_pool.specs.Lists.{Among}
use Rattle.cm_layout.specs.declared.row.Row.{Row}
use Rattle.cm_layout.specs.declared.row.Row.TheVariants.{Loader, Class}
use Rattle.cm_layout.specs.declared.entry.Entry.{Entry}
use Rattle.cm_layout.specs.declared.entry.Entry.TheVariants as entry
use Rattle.cm_layout.specs.Names.{unload_limit}
use Rattle.cm_layout.specs.Slots.{FitsEntry}
use Rattle.cm_layout.specs.Offsets.{root_size}
use Rattle.cm_layout.specs.declared.move_entry.Move.{Move}
use Rattle.cm_layout.specs.Rows.{bare, numbers_in, rows_after}
use Rattle.cm_layout.specs.Rows.{moved}
use Rattle.cm_layout.specs.Rows.{used_words, kept_on}
use Rattle.cm_layout.specs.Rules.{broken_rule}
use Rattle.cm_layout.specs.Frames.{BareRow, LiveRowsKeep, bare_entry}
use Rattle.cm_layout.proofs.{entry-apart, entry-live, live-append, own_loaders, slots-bare}
use Rattle.cm_layout.proofs.{rows-within, each-append, each-without, each-without-all, each-moved}
use Rattle.cm_rows.specs.Rows.{is_above}
use Rattle.cm_state.specs.State.{words_show}
use Rattle.cm_state.specs.Entries.{AreCacheRows}
use Rattle.cm_state.proofs.{entries_step}
use Rattle.cm_group.specs.Groups.{Carried, Handed, IsGroup, CarriesRight, IsRightRecord, AreRight}
use Rattle.cm_group.specs.Groups.{entries_in}
use Rattle.cm_group.specs.Groups.{records_of}
use Rattle.cm_group.proofs.{enough}
use Rattle.cm_commit.specs.Committed.{Committed, journal_of}
use Rattle.cm_commit.specs.Offers.{filled, HasRecords, are_some, has_own, MayJoinAll, IsNext}
use Rattle.cm_commit.specs.Offers.{carries_own, rows_after_group}
use Rattle.cm_commit.specs.Guarding.{IsCommitted}
use Rattle.cm_commit.specs.Keeping.{keep_rules}
use Rattle.cm_commit.specs.Keeps.{AreCounted}
use Rattle.cm_commit.specs.GroupPlans.{writes_of, all_writes}
use Rattle.cm_commit.specs.Steps.{AreSmall, HaveOffsets, FitsJournal}
use Rattle.cm_commit.proofs.Apart.{roots-few}
use Rattle.cm_commit.proofs.Counted.{words_in, kept-words, kept-few, counted-after}
use Rattle.cm_commit.proofs.MovedRecords.{MoveKeeps, move-keeps, move-small, move-offsets}
use Rattle.cm_commit.proofs.MovedRecords.{put-inside}
use Rattle.cm_commit.proofs.NextRecords.{move-count}
use Rattle.cm_commit.proofs.Records.{class_inside}
use Rattle.cm_commit.proofs.Rights.{rule-filled, after-filled, entries_keep, AreKept, kept-after}
use Rattle.cm_commit.proofs.Rights.{are_kept}
use Rattle.cm_commit.proofs.NewHalves.{live_few}
use Rattle.cm_commit.proofs.Slots.{entries_count}

-- ---- the records that entries carry

none_carried : (moved : List (List ℕ)) → moved ≡ [] → (length moved == 0) ≡ true
none_carried moved is = eq-eqb (length moved) 0 (ap length is)

own_entry : (rows : List (Row (List ℕ))) (e : Entry (List ℕ)) (moved : List (List ℕ))
    → FitsEntry e → HasRecords rows e moved → has_own e moved ≡ true
own_entry rows (entry.Live (Loader r)) moved fits has = none_carried moved has.1
own_entry rows (entry.Live (Class r words)) moved fits has =
    and_from (length moved == 0) (length words == r.place.words) (none_carried moved has.1)
    (eq-eqb (length words) r.place.words has.0)
own_entry rows (entry.Unload e) moved fits has = none_carried moved has.1
own_entry rows (entry.Move e) moved fits has = refl
own_entry rows (entry.UnloadAll e) moved fits has =
    and_from (length moved == 0) (are_some e.loaders) (none_carried moved has.1)
    (and_from (nat_le 1 (length e.loaders)) (nat_le (length e.loaders) unload_limit)
    (le-leb 1 (length e.loaders) fits.some) (le-leb (length e.loaders) unload_limit fits.few))

pub own_all : (sizes : Sizes) (committed rows : List (Row (List ℕ))) (n : ℕ)
    (carried : List Carried) → MayJoinAll sizes committed rows n carried
    → list_all carries_own carried ≡ true
own_all sizes committed rows n [] joins = refl
own_all sizes committed rows n (c ∷ carried) joins =
    and_from (carries_own c) (list_all carries_own carried)
    (own_entry rows c.entry c.moved joins.0.follows.fits joins.0.records)
    (own_all sizes committed (rows_after rows (filled c)) (n + 1) carried joins.1)

small-append : (size : ℕ) (xs ys : List (Place × List ℕ)) → AreSmall size xs → AreSmall size ys
    → AreSmall size (xs ++ ys)
small-append size [] ys hx hy = hy
small-append size (x ∷ xs) ys hx hy = (hx.0, small-append size xs ys hx.1 hy)

offsets-append : (xs ys : List (Place × List ℕ)) → HaveOffsets xs → HaveOffsets ys
    → HaveOffsets (xs ++ ys)
offsets-append [] ys hx hy = hy
offsets-append (x ∷ xs) ys hx hy = (hx.0, offsets-append xs ys hx.1 hy)

-- the words that a move writes fit its new chunk, and that a root
move_within : (sizes : Sizes) (rows : List (Row (List ℕ))) (e : Move) (moved : List (List ℕ))
    → AreCounted rows → MoveKeeps sizes rows e → moved ≡ kept_on e.from rows
    → words_in moved ≤ chunk_size sizes.top
move_within sizes rows e moved counted k is =
    let words : words_in moved ≡ used_words e.from rows =
    ap words_in is ∙ kept-words e.from rows counted in
    let whole = (put-inside sizes e.to 0 [] k.chunk (omega arith)).chunk in
    omega (arith, words, k.enough, whole)

-- what one entry writes
pub record WritesFit (sizes : Sizes) (writes : List (Place × List ℕ)) : Type 0 where
  pub small : AreSmall (root_size sizes) writes
  pub offsets : HaveOffsets writes
  pub few : length writes ≤ 32768

fit_one : (sizes : Sizes) (rows : List (Row (List ℕ))) (n : ℕ) (e : Entry (List ℕ))
    (moved : List (List ℕ)) → IsGeometry sizes → AreKept sizes n rows → AreCounted rows
    → broken_rule sizes (bare rows) (n + 1) (bare_entry e) ≡ None
    → HasRecords rows e moved → WritesFit sizes (writes_of e moved)
fit_one sizes rows n (entry.Live (Loader r)) moved g kept counted keeps has =
    record { small = tt; offsets = tt; few = omega arith }
fit_one sizes rows n (entry.Live (Class r words)) moved g kept counted keeps has =
    let is = (class_inside sizes rows n r keeps).0 in
    let top : 2 ^ sizes.top ≤ 2 ^ 12 = pow_mono g.top_to in
    record {
      small = (omega (arith, has.0, is.words, is.chunk), tt);
      offsets = (omega (arith, is.words, is.chunk, top), tt);
      few = omega arith;
    }
fit_one sizes rows n (entry.Unload e) moved g kept counted keeps has =
    record { small = tt; offsets = tt; few = omega arith }
fit_one sizes rows n (entry.UnloadAll e) moved g kept counted keeps has =
    record { small = tt; offsets = tt; few = omega arith }
fit_one sizes rows n (entry.Move e) moved g kept counted keeps has =
    let within = move_within sizes rows e moved counted (move-keeps sizes rows (n + 1) e keeps)
    has.1 in
    let top : 2 ^ sizes.top ≤ 2 ^ 12 = pow_mono g.top_to in
    let some = live_few sizes n (bare rows) kept.live in
    record {
      small = move-small sizes e.to 0 moved (omega (arith, within));
      offsets = move-offsets e.to 0 moved (omega (arith, within, top));
      few = omega (
        arith,
        move-count e.to 0 moved,
        ap length has.1,
        kept-few e.from rows,
        slots-bare rows,
        rows-within rows,
        some,
        g.slots_to,
      );
    }

pub fit_all : (sizes : Sizes) (committed rows : List (Row (List ℕ))) (n : ℕ)
    (carried : List Carried) → IsGeometry sizes → AreKept sizes n rows → AreCounted rows
    → MayJoinAll sizes committed rows n carried
    → AreSmall (root_size sizes) (all_writes carried) × HaveOffsets (all_writes carried)
    × (length (all_writes carried) ≤ length carried * 32768)
fit_all sizes committed rows n [] g kept counted joins = (tt, tt, omega arith)
fit_all sizes committed rows n (c ∷ carried) g kept counted joins =
    let writes = writes_of c.entry c.moved in
    let one = fit_one sizes rows n c.entry c.moved g kept counted
    (rule-filled sizes rows (n + 1) c joins.0.follows.keeps) joins.0.records in
    let rest = fit_all sizes committed (rows_after rows (filled c)) (n + 1) carried g
    (kept-after sizes committed rows n c kept joins.0)
    (counted-after rows c.entry counted joins.0.records.0) joins.1 in (
      small-append (root_size sizes) writes (all_writes carried) one.small rest.0,
      offsets-append writes (all_writes carried) one.offsets rest.1,
      omega (arith, length-append writes (all_writes carried), one.few, rest.2),
    )

pub fits_journal : (c : Committed) (group : Handed) → IsCommitted c → IsGroup group
    → AreCounted c.rows → IsNext c group → FitsJournal (journal_of c) group
fits_journal c group right is counted next =
    let fit = fit_all c.sizes c.rows c.rows c.number group.entries right.lawful (are_kept c right)
    counted next.entries in
    record {
      lawful = right.lawful;
      small = fit.0;
      few = omega (arith, fit.2, enough group.entries, is.few);
      offsets = fit.1;
      roots = roots-few c c.number c.rows group.entries next.entries;
      number = omega (arith, is.some, next.ends);
      room = next.room;
      size = entries_count c.sizes (bare c.rows) c.number (entries_in group.entries)
          (entries_keep c.sizes c.rows c.rows c.number group.entries next.entries);
    }

-- ---- the rows after the group

pub rules_kept : (sizes : Sizes) (committed rows : List (Row (List ℕ))) (n : ℕ)
    (carried : List Carried) → MayJoinAll sizes committed rows n carried
    → keep_rules sizes (bare rows) (n + 1) (entries_in carried) ≡ true
rules_kept sizes committed rows n [] joins = refl
rules_kept sizes committed rows n (c ∷ carried) joins =
    and_from (is_none (broken_rule sizes (bare rows) (n + 1) (bare_entry c.entry)))
    (keep_rules sizes (rows_after (bare rows) (bare_entry c.entry)) (n + 1 + 1)
    (entries_in carried))
    (ap is_none (rule-filled sizes rows (n + 1) c joins.0.follows.keeps))
    (subst (λ (l : List BareRow). keep_rules sizes l (n + 1 + 1) (entries_in carried) ≡ true)
    (after-filled rows c)
    (rules_kept sizes committed (rows_after rows (filled c)) (n + 1) carried joins.1))

all_below : (n : ℕ) (numbers : List ℕ) → ((u : ℕ) → Among u numbers → u ≤ n)
    → list_all (λ u. nat_lt u (n + 1)) numbers ≡ true
all_below n [] past = refl
all_below n (u ∷ numbers) past =
    let le : u ≤ n = past u (inl refl) in
    and_from (nat_lt u (n + 1)) (list_all (λ v. nat_lt v (n + 1)) numbers)
    (lt-ltb u (n + 1) (omega (arith, le))) (all_below n numbers (λ v m. past v (inr m)))

pub next_above : (sizes : Sizes) (n : ℕ) (rows : List BareRow) → LiveRowsKeep sizes n [] rows
    → is_above (n + 1) rows ≡ true
next_above sizes n rows live =
    all_below n (numbers_in rows) (own_loaders sizes n rows live).past

pub cache_after : (sizes : Sizes) (committed rows : List (Row (List ℕ))) (n : ℕ)
    (carried : List Carried) → AreCacheRows words_show sizes n rows
    → MayJoinAll sizes committed rows n carried → n + length carried ≤ 2 ^ 63
    → AreCacheRows words_show sizes (n + length carried) (rows_after_group rows carried)
cache_after sizes committed rows n [] cache joins le =
    subst (λ (m : ℕ). AreCacheRows words_show sizes m rows) (omega arith) cache
cache_after sizes committed rows n (c ∷ carried) cache joins le =
    let one = entries_step
    (λ s r m e apart k fits h.
    (entry-apart s r (m + 1) e apart h, entry-live s r m e apart k fits h))
    (λ s m r row k fits h. live-append s m [] r row k fits h) own_loaders words_show sizes n rows
    (filled c) cache joins.0.follows (omega (arith, le)) in
    subst (λ (m : ℕ). AreCacheRows words_show sizes m
    (rows_after_group (rows_after rows (filled c)) carried)) (omega arith)
    (cache_after sizes committed (rows_after rows (filled c)) (n + 1) carried one.rows_are joins.1
    (omega (arith, le)))

right-one : (rows : List (Row (List ℕ))) (e : Entry (List ℕ)) (moved : List (List ℕ))
    → AreRight rows → AllByRecursion IsRightRecord (records_of e moved)
    → AreRight (rows_after rows e)
right-one rows (entry.Live (Loader r)) moved right all =
    each-append IsRightRecord rows (Loader r ∷ []) right tt
right-one rows (entry.Live (Class r words)) moved right all =
    each-append IsRightRecord rows (Class r words ∷ []) right (all.0, tt)
right-one rows (entry.Unload e) moved right all =
    each-without IsRightRecord e.loader rows right
right-one rows (entry.UnloadAll e) moved right all =
    each-without-all IsRightRecord e.loaders rows right
right-one rows (entry.Move e) moved right all = each-moved IsRightRecord e.from e.to rows right

pub right_rows_after : (sizes : Sizes) (committed rows : List (Row (List ℕ))) (n : ℕ)
    (carried : List Carried) → AreRight rows → AllByRecursion CarriesRight carried
    → MayJoinAll sizes committed rows n carried → AreRight (rows_after_group rows carried)
right_rows_after sizes committed rows n [] right all joins = right
right_rows_after sizes committed rows n (c ∷ carried) right all joins =
    right_rows_after sizes committed (rows_after rows (filled c)) (n + 1) carried
    (right-one rows c.entry c.moved right all.0) all.1 joins.1
