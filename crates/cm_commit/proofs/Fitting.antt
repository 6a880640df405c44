-- What holds of entries that keep the rules.
-- For `are_new`, `have_one_name`, `is_absent` and others.
use Rattle.std.proofs.Common.{◌≡◌, ℕ, ◌+◌, ◌^◌, ◌<◌, ◌≤◌, Bool, true, false, cond, List, []}
use Rattle.std.proofs.Common.{◌∷◌, length, Some, None, inl, inr, refl, sym, subst, arith, eqb}
use Rattle.std.specs.Prelude.{◌&&◌, ◌==◌, nat_le, is_some, is_none}
use Rattle.std.specs.List.{list_all, AllByRecursion}
use Rattle.std.proofs.lemmas.Bool.{eqb-true, leb-true, and_parts}
use Rattle.std.proofs.Math.Pow.{pow_mono}
use Rattle.cm_pool.specs.Geometry.{Sizes, IsGeometry}
use Rattle.cm_pool.specs.declared.place.Place.{Place}
use Rattle.cm_pool.specs.Lists.{Among}
use Rattle.cm_layout.specs.declared.class_row.ClassRow.{ClassRow}
use Rattle.cm_layout.specs.declared.entry_rule.EntryRule.TheVariants.{OnRows}
use Rattle.cm_layout.specs.declared.row.Row.{Row}
use Rattle.cm_layout.specs.declared.row.Row.TheVariants.{Loader, Class}
use Rattle.cm_layout.specs.declared.entry.Entry.{Entry}
use Rattle.cm_layout.specs.declared.entry.Entry.TheVariants as entry
use Rattle.cm_layout.specs.Names.{is_loader_name, is_visible, name_limit, unload_limit}
use Rattle.cm_layout.specs.declared.move_entry.Move.{Move}
use Rattle.cm_layout.specs.Slots.{FitsEntry, FitsClass, FitsMove, FitsChunk}
use Rattle.cm_layout.specs.Rows.{name_of, number_of, numbers_in, kept_on}
use Rattle.cm_layout.specs.Rules.{broken_rule, broken_of, is_live, are_live, differ, has_room}
use Rattle.cm_layout.specs.Rules.{class_fits, is_new_loader}
use Rattle.cm_layout.specs.Frames.{BareRow, LiveRowsKeep, bare_entry}
use Rattle.cm_layout.proofs.{own_loaders, class_keeps, is_last_chunk-among}
use Rattle.cm_commit.specs.Offers.{HasRecords, are_some, has_own}
use Rattle.cm_commit.proofs.MovedRecords.{MoveKeeps, keeps-move, put_at, put-inside}
use Rattle.cm_commit.proofs.Places.{IsInside, inside, are_stacked}

-- ---- the records that they carry

-- a move carries those on the chunk that it leaves
abbrev pub MovesRight : List (Row (List ℕ)) → Entry (List ℕ) → List (List ℕ) → Type 0
MovesRight rows (entry.Live row) moved = Unit {0}
MovesRight rows (entry.Unload e) moved = Unit {0}
MovesRight rows (entry.Move e) moved = moved ≡ kept_on e.from rows
MovesRight rows (entry.UnloadAll e) moved = Unit {0}

none_there : (records : List (List ℕ)) → (length records == 0) ≡ true → records ≡ []
none_there [] own = refl
none_there (words ∷ records) own =
    absurd (omega (arith, eqb-true (length (words ∷ records)) 0 own))

-- an entry carries what it needs, if a move carries the right records
pub has_one : (rows : List (Row (List ℕ))) (e : Entry (List ℕ)) (moved : List (List ℕ))
    → has_own e moved ≡ true → MovesRight rows e moved → HasRecords rows e moved
has_one rows (entry.Live (Loader r)) moved own moves = (tt, none_there moved own)
has_one rows (entry.Live (Class r words)) moved own moves =
    let both = and_parts (length moved == 0) (length words == r.place.words) own in
    (eqb-true (length words) r.place.words both.1, none_there moved both.0)
has_one rows (entry.Unload e) moved own moves = (tt, none_there moved own)
has_one rows (entry.Move e) moved own moves = (tt, moves)
has_one rows (entry.UnloadAll e) moved own moves =
    (tt, none_there moved (and_parts (length moved == 0) (are_some e.loaders) own).0)

-- ---- what slots have room for

pub rule_rows : (t : Bool) → cond t None (Some OnRows) ≡ None → t ≡ true
rule_rows true keeps = refl
rule_rows false keeps = absurd (cc)

pub rule_both : (a b : Bool) → broken_of a b ≡ None → (a ≡ true) × (b ≡ true)
rule_both true true keeps = (refl, refl)
rule_both true false keeps = absurd (cc)
rule_both false b keeps = absurd (cc)

pub among_live : {A : Type 0} (u : ℕ) (rows : List (Row A)) → is_live u rows ≡ true
    → Among u (numbers_in rows)
among_live u [] live = absurd (cc)
among_live {A} u (Loader r ∷ rows) live =
    by_test (λ h. among_live u rows h) (eqb r.number u) refl live
  where
    by_test : (is_live u rows ≡ true → Among u (numbers_in rows))
        → (t : Bool) → eqb r.number u ≡ t
        → is_some (cond t (Some r.name) (name_of u rows)) ≡ true
        → Among u (r.number ∷ numbers_in rows)
    by_test rest true t e = inl (sym (eqb-true r.number u t))
    by_test rest false t e = inr (rest e)
among_live u (Class r p ∷ rows) live = among_live u rows live

pub live_past : (sizes : Sizes) (n : ℕ) (rows : List BareRow) (u : ℕ)
    → LiveRowsKeep sizes n [] rows → is_live u rows ≡ true → u ≤ n
live_past sizes n rows u keep live = (own_loaders sizes n rows keep).past u (among_live u rows live)

short_name : (x : List ℕ) → is_loader_name x ≡ true → length x ≤ name_limit
short_name x named =
    let some = nat_le 1 (length x) in
    let short = nat_le (length x) name_limit in
    leb-true (length x) name_limit
    (and_parts some short (and_parts (some && short) (list_all is_visible x) named).0).1

fits_chunk : (sizes : Sizes) (place : Place) → IsGeometry sizes → IsInside sizes place
    → FitsChunk place.chunk
fits_chunk sizes place g is =
    let top : 2 ^ sizes.top ≤ 2 ^ 12 = pow_mono g.top_to in
    let top_to = g.top_to in
    let roots_to = g.roots_to in
    record {
      root = omega (arith, is.root, roots_to);
      order = omega (arith, is.order, top_to);
      at = omega (arith, is.chunk, top);
    }

fits_class : (sizes : Sizes) (r : ClassRow) → IsGeometry sizes → r.loader < 2 ^ 64
    → IsInside sizes r.place → FitsClass r
fits_class sizes r g loader is =
    let top : 2 ^ sizes.top ≤ 2 ^ 12 = pow_mono g.top_to in
    record {
      words = omega (arith, is.words, is.chunk, top);
      loader = loader;
      chunk = fits_chunk sizes r.place g is;
      offset = omega (arith, is.words, is.chunk, top);
    }

fits_move : (sizes : Sizes) (n : ℕ) (rows : List BareRow) (e : Move) → IsGeometry sizes
    → n < 2 ^ 63 → LiveRowsKeep sizes n [] rows → MoveKeeps sizes rows e → FitsMove e
fits_move sizes n rows e g small keep k =
    let s = is_last_chunk-among e.loader e.from rows k.last in
    let own = (own_loaders sizes n rows keep).owned s.0 s.1 in
    let past = live_past sizes n rows s.0.loader keep own in
    record {
      loader = omega (arith, past, small, s.2);
      from = subst FitsChunk s.3
          (fits_chunk sizes s.0.place g ((are_stacked sizes n rows keep).each s.0 s.1));
      to = fits_chunk sizes (put_at e.to 0 []) g
          (put-inside sizes e.to 0 [] k.chunk (omega arith));
    }

all_fit : (sizes : Sizes) (n : ℕ) (rows : List BareRow) (us : List ℕ) → n < 2 ^ 63
    → LiveRowsKeep sizes n [] rows → are_live us rows ≡ true → AllByRecursion (λ u. u < 2 ^ 64) us
all_fit sizes n rows [] small keep live = tt
all_fit sizes n rows (u ∷ us) small keep live =
    let parts = and_parts (is_live u rows) (are_live us rows) live in
    let past = live_past sizes n rows u keep parts.0 in
    (omega (arith, past, small), all_fit sizes n rows us small keep parts.1)

pub fits_one : (sizes : Sizes) (n : ℕ) (rows : List BareRow) (e : Entry (List ℕ))
    (moved : List (List ℕ))
    → IsGeometry sizes → n < 2 ^ 63 → LiveRowsKeep sizes n [] rows
    → broken_rule sizes rows (n + 1) (bare_entry e) ≡ None → has_own e moved ≡ true
    → FitsEntry (bare_entry e)
fits_one sizes n rows (entry.Live (Loader r)) moved g small keep keeps own =
    let new = is_new_loader sizes rows r in
    let parts = and_parts (r.number == n + 1) new (rule_rows ((r.number == n + 1) && new) keeps) in
    let named = is_loader_name r.name in
    let other = is_none (number_of r.name rows) in
    let name = and_parts named other (and_parts (named && other) (has_room sizes rows (Loader r))
    parts.1).0 in
    record {
      number = omega (arith, eqb-true r.number (n + 1) parts.0, small);
      name = short_name r.name name.0;
    }
fits_one sizes n rows (entry.Live (Class r words)) moved g small keep keeps own =
    let live = is_live r.loader rows in
    let room = has_room sizes rows (Class r (tt {0})) in
    let rules = rule_both (live && room) (class_fits sizes rows r) keeps in
    let past = live_past sizes n rows r.loader keep (and_parts live room rules.0).0 in
    let k = class_keeps sizes rows r keeps in
    fits_class sizes r g (omega (arith, past, small)) (inside sizes r.place k.chunk k.within)
fits_one sizes n rows (entry.Unload e) moved g small keep keeps own =
    let past = live_past sizes n rows e.loader keep (rule_rows (is_live e.loader rows) keeps) in
    record { loader = omega (arith, past, small) }
fits_one sizes n rows (entry.Move e) moved g small keep keeps own =
    fits_move sizes n rows e g small keep (keeps-move sizes rows e keeps)
fits_one sizes n rows (entry.UnloadAll e) moved g small keep keeps own =
    let differing = differ e.loaders in
    let live = are_live e.loaders rows in
    let alive = (and_parts differing live (rule_rows (differing && live) keeps)).1 in
    let some = nat_le 1 (length e.loaders) in
    let few = nat_le (length e.loaders) unload_limit in
    let count = and_parts some few (and_parts (length moved == 0) (some && few) own).1 in
    record {
      some = leb-true 1 (length e.loaders) count.0;
      few = leb-true (length e.loaders) unload_limit count.1;
      loaders = all_fit sizes n rows e.loaders small keep alive;
    }
