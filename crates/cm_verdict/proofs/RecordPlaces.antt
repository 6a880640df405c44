-- Where the record of a live row lies.
-- For `SecondPass::range_at`, `SecondPass::take_class`, `SecondPass::prepare`.
use Rattle.std.proofs.Common.{◌≡◌, ℕ, ◌+◌, ◌*◌, ◌^◌, ◌<◌, ◌≤◌, Bool, true, false, cond, List}
use Rattle.std.proofs.Common.{length, Option, Some, None, Err, refl, sym, ap, ◌∙◌, arith, is_some}
use Rattle.std.proofs.Math.Nat.{pow-le-pow_right}
use Rattle.std.specs.Prelude.{◌&&◌, ◌%◌, ◌==◌, nat_le, nat_lt}
use Rattle.std.proofs.lemmas.Bool.{le-leb, lt-leb, leb-true, ltb-true, and_parts}
use Rattle.cm_class.specs.declared.class_file.ClassFile.{ClassFile}
use Rattle.cm_class.specs.Names.{class_name_of}
use Rattle.cm_record_layout.specs.Layout.{lay, limit, IsRecordOf}
use Rattle.cm_record.specs.Names.{class_name_in}
use Rattle.cm_rules.specs.Keeps.{KeepsRules}
use Rattle.cm_pool.specs.Chunks.{chunk_size}
use Rattle.cm_pool.specs.Geometry.{Sizes, IsGeometry}
use Rattle.cm_pool.specs.declared.place.Place.{Place}
use Rattle.cm_layout.specs.declared.class_row.ClassRow.{ClassRow}
use Rattle.cm_layout.specs.declared.row.Row.TheVariants.{Class}
use Rattle.cm_layout.specs.Offsets.{root_at, record_at}
use Rattle.cm_layout.specs.Rules.{broken_live_rule}
use Rattle.cm_layout.specs.Frames.{BareRow}
use Rattle.cm_layout.proofs.{class_keeps}
use Rattle.cm_verdict.specs.declared.fault.Damage.TheVariants as damage
use Rattle.cm_verdict.specs.declared.fault.FileFault.TheVariants.{Damaged}
use Rattle.cm_verdict.specs.Faults.{at_slot}
use Rattle.cm_verdict.specs.Verdict.{class_kept, words_at}
use Rattle.cm_verdict.specs.Kept.{IsKeptRecord}
use Rattle.cm_verdict.proofs.KeptRecords.{is_kept}
use Rattle.cm_verdict.specs.Standing.{IsPlace, ReportsOk, if_class, class_in_place, IsRecorded}
use Rattle.cm_verdict.specs.Standing.{IsKeptClass}

-- the place of a row that keeps the rules
pub place_of : (sizes : Sizes) → IsGeometry sizes → (number : ℕ) (taken : List BareRow)
    (r : ClassRow) → broken_live_rule sizes number taken (Class r (tt {0})) ≡ None
    → IsPlace sizes r.place
place_of sizes g number taken r keeps =
    let k = class_keeps sizes taken r keeps in
    let c = r.place.chunk in
    let order = nat_le c.order sizes.top in
    let root = nat_lt c.root sizes.roots in
    let aligned = (c.at % chunk_size c.order) == 0 in
    let fits = nat_le (c.at + chunk_size c.order) (chunk_size sizes.top) in
    let all = and_parts (order && root && aligned) fits k.chunk in
    let front = and_parts order root (and_parts (order && root) aligned all.0).0 in
    record {
      lawful = g;
      order = leb-true c.order sizes.top front.0;
      root = ltb-true c.root sizes.roots front.1;
      chunk = leb-true (c.at + chunk_size c.order) (chunk_size sizes.top) all.1;
      words = leb-true (r.place.offset + r.place.words) (chunk_size c.order) k.within;
    }

-- in a whole root the record lies in the file
pub in_file : (sizes : Sizes) (place : Place) (long : ℕ) → IsPlace sizes place
    → root_at sizes (place.chunk.root + 1) ≤ long → record_at sizes place + 8 * place.words ≤ long
in_file sizes place long is whole = omega (arith, is.words, is.chunk, whole)

-- no record is longer than the limit
pub short_enough : (sizes : Sizes) (place : Place) → IsPlace sizes place → place.words ≤ limit
short_enough sizes place is =
    let size : 2 ^ sizes.top ≤ 2 ^ 12 = pow-le-pow_right {n = 2} (omega arith) is.lawful.top_to in
    omega (arith, size, is.chunk, is.words)

-- ---- the class at a place

pub not_whole : (sizes : Sizes) (contents : List ℕ) (place : Place) (slot : ℕ)
    → length contents < root_at sizes (place.chunk.root + 1)
    → at_slot slot (class_in_place sizes contents place) ≡ Err (Damaged damage.Chunks slot)
not_whole sizes contents place slot past =
    rw (lt-leb (root_at sizes (place.chunk.root + 1)) (length contents) past) refl

module _ (sizes : Sizes) (contents : List ℕ) (place : Place) (slot : ℕ) (words : List ℕ)
    (whole : root_at sizes (place.chunk.root + 1) ≤ length contents)
    (words_are : words ≡ words_at sizes contents place) where
  by_words : class_in_place sizes contents place ≡ if_class (class_kept words)
  by_words =
      ap (λ (t : Bool). cond t (if_class (class_kept (words_at sizes contents place)))
      (Err damage.Chunks))
      (le-leb (root_at sizes (place.chunk.root + 1)) (length contents) whole)
      ∙ ap (λ (l : List ℕ). if_class (class_kept l)) (sym words_are)

  pub no_record_there : class_kept words ≡ None
      → at_slot slot (class_in_place sizes contents place) ≡ Err (Damaged damage.Record slot)
  no_record_there none =
      ap (at_slot slot) (by_words ∙ ap if_class none)

  pub class_there : (made : List ℕ) (k : IsKeptClass words (Some made))
      → ReportsOk IsRecorded (at_slot slot (class_in_place sizes contents place)) made
  class_there made k = record {
    told = k.0;
    verdict_is = ap (at_slot slot) (by_words ∙ ap if_class k.1);
    alike = k.2;
  }

-- ---- a record that was read

-- what was made of the words is the record of a class that keeps the rules
pub record IsRead (words made : List ℕ) : Type 0 where
  pub class : ClassFile
  pub there : class_kept words ≡ Some class
  pub keeps : KeepsRules class
  pub laid : made ≡ lay class
  pub same : made ≡ words

pub is_read : (words made : List ℕ) (o : Option (List ℕ)) → o ≡ Some made → IsKeptRecord words o
    → IsRead words made
is_read words made None e kept = absurd (cc)
is_read words made (Some other) e kept = by_class (class_kept words) refl
  where
    is : other ≡ made
    is = cc

    by_class : (k : Option ClassFile) → class_kept words ≡ k → IsRead words made
    by_class None there =
        let none : is_some (class_kept words) ≡ false = ap is_some there in
        let some : is_some (class_kept words) ≡ true = kept.1 in
        absurd (cc)
    by_class (Some c) there =
        let k = is_kept words c there in
        let same : made ≡ words = sym is ∙ kept.0 in
        record {
          class = c;
          there = there;
          keeps = k.keeps;
          laid = same ∙ k.laid;
          same = same;
        }

pub made_so : (words read made : List ℕ) → IsRead words read → made ≡ read → length words ≤ limit
    → ((c : ClassFile) (l : List ℕ) → IsRecordOf c l → class_name_in l ≡ class_name_of c)
    → IsKeptClass words (Some made)
made_so words read made r is short tells = (
  r.class,
  r.there,
  record {
    laid = is ∙ r.laid;
    named = ap class_name_in is ∙ tells r.class read (record {
      spelled = r.keeps.spelled;
      laid = r.laid;
      short = let long = ap length r.same in omega (arith, long, short);
    });
  },
)
