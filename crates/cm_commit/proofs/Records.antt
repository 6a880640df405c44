-- A record that is written: it is then in its place, and leaves the records of rows that it is
-- apart from.
-- For `Committer::advance`, `Committer::images`, `Committer::offer` and others.
use Rattle.std.proofs.Common.{◌≡◌, ℕ, ◌+◌, ◌*◌, ◌≤◌, Bool, true, false}
use Rattle.std.proofs.Common.{List, ◌++◌, length, drop, refl, sym, ap, subst, ◌∙◌, arith}
use Rattle.std.specs.Prelude.{None}
use Rattle.std.proofs.Math.Nat.{mul-le-mul_right}
use Rattle.std.proofs.lemmas.List.{map-append}
use Rattle.cm_words.proofs.{length-word_bytes}
use Rattle.cm_record_layout.specs.Packing.{packed_into, word_bytes}
use Rattle.cm_disk.specs.Calls.{overwritten}
use Rattle.cm_disk.specs.Disk.{is_among}
use Rattle.cm_pool.specs.Geometry.{Sizes}
use Rattle.cm_pool.specs.declared.place.Place.{Place}
use Rattle.cm_pool.specs.Lists.{Among}
use Rattle.cm_layout.specs.declared.class_row.ClassRow.{ClassRow}
use Rattle.cm_layout.specs.declared.row.Row.{Row}
use Rattle.cm_layout.specs.declared.row.Row.TheVariants.{Class}
use Rattle.cm_layout.specs.declared.entry.Entry.TheVariants as entry
use Rattle.cm_layout.specs.Offsets.{roots_at, root_at, root_size, record_at}
use Rattle.cm_layout.specs.Rows.{bare}
use Rattle.cm_layout.specs.Rules.{broken_rule}
use Rattle.cm_layout.specs.Frames.{HoldsRecord}
use Rattle.cm_layout.specs.Framing.{part}
use Rattle.cm_layout.proofs.{class_keeps, classes-bare}
use Rattle.cm_guards.proofs.{overwritten_size}
use Rattle.cm_commit.specs.GroupPlans.{place_write, record_writes}
use Rattle.cm_commit.proofs.Ranges.{among-from, among-to}
use Rattle.cm_commit.proofs.Places.{IsInside, IsFree, are_stacked, inside}
use Rattle.cm_commit.proofs.Places.{share_word, free_apart, place-free, ends_in_root}
use Rattle.cm_commit.proofs.Writing.{part-written, byte-kept}
use Rattle.cm_commit.proofs.Held.{HoldRows, hold-same, holds-record}
use Rattle.cm_commit.proofs.Rights.{AreKept}

pub not_true : (t : Bool) → (t ≡ true → ⊥) → t ≡ false
not_true true isnt = absurd (isnt refl)
not_true false isnt = refl

-- a root lies after those before it
pub roots-mono : (sizes : Sizes) (a b : ℕ) → a ≤ b → root_at sizes a ≤ root_at sizes b
roots-mono sizes a b le =
    let times : a * root_size sizes ≤ b * root_size sizes =
    mul-le-mul_right (root_size sizes) le in
    omega (arith, times)

-- ---- one record

-- the class of an entry keeps its rules
pub class_inside : (sizes : Sizes) (rows : List (Row (List ℕ))) (n : ℕ) (r : ClassRow)
    → broken_rule sizes (bare rows) (n + 1) (entry.Live (Class r (tt {0}))) ≡ None
    → IsInside sizes r.place × IsFree (bare rows) r
class_inside sizes rows n r h =
    let k = class_keeps sizes (bare rows) r h in
    (inside sizes r.place k.chunk k.within, place-free (bare rows) r k.place)

-- a record that is written leaves those of rows that it is apart from
pub record-leaves : (sizes : Sizes) (n : ℕ) (rows : List (Row (List ℕ))) (r : ClassRow)
    (words contents : List ℕ) → AreKept sizes n rows → IsInside sizes r.place
    → IsFree (bare rows) r → length words ≡ r.place.words
    → root_at sizes (r.place.chunk.root + 1) ≤ length contents → HoldRows sizes contents rows
    → HoldRows sizes (overwritten (record_at sizes r.place) (word_bytes words) contents) rows
record-leaves sizes n rows r words contents kept is free count long held =
    let stacked = are_stacked sizes n (bare rows) kept.live in
    let at = record_at sizes r.place in
    let bytes = length-word_bytes words in
    let ends = ends_in_root sizes r.place is in
    let starts : at ≤ length contents = omega (arith, ends, long) in
    let size = overwritten_size at (word_bytes words) contents starts in
    hold-same sizes rows contents (overwritten at (word_bytes words) contents)
    (omega (arith, size)) (omega (arith, long))
    (λ s m. stacked.each s (subst (λ (l : List ClassRow). Among s l) (sym (classes-bare rows)) m))
    (λ s m i here.
    let among = subst (λ (l : List ClassRow). Among s l) (sym (classes-bare rows)) m in
    sym (byte-kept at (word_bytes words) contents i starts
    (not_true (is_among at (length (word_bytes words)) i) (λ there.
    let from = among-from at (length (word_bytes words)) i there in
    let to = among-to at (length (word_bytes words)) i there in
    free_apart sizes (bare rows) r s kept.apart stacked is free among
    (share_word sizes r.place s.place is (stacked.each s among) i from
    (omega (arith, to, bytes, count))
    (among-from (record_at sizes s.place) (8 * s.place.words) i here)
    (among-to (record_at sizes s.place) (8 * s.place.words) i here))))))
    held

-- it is then in its place
pub record-stands : (sizes : Sizes) (r : ClassRow) (words contents : List ℕ) → IsInside sizes
    r.place
    → length words ≡ r.place.words → packed_into (length words) (word_bytes words) ≡ words
    → root_at sizes (r.place.chunk.root + 1) ≤ length contents
    → HoldsRecord sizes
    (drop (roots_at sizes) (overwritten (record_at sizes r.place) (word_bytes words) contents)) r
    words
record-stands sizes r words contents is count back long =
    let at = record_at sizes r.place in
    let ends = ends_in_root sizes r.place is in
    let starts : at ≤ length contents = omega (arith, ends, long) in
    let size = overwritten_size at (word_bytes words) contents starts in
    let bytes : length (word_bytes words) ≡ 8 * r.place.words =
    omega (arith, length-word_bytes words, count) in
    holds-record sizes (overwritten at (word_bytes words) contents) r words count
    (omega (arith, size, long))
    (ap (λ (n : ℕ). part at n (overwritten at (word_bytes words) contents)) (sym bytes)
    ∙ part-written at (word_bytes words) contents starts)
    back

-- the writes of two lists of records
pub writes-append : (sizes : Sizes) (xs ys : List (Place × List ℕ))
    → record_writes sizes (xs ++ ys) ≡ record_writes sizes xs ++ record_writes sizes ys
writes-append sizes xs ys =
    map-append (λ (w : Place × List ℕ). place_write sizes w.0 w.1) xs ys
