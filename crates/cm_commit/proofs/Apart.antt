-- A group's writes touch nothing that is guarded, and a disk takes them one after another.
-- For `Committer::advance`, `Committer::images`, `Committer::offer` and others.
use Rattle.std.proofs.Common.{◌≡◌, ℕ, zero, suc, ◌+◌, ◌-◌, ◌*◌, ◌^◌, ◌<◌, ◌≤◌, ◌⊎◌, inl, inr, Bool}
use Rattle.std.proofs.Common.{true, false}
use Rattle.std.proofs.Common.{cond, List, [], ◌∷◌, length, None, refl, sym, ap, subst, ◌∙◌, arith}
use Rattle.std.specs.Prelude.{◌&&◌, ◌||◌, nat_le, nat_lt, max}
use Rattle.std.proofs.Math.Nat.{mul-le-mul, div-mul-le_self, le-div_iff_mul-le}
use Rattle.std.proofs.lemmas.Nat.{pow_pos}
use Rattle.std.proofs.Math.Pow.{pow_mono}
use Rattle.std.proofs.lemmas.Bool.{leb-true, and_parts, or_cases}
use Rattle.cm_words.proofs.{length-word_bytes}
use Rattle.cm_record_layout.specs.Packing.{word_bytes}
use Rattle.cm_disk.specs.Disk.{is_among}
use Rattle.cm_pool.specs.Geometry.{Sizes, IsGeometry}
use Rattle.cm_pool.specs.declared.chunk.Chunk.{Chunk}
use Rattle.cm_pool.specs.Chunks.{chunk_size}
use Rattle.cm_pool.specs.Lists.{Among}
use Rattle.cm_layout.specs.declared.class_row.ClassRow.{ClassRow}
use Rattle.cm_layout.specs.declared.row.Row.{Row}
use Rattle.cm_layout.specs.declared.row.Row.TheVariants.{Loader, Class}
use Rattle.cm_layout.specs.declared.entry.Entry.{Entry}
use Rattle.cm_layout.specs.declared.entry.Entry.TheVariants as entry
use Rattle.cm_layout.specs.Offsets.{half_size, half_at, roots_at, root_at, root_size, record_at}
use Rattle.cm_layout.specs.Rows.{classes_in, bare, rows_after, used_words, move_writes}
use Rattle.cm_layout.specs.Rules.{broken_rule, is_chunk, is_unused, is_last_chunk}
use Rattle.cm_layout.specs.Frames.{bare_entry}
use Rattle.cm_layout.specs.Framing.{Framing, IsRightFraming, guards, needs, used_size, other_half}
use Rattle.cm_layout.specs.Framing.{older_size, record_ranges}
use Rattle.cm_layout.proofs.{length-blank, classes-bare}
use Rattle.cm_layout.specs.Zeros.{blank}
use Rattle.cm_guards.specs.Guards.{IsApart}
use Rattle.cm_guards.specs.Plans.{Write, WriteFits, CanWrite}
use Rattle.cm_group.specs.Groups.{Carried, entries_in}
use Rattle.cm_commit.specs.Committed.{Committed}
use Rattle.cm_commit.specs.Guarding.{is_in_any, guard_of}
use Rattle.cm_commit.specs.Offers.{filled, HasOwn, HasRecords, MayJoin, MayJoinAll}
use Rattle.cm_commit.specs.Offers.{writes_apart}
use Rattle.cm_commit.specs.GroupPlans.{writes_of, all_writes, record_writes, roots_of_entry}
use Rattle.cm_commit.specs.GroupPlans.{roots_of_entries, place_write}
use Rattle.cm_commit.specs.GroupPlans.{root_writes, whole_roots}
use Rattle.cm_commit.proofs.Ranges.{among-from, among-to, half_ends, half_begins, halves_apart}
use Rattle.cm_commit.proofs.Places.{IsInside, IsFree, share_word, free_apart}
use Rattle.cm_commit.proofs.Places.{ends_in_root}
use Rattle.cm_commit.proofs.Guards.{rows_stacked, rows_inside, older_ends, end_size}
use Rattle.cm_commit.proofs.Writing.{size_after, can-append, size_after-grows}
use Rattle.cm_commit.proofs.Rights.{rule-filled, are_kept}
use Rattle.cm_commit.specs.Keeps.{AreCounted}
use Rattle.cm_commit.proofs.Counted.{words_in, kept-words, counted-after}
use Rattle.cm_commit.proofs.MovedRecords.{move-keeps, put_at, row_at, put-inside}
use Rattle.cm_commit.proofs.Records.{class_inside, roots-mono, writes-append}

pub not_true : (t : Bool) → (t ≡ true → ⊥) → t ≡ false
not_true true isnt = absurd (isnt refl)
not_true false isnt = refl

-- ---- what is guarded, in two parts

-- the record of a row
pub record InRecord (sizes : Sizes) (rows : List (Row (List ℕ))) (i : ℕ) : Type 0 where
  pub row : ClassRow
  pub among : Among row (classes_in rows)
  pub from : record_at sizes row.place ≤ i
  pub to : i < record_at sizes row.place + 8 * row.place.words

in_record : (sizes : Sizes) (rows : List (Row (List ℕ))) (i : ℕ)
    → is_in_any (record_ranges sizes rows) i ≡ true → InRecord sizes rows i
in_record sizes [] i h = absurd (cc)
in_record sizes (Loader r ∷ rows) i h =
    let found = in_record sizes rows i h in
    record { row = found.row; among = found.among; from = found.from; to = found.to }
in_record sizes (Class r words ∷ rows) i h =
    let at = record_at sizes r.place in
    let n = 8 * r.place.words in
    elim (or_cases (is_among at n i) (is_in_any (record_ranges sizes rows) i) h) [
      | inl here ↦ record {
        row = r;
        among = inl refl;
        from = among-from at n i here;
        to = among-to at n i here;
      }
      | inr there ↦
          let found = in_record sizes rows i there in
          record { row = found.row; among = inr found.among; from = found.from; to = found.to }
    ]

-- in the superblock and the halves: before the gate of the next group, or at it, or in the other
-- half
pub record InHalves (sizes : Sizes) (f : Framing) (i : ℕ) : Type 0 where
  pub below : i < roots_at sizes
  pub apart : (at n : ℕ) → half_at sizes f.counting + used_size f < at
      → at + n ≤ half_at sizes f.counting + half_size sizes → at ≤ i → i < at + n → ⊥

pub guarded_where : (sizes : Sizes) (f : Framing) (rows : List (Row (List ℕ))) (number i : ℕ)
    → IsRightFraming sizes f rows number → is_in_any (guards sizes f rows) i ≡ true
    → InHalves sizes f i ⊎ InRecord sizes rows i
guarded_where sizes f rows number i right h =
    let here = half_at sizes f.counting in
    let there = half_at sizes (other_half f.counting) in
    let used = used_size f in
    let one : ℕ = cond (nat_lt used (half_size sizes)) 1 0 in
    let older = older_size f.older in
    let ends = half_ends sizes f.counting in
    let begins = half_begins sizes f.counting in
    let other_ends = half_ends sizes (other_half f.counting) in
    let small = older_ends f.older in
    let at_end = end_size used (half_size sizes) right.fits in
    let records = record_ranges sizes rows in
    elim (or_cases (is_among 0 4096 i) (is_among here used i || (is_among (here + used) one i
    || (is_among there older i || is_in_any records i))) h) [
      | inl front ↦
          let to = among-to 0 4096 i front in
          inl (record {
            below = omega (arith, to);
            apart = λ at n from upto at_i to_i. omega (arith, begins, to, from, at_i);
          })
      | inr h1 ↦ elim (or_cases (is_among here used i) (is_among (here + used) one i
          || (is_among there older i || is_in_any records i)) h1) [
            | inl half ↦
                let to = among-to here used i half in
                inl (record {
                  below = omega (arith, to, ends, right.fits);
                  apart = λ at n from upto at_i to_i. omega (arith, to, from, at_i);
                })
            | inr h2 ↦ elim (or_cases (is_among (here + used) one i) (is_among there older i
                || is_in_any records i) h2) [
                  | inl end ↦
                      let to = among-to (here + used) one i end in
                      inl (record {
                        below = omega (arith, to, at_end, ends);
                        apart = λ at n from upto at_i to_i. omega
                            (arith, to, one_byte (nat_lt used (half_size sizes)), from, at_i);
                      })
                  | inr h3 ↦ elim (or_cases (is_among there older i) (is_in_any records i) h3) [
                    | inl other ↦
                        let from_other = among-from there older i other in
                        let to_other = among-to there older i other in
                        inl (record {
                          below = omega (
                            arith,
                            to_other,
                            small,
                            other_ends,
                            right.lawful.slots_from,
                          );
                          apart = λ at n from upto at_i to_i. elim (halves_apart sizes f.counting) [
                            | inl before ↦ omega (arith, before, from_other, upto, to_i)
                            | inr behind ↦ omega (
                              arith,
                              behind,
                              to_other,
                              small,
                              right.lawful.slots_from,
                              from,
                              at_i,
                            )
                          ];
                        })
                    | inr found ↦ inr (in_record sizes rows i found)
                  ]
                ]
          ]
    ]
  where
    one_byte : (t : Bool) → cond t 1 0 ≤ 1
    one_byte true = omega arith
    one_byte false = omega arith

-- ---- limits

-- the last root ends within the limit of a disk
pub roots_limit : (sizes : Sizes) → IsGeometry sizes → root_at sizes sizes.roots ≤ 2 ^ 40
roots_limit sizes g =
    let power : 2 ^ sizes.top ≤ 2 ^ 12 = pow_mono g.top_to in
    let root : root_size sizes ≤ 4194304 = omega (arith, power) in
    let all : sizes.roots * root_size sizes ≤ 256 * 4194304 = mul-le-mul g.roots_to root in
    omega (arith, all, g.slots_to)

root_some : (sizes : Sizes) → 0 < root_size sizes
root_some sizes =
    let some : 0 < 2 ^ sizes.top = pow_pos sizes.top in
    omega (arith, some)

-- ---- records

-- apart from what is committed
committed_free : (c : Committed) (r : ClassRow)
    → writes_apart c.rows (entry.Live (Class r (tt {0}))) ≡ true → IsFree (bare c.rows) r
committed_free c r h =
    let unused = is_unused r.place.chunk (bare c.rows) in
    let last = is_last_chunk r.loader r.place.chunk (bare c.rows) in
    let behind = nat_le (used_words r.place.chunk (bare c.rows)) r.place.offset in
    let same : (unused || (last && behind)) ≡ true = rw (classes-bare c.rows) h in
    elim (or_cases unused (last && behind) same) [
      | inl free ↦ inl free
      | inr on_last ↦
          let parts = and_parts last behind on_last in
          inr (parts.0, leb-true (used_words r.place.chunk (bare c.rows)) r.place.offset parts.1)
    ]

record-apart : (c : Committed) (r : ClassRow) (n : ℕ)
    → IsRightFraming c.sizes c.framing c.rows c.number
    → IsInside c.sizes r.place → IsFree (bare c.rows) r → n ≡ 8 * r.place.words
    → IsApart (guard_of c) (record_at c.sizes r.place) n
record-apart c r n right is free count = record {
  apart = λ i guarded.
      not_true (is_among (record_at c.sizes r.place) n i) (λ there.
      let from = among-from (record_at c.sizes r.place) n i there in
      let to = among-to (record_at c.sizes r.place) n i there in
      elim (guarded_where c.sizes c.framing c.rows c.number i right guarded) [
        | inl halves ↦ omega (arith, halves.below, from)
        | inr found ↦
            let stacked = rows_stacked c.sizes c.framing c.rows c.number right in
            let kept = are_kept c right in
            let m = subst (λ (l : List ClassRow). Among found.row l) (sym (classes-bare c.rows))
            found.among in
            free_apart c.sizes (bare c.rows) r found.row kept.apart stacked is free m
            (share_word c.sizes r.place found.row.place is (stacked.each found.row m) i from
            (omega (arith, to, count)) found.from found.to)
      ]);
}

can-place : (c : Committed) (r : ClassRow) (words : List ℕ) (len : ℕ)
    → IsRightFraming c.sizes c.framing c.rows c.number → IsInside c.sizes r.place
    → IsFree (bare c.rows) r → length words ≡ r.place.words
    → root_at c.sizes (r.place.chunk.root + 1) ≤ len
    → WriteFits (guard_of c) (place_write c.sizes r.place words) len
can-place c r words len right is free has roots =
    let bytes : length (word_bytes words) ≡ 8 * r.place.words =
    omega (arith, length-word_bytes words, has) in
    let ends = ends_in_root c.sizes r.place is in
    let last = roots-mono c.sizes (r.place.chunk.root + 1) c.sizes.roots (omega (arith, is.root)) in
    let limit = roots_limit c.sizes right.lawful in
    record {
      starts_within = omega (arith, ends, roots);
      within_limit = omega (arith, ends, last, limit, bytes);
      apart = record-apart c r (length (word_bytes words)) right is free bytes;
    }

-- the records of a move, after this offset of a chunk that no committed row uses
can-move : (c : Committed) (to : Chunk) (offset : ℕ) (records : List (List ℕ)) (len : ℕ)
    → IsRightFraming c.sizes c.framing c.rows c.number → is_chunk c.sizes to ≡ true
    → is_unused to (bare c.rows) ≡ true → offset + words_in records ≤ chunk_size to.order
    → root_at c.sizes (to.root + 1) ≤ len
    → CanWrite (guard_of c) (record_writes c.sizes (move_writes to offset records)) len
can-move c to offset [] len right lawful free fits roots = tt
can-move c to offset (words ∷ records) len right lawful free fits roots =
    let is = put-inside c.sizes to offset words lawful (omega (arith, fits)) in (
      can-place c (row_at to offset words) words len right is (inl free) refl roots,
      can-move c to (offset + length words) records
          (max len (record_at c.sizes (put_at to offset words) + length (word_bytes words))) right
          lawful free (omega (arith, fits)) (omega (arith, roots)),
    )

can-record : (c : Committed) (n : ℕ) (rows : List (Row (List ℕ))) (k : Carried) (len : ℕ)
    → IsRightFraming c.sizes c.framing c.rows c.number → AreCounted rows
    → MayJoin c.sizes c.rows rows n k
    → root_at c.sizes (roots_of_entry (bare_entry k.entry)) ≤ len
    → CanWrite (guard_of c) (record_writes c.sizes (writes_of k.entry k.moved)) len
can-record c n rows k len right counted joins long =
    by_entry k.entry k.moved (rule-filled c.sizes rows (n + 1) k joins.follows.keeps)
    joins.records
    joins.apart long
  where
    by_entry : (e : Entry (List ℕ)) (moved : List (List ℕ))
        → broken_rule c.sizes (bare rows) (n + 1) (bare_entry e) ≡ None → HasRecords rows e moved
        → writes_apart c.rows e ≡ true → root_at c.sizes (roots_of_entry (bare_entry e)) ≤ len
        → CanWrite (guard_of c) (record_writes c.sizes (writes_of e moved)) len
    by_entry (entry.Live (Loader r)) moved keeps has apart roots = tt
    by_entry (entry.Live (Class r words)) moved keeps has apart roots = (
      can-place c r words len right (class_inside c.sizes rows n r keeps).0
          (committed_free c r apart) has.0 roots,
      tt,
    )
    by_entry (entry.Unload e) moved keeps has apart roots = tt
    by_entry (entry.UnloadAll e) moved keeps has apart roots = tt
    by_entry (entry.Move e) moved keeps has apart roots =
        let k = move-keeps c.sizes rows (n + 1) e keeps in
        let words : words_in moved ≡ used_words e.from rows =
        ap words_in has.1 ∙ kept-words e.from rows counted in
        can-move c e.to 0 moved len right k.chunk (rw (classes-bare c.rows) apart)
        (omega (arith, words, k.enough)) roots

pub can-records : (c : Committed) (n : ℕ) (rows : List (Row (List ℕ))) (carried : List Carried)
    (len : ℕ) → IsRightFraming c.sizes c.framing c.rows c.number → AreCounted rows
    → MayJoinAll c.sizes c.rows rows n carried
    → root_at c.sizes (roots_of_entries (entries_in carried)) ≤ len
    → CanWrite (guard_of c) (record_writes c.sizes (all_writes carried)) len
can-records c n rows [] len right counted joins long = tt
can-records c n rows (k ∷ carried) len right counted joins long =
    let es = entries_in carried in
    let own = roots_of_entry (bare_entry k.entry) in
    let all = max own (roots_of_entries es) in
    let here = roots-mono c.sizes own all (omega arith) in
    let there = roots-mono c.sizes (roots_of_entries es) all (omega arith) in
    let writes = record_writes c.sizes (writes_of k.entry k.moved) in
    subst (λ (l : List Write). CanWrite (guard_of c) l len)
    (sym (writes-append c.sizes (writes_of k.entry k.moved) (all_writes carried)))
    (can-append (guard_of c) writes (record_writes c.sizes (all_writes carried)) len
    (can-record c n rows k len right counted joins.0 (omega (arith, here, long)))
    (can-records c (n + 1) (rows_after rows (filled k)) carried (size_after writes len) right
    (counted-after rows k.entry counted joins.0.records.0) joins.1
    (omega (arith, there, long, size_after-grows writes len))))

-- ---- roots

-- records in whole roots end before the first that is added
pub whole-from : (sizes : Sizes) (root len : ℕ) → root_at sizes (root + 1) ≤ len
    → root + 1 ≤ whole_roots sizes len
whole-from sizes root len le =
    let times : (root + 1) * root_size sizes ≤ len - roots_at sizes = omega (arith, le) in
    (le-div_iff_mul-le (root_some sizes)).1 times

pub whole-ends : (sizes : Sizes) (len : ℕ) → roots_at sizes ≤ len
    → root_at sizes (whole_roots sizes len) ≤ len
whole-ends sizes len le =
    let times = div-mul-le_self (len - roots_at sizes) (root_size sizes) in
    omega (arith, times, le)

needs-among : (sizes : Sizes) (rows : List (Row (List ℕ))) (r : ClassRow)
    → Among r (classes_in rows) → root_at sizes (r.place.chunk.root + 1) ≤ needs sizes rows
needs-among sizes [] r m = absurd m
needs-among sizes (Loader s ∷ rows) r m = needs-among sizes rows r m
needs-among sizes (Class s words ∷ rows) r (inl e) =
    let same : r.place.chunk.root ≡ s.place.chunk.root = ap (λ (d : ClassRow). d.place.chunk.root)
    e in
    subst (λ (root : ℕ). root_at sizes (root + 1) ≤ needs sizes (Class s words ∷ rows)) (sym same)
    (omega arith)
needs-among sizes (Class s words ∷ rows) r (inr m) = omega (arith, needs-among sizes rows r m)

root-apart : (c : Committed) (root n len : ℕ) → IsRightFraming c.sizes c.framing c.rows c.number
    → needs c.sizes c.rows ≤ len → whole_roots c.sizes len ≤ root
    → IsApart (guard_of c) (root_at c.sizes root) n
root-apart c root n len right long behind = record {
  apart = λ i guarded.
      not_true (is_among (root_at c.sizes root) n i) (λ there.
      let from = among-from (root_at c.sizes root) n i there in
      elim (guarded_where c.sizes c.framing c.rows c.number i right guarded) [
        | inl halves ↦ omega (arith, halves.below, from)
        | inr found ↦
            let is = rows_inside c.sizes c.framing c.rows c.number right found.row found.among in
            let ends = ends_in_root c.sizes found.row.place is in
            let needed = needs-among c.sizes c.rows found.row found.among in
            let whole = whole-from c.sizes found.row.place.chunk.root len
            (omega (arith, needed, long)) in
            let before = roots-mono c.sizes (found.row.place.chunk.root + 1) root
            (omega (arith, whole, behind)) in
            omega (arith, ends, before, from, found.to)
      ]);
}

-- roots of zeros, one after another
pub can-roots : (c : Committed) (from n old len : ℕ)
    → IsRightFraming c.sizes c.framing c.rows c.number
    → needs c.sizes c.rows ≤ old → whole_roots c.sizes old ≤ from → root_at c.sizes from ≤ len
    → (0 < n → from + n ≤ c.sizes.roots) → CanWrite (guard_of c) (root_writes c.sizes from n) len
can-roots c from zero old len right long behind starts few = tt
can-roots c from (suc n) old len right long behind starts few =
    let size = length-blank (root_size c.sizes) in
    let limit = roots_limit c.sizes right.lawful in
    let all : from + suc n ≤ c.sizes.roots = few (omega arith) in
    let last = roots-mono c.sizes (from + 1) c.sizes.roots (omega (arith, all)) in (
      record {
        starts_within = starts;
        within_limit = omega (arith, size, limit, last);
        apart = root-apart c from (length (blank (root_size c.sizes))) old right long behind;
      },
      can-roots c (from + 1) n old (max len
          (root_at c.sizes from + length (blank (root_size c.sizes))))
          right long (omega (arith, behind)) (omega (arith, size)) (λ some. omega (arith, all)),
    )

-- how long the file is after them
pub roots-size : (sizes : Sizes) (from n len : ℕ) → root_at sizes from ≤ len
    → root_at sizes (from + n) ≤ size_after (root_writes sizes from n) len
roots-size sizes from zero len starts =
    subst (λ (k : ℕ). root_at sizes k ≤ len) (omega arith) starts
roots-size sizes from (suc n) len starts =
    let size = length-blank (root_size sizes) in
    let rest = roots-size sizes (from + 1) n
    (max len (root_at sizes from + length (blank (root_size sizes))))
    (omega (arith, size)) in
    subst (λ (k : ℕ). root_at sizes k ≤ size_after (root_writes sizes from (suc n)) len)
    (omega arith) rest

-- no more roots than the region can have
one-few : (c : Committed) (n : ℕ) (rows : List (Row (List ℕ))) (k : Carried)
    → MayJoin c.sizes c.rows rows n k → roots_of_entry (bare_entry k.entry) ≤ c.sizes.roots
one-few c n rows k joins =
    by_entry k.entry (rule-filled c.sizes rows (n + 1) k joins.follows.keeps) joins.records.0
  where
    by_entry : (e : Entry (List ℕ))
        → broken_rule c.sizes (bare rows) (n + 1) (bare_entry e) ≡ None → HasOwn e
        → roots_of_entry (bare_entry e) ≤ c.sizes.roots
    by_entry (entry.Live (Loader r)) keeps has = omega arith
    by_entry (entry.Live (Class r words)) keeps has =
        let is = (class_inside c.sizes rows n r keeps).0 in omega (arith, is.root)
    by_entry (entry.Unload e) keeps has = omega arith
    by_entry (entry.UnloadAll e) keeps has = omega arith
    by_entry (entry.Move e) keeps has =
        let chunk = (move-keeps c.sizes rows (n + 1) e keeps).chunk in
        let is = put-inside c.sizes e.to 0 [] chunk (omega arith) in omega (arith, is.root)

pub roots-few : (c : Committed) (n : ℕ) (rows : List (Row (List ℕ))) (carried : List Carried)
    → MayJoinAll c.sizes c.rows rows n carried
    → roots_of_entries (entries_in carried) ≤ c.sizes.roots
roots-few c n rows [] joins = omega arith
roots-few c n rows (k ∷ carried) joins =
    omega (
      arith,
      one-few c n rows k joins.0,
      roots-few c (n + 1) (rows_after rows (filled k)) carried joins.1,
    )
