-- How many whole roots a file has once a group is written.
-- For `Committer::offer`.
use Rattle.std.proofs.Common.{◌≡◌, ℕ, zero, suc, ◌+◌, ◌-◌, ◌*◌, ◌^◌, ◌<◌, ◌≤◌, Bool, true, false}
use Rattle.std.proofs.Common.{List, [], ◌∷◌, ◌++◌, length, None, refl, sym, ap, ◌∙◌, arith}
use Rattle.std.specs.Prelude.{max, nat_lt}
use Rattle.std.proofs.Math.Nat.{le-div_iff_mul-le, lt-div-mul-add}
use Rattle.std.proofs.lemmas.Bool.{ltb-true, ltb-false}
use Rattle.std.proofs.lemmas.Nat.{pow_pos}
use Rattle.cm_words.proofs.{length-word_bytes}
use Rattle.cm_record_layout.specs.Packing.{word_bytes}
use Rattle.cm_pool.specs.declared.chunk.Chunk.{Chunk}
use Rattle.cm_pool.specs.Chunks.{chunk_size}
use Rattle.cm_pool.specs.Geometry.{Sizes}
use Rattle.cm_layout.specs.declared.row.Row.{Row}
use Rattle.cm_layout.specs.declared.row.Row.TheVariants.{Loader, Class}
use Rattle.cm_layout.specs.declared.entry.Entry.{Entry}
use Rattle.cm_layout.specs.declared.entry.Entry.TheVariants as entry
use Rattle.cm_layout.specs.Offsets.{roots_at, root_at, root_size, record_at}
use Rattle.cm_layout.specs.Rows.{bare, rows_after, used_words, move_writes}
use Rattle.cm_layout.specs.Rules.{broken_rule, is_chunk}
use Rattle.cm_layout.specs.Frames.{bare_entry}
use Rattle.cm_layout.proofs.{length-blank}
use Rattle.cm_layout.specs.Zeros.{blank}
use Rattle.cm_guards.specs.Plans.{Write, written, CanWrite}
use Rattle.cm_group.specs.Groups.{Carried, Handed, entries_in}
use Rattle.cm_commit.specs.Committed.{Committed, end_slot}
use Rattle.cm_commit.specs.Guarding.{IsCommitted, guard_of}
use Rattle.cm_commit.specs.Offers.{filled, HasRecords, MayJoinAll, IsNext}
use Rattle.cm_commit.specs.GroupPlans.{root_writes, writes_of, all_writes, record_writes}
use Rattle.cm_commit.specs.GroupPlans.{slots_write}
use Rattle.cm_commit.specs.GroupPlans.{group_writes, whole_roots, roots_to_add, roots_of_entry}
use Rattle.cm_commit.specs.GroupPlans.{roots_of_entries}
use Rattle.cm_commit.specs.Keeps.{AreCounted, roots_then}
use Rattle.cm_commit.proofs.Counted.{words_in, kept-words, counted-after}
use Rattle.cm_commit.proofs.MovedRecords.{move-keeps, put_at, put-inside}
use Rattle.cm_commit.proofs.Ranges.{half_ends}
use Rattle.cm_commit.proofs.Places.{ends_in_root}
use Rattle.cm_commit.proofs.Writing.{size_after, size_after-append, written-size}
use Rattle.cm_commit.proofs.Rights.{rule-filled}
use Rattle.cm_commit.proofs.Records.{class_inside, roots-mono, writes-append}
use Rattle.cm_commit.proofs.Apart.{whole-ends}
use Rattle.cm_commit.proofs.Turning.{slots-end}

-- ---- how long a file is

-- how long it is with zeros for `n` more roots
roots-grow : (sizes : Sizes) (from n len : ℕ) → root_at sizes from ≤ len
    → size_after (root_writes sizes from n) len ≡ max len (root_at sizes (from + n))
roots-grow sizes from zero len starts =
    let same : root_at sizes (from + 0) ≡ root_at sizes from = ap (root_at sizes) (omega arith) in
    omega (arith, same, starts)
roots-grow sizes from (suc n) len starts =
    let size = length-blank (root_size sizes) in
    let longer = max len (root_at sizes from + length (blank (root_size sizes))) in
    let rest = roots-grow sizes (from + 1) n longer (omega (arith, size)) in
    let same : root_at sizes (from + 1 + n) ≡ root_at sizes (from + suc n) =
    ap (root_at sizes) (omega arith) in
    let behind = roots-mono sizes (from + 1) (from + suc n) (omega arith) in
    omega (arith, rest, same, behind, size)

-- records in its whole roots leave its length as it is
move-stays : (sizes : Sizes) (to : Chunk) (offset : ℕ) (records : List (List ℕ)) (len : ℕ)
    → is_chunk sizes to ≡ true → offset + words_in records ≤ chunk_size to.order
    → root_at sizes (to.root + 1) ≤ len
    → size_after (record_writes sizes (move_writes to offset records)) len ≡ len
move-stays sizes to offset [] len lawful fits long = refl
move-stays sizes to offset (words ∷ records) len lawful fits long =
    let bytes = length-word_bytes words in
    let is = put-inside sizes to offset words lawful (omega (arith, fits)) in
    let ends = ends_in_root sizes (put_at to offset words) is in
    let same : max len (record_at sizes (put_at to offset words) + length (word_bytes words))
    ≡ len = omega (arith, bytes, ends, long) in
    ap (size_after (record_writes sizes (move_writes to (offset + length words) records))) same
    ∙ move-stays sizes to (offset + length words) records len lawful (omega (arith, fits)) long

record-stays : (sizes : Sizes) (rows : List (Row (List ℕ))) (n : ℕ) (e : Entry (List ℕ))
    (moved : List (List ℕ)) (len : ℕ)
    → broken_rule sizes (bare rows) (n + 1) (bare_entry e) ≡ None → AreCounted rows
    → HasRecords rows e moved
    → root_at sizes (roots_of_entry (bare_entry e)) ≤ len
    → size_after (record_writes sizes (writes_of e moved)) len ≡ len
record-stays sizes rows n (entry.Live (Loader r)) moved len keeps counted has long = refl
record-stays sizes rows n (entry.Live (Class r words)) moved len keeps counted has long =
    let bytes = length-word_bytes words in
    let ends = ends_in_root sizes r.place (class_inside sizes rows n r keeps).0 in
    omega (arith, bytes, has.0, ends, long)
record-stays sizes rows n (entry.Unload e) moved len keeps counted has long = refl
record-stays sizes rows n (entry.UnloadAll e) moved len keeps counted has long = refl
record-stays sizes rows n (entry.Move e) moved len keeps counted has long =
    let k = move-keeps sizes rows (n + 1) e keeps in
    let words : words_in moved ≡ used_words e.from rows =
    ap words_in has.1 ∙ kept-words e.from rows counted in
    move-stays sizes e.to 0 moved len k.chunk (omega (arith, words, k.enough)) long

records-stay : (sizes : Sizes) (committed rows : List (Row (List ℕ))) (n : ℕ)
    (carried : List Carried) (len : ℕ) → AreCounted rows
    → MayJoinAll sizes committed rows n carried
    → root_at sizes (roots_of_entries (entries_in carried)) ≤ len
    → size_after (record_writes sizes (all_writes carried)) len ≡ len
records-stay sizes committed rows n [] len counted joins long = refl
records-stay sizes committed rows n (c ∷ carried) len counted joins long =
    let es = entries_in carried in
    let own = roots_of_entry (bare_entry c.entry) in
    let all = max own (roots_of_entries es) in
    let here = roots-mono sizes own all (omega arith) in
    let there = roots-mono sizes (roots_of_entries es) all (omega arith) in
    let writes = writes_of c.entry c.moved in
    let behind = record_writes sizes (all_writes carried) in
    ap (λ (l : List Write). size_after l len) (writes-append sizes writes (all_writes carried))
    ∙ (size_after-append (record_writes sizes writes) behind len
    ∙ (ap (size_after behind)
    (record-stays sizes rows n c.entry c.moved len
    (rule-filled sizes rows (n + 1) c joins.0.follows.keeps) counted joins.0.records
    (omega (arith, here, long)))
    ∙ records-stay sizes committed (rows_after rows (filled c)) (n + 1) carried len
    (counted-after rows c.entry counted joins.0.records.0) joins.1
    (omega (arith, there, long))))

-- how long it is with a group
group-size : (c : Committed) (group : Handed) (len : ℕ) → IsCommitted c → AreCounted c.rows
    → IsNext c group → roots_at c.sizes ≤ len
    → size_after (group_writes c len group.entries) len
    ≡ max len (root_at c.sizes (whole_roots c.sizes len
    + roots_to_add c.sizes len (entries_in group.entries)))
group-size c group len right counted next long =
    let es = entries_in group.entries in
    let from = whole_roots c.sizes len in
    let added = roots_to_add c.sizes len es in
    let roots = root_writes c.sizes from added in
    let records = record_writes c.sizes (all_writes group.entries) in
    let slots = slots_write c.sizes c.framing.counting (end_slot c.framing) c.number es in
    let grown = roots-grow c.sizes from added len (whole-ends c.sizes len long) in
    let enough = roots-mono c.sizes (roots_of_entries es) (from + added) (omega arith) in
    let stays = records-stay c.sizes c.rows c.rows c.number group.entries (size_after roots len)
    counted next.entries (omega (arith, grown, enough)) in
    let half = half_ends c.sizes c.framing.counting in
    let last = slots-end c group right next in
    let whole : size_after (roots ++ records ++ slots ∷ []) len
    ≡ max (size_after records (size_after roots len)) (slots.at + length slots.bytes) =
    size_after-append (roots ++ records) (slots ∷ []) len
    ∙ ap (λ (k : ℕ). max k (slots.at + length slots.bytes)) (size_after-append roots records len) in
    whole ∙ omega (arith, stays, grown, half, last, long)

-- ---- how many whole roots it has

pub root_some : (sizes : Sizes) → zero < root_size sizes
root_some sizes =
    let some : 0 < 2 ^ sizes.top = pow_pos sizes.top in
    omega (arith, some)

pub whole-is : (sizes : Sizes) (count len : ℕ) → root_at sizes count ≤ len
    → len < root_at sizes (count + 1) → whole_roots sizes len ≡ count
whole-is sizes count len starts ends = by_test (nat_lt count found) refl
  where
    found : ℕ
    found = whole_roots sizes len

    least : count ≤ found
    least =
        let times : count * root_size sizes ≤ len - roots_at sizes = omega (arith, starts) in
        (le-div_iff_mul-le (root_some sizes)).1 times

    by_test : (t : Bool) → nat_lt count found ≡ t → whole_roots sizes len ≡ count
    by_test true e =
        let more = roots-mono sizes (count + 1) found (omega (arith, ltb-true count found e)) in
        let within = whole-ends sizes len (omega (arith, starts)) in
        absurd (omega (arith, more, within, ends))
    by_test false e = omega (arith, ltb-false count found e, least)

whole-before : (sizes : Sizes) (len : ℕ) → roots_at sizes ≤ len
    → len < root_at sizes (whole_roots sizes len + 1)
whole-before sizes len long =
    let below : len - roots_at sizes < whole_roots sizes len * root_size sizes + root_size sizes =
    lt-div-mul-add (root_some sizes) in
    omega (arith, below, long)

-- once the group is written
pub roots-written : (c : Committed) (group : Handed) (contents : List ℕ) → IsCommitted c
    → AreCounted c.rows → IsNext c group → roots_at c.sizes ≤ length contents
    → CanWrite (guard_of c) (group_writes c (length contents) group.entries) (length contents)
    → roots_then (whole_roots c.sizes (length contents)) group
    ≡ whole_roots c.sizes (length (written (group_writes c (length contents) group.entries)
    contents))
roots-written c group contents right counted next long can =
    let len = length contents in
    let from = whole_roots c.sizes len in
    let count = from + roots_to_add c.sizes len (entries_in group.entries) in
    let size : length (written (group_writes c len group.entries) contents)
    ≡ max len (root_at c.sizes count) =
    written-size (guard_of c) (group_writes c len group.entries) contents can
    ∙ group-size c group len right counted next long in
    let before = whole-before c.sizes len long in
    let behind = roots-mono c.sizes (from + 1) (count + 1) (omega arith) in
    let some = root_some c.sizes in
    let is : whole_roots c.sizes (max len (root_at c.sizes count)) ≡ count =
    whole-is c.sizes count (max len (root_at c.sizes count)) (omega arith)
    (omega (arith, before, behind, some)) in
    let most : roots_then from group ≡ count = omega arith in
    most ∙ (sym is ∙ ap (whole_roots c.sizes) (sym size))
