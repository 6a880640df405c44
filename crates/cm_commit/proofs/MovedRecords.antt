-- What a move writes: each record inside the new chunk, after the one before it, and apart from all
-- that rows use.
-- For `Committer::advance`, `Committer::images`, `Committer::offer` and others.
use Rattle.std.proofs.Common.{◌≡◌, ℕ, ◌+◌, ◌-◌, ◌*◌, ◌^◌, ◌<◌, ◌≤◌, inl, inr, Bool, true, false}
use Rattle.std.proofs.Common.{cond}
use Rattle.std.proofs.Common.{List, [], ◌∷◌, length, drop, None, Some, refl, sym, ap, subst, ◌∙◌}
use Rattle.std.proofs.Common.{arith}
use Rattle.std.specs.Prelude.{◌&&◌, nat_le}
use Rattle.std.specs.List.{AllByRecursion}
use Rattle.std.proofs.lemmas.Bool.{leb-true, le-leb, and_parts}
use Rattle.cm_words.proofs.{length-word_bytes}
use Rattle.cm_record_layout.specs.Packing.{word_bytes}
use Rattle.cm_disk.specs.Calls.{overwritten}
use Rattle.cm_disk.specs.Disk.{is_among}
use Rattle.cm_pool.specs.Chunks.{chunk_size}
use Rattle.cm_pool.specs.Geometry.{Sizes}
use Rattle.cm_pool.specs.declared.chunk.Chunk.{Chunk}
use Rattle.cm_pool.specs.declared.place.Place.{Place}
use Rattle.cm_pool.specs.Lists.{Among}
use Rattle.cm_layout.specs.declared.class_row.ClassRow.{ClassRow}
use Rattle.cm_layout.specs.declared.move_entry.Move.{Move}
use Rattle.cm_layout.specs.declared.entry_rule.EntryRule.TheVariants.{OnChunks}
use Rattle.cm_layout.specs.declared.row.Row.{Row}
use Rattle.cm_layout.specs.declared.row.Row.TheVariants.{Class}
use Rattle.cm_layout.specs.declared.entry.Entry.TheVariants as entry
use Rattle.cm_layout.specs.Offsets.{roots_at, root_at, root_size, record_at}
use Rattle.cm_layout.specs.Rows.{bare, used_words, kept_on, moved, move_writes}
use Rattle.cm_layout.specs.Rules.{broken_rule, move_fits, is_last_chunk, is_chunk, is_unused}
use Rattle.cm_layout.specs.Laws.{StandsAt}
use Rattle.cm_layout.proofs.{classes-bare, rule-bare, moves-stand}
use Rattle.cm_guards.specs.Plans.{written}
use Rattle.cm_guards.proofs.{overwritten_size}
use Rattle.cm_commit.specs.GroupPlans.{record_writes}
use Rattle.cm_commit.specs.Keeps.{AreCounted}
use Rattle.cm_commit.specs.Laws.{AreTold}
use Rattle.cm_commit.specs.Steps.{AreSmall, HaveOffsets}
use Rattle.cm_commit.proofs.Counted.{words_in, kept-words}
use Rattle.cm_commit.proofs.Held.{HoldRows, hold-same}
use Rattle.cm_commit.proofs.Places.{IsInside, inside, share_word, ends_in_root}
use Rattle.cm_commit.proofs.Ranges.{among-from, among-to}
use Rattle.cm_commit.proofs.Records.{record-leaves, record-stands, not_true}
use Rattle.cm_commit.proofs.Rights.{AreKept}
use Rattle.cm_commit.proofs.Writing.{byte-kept}

-- ---- a move that keeps the rules

pub record MoveKeeps {P : Type 0} (sizes : Sizes) (rows : List (Row P)) (e : Move) : Type 0 where
  pub last : is_last_chunk e.loader e.from rows ≡ true
  pub chunk : is_chunk sizes e.to ≡ true
  pub unused : is_unused e.to rows ≡ true
  pub enough : used_words e.from rows ≤ chunk_size e.to.order

rule_kept : (t : Bool) → cond t None (Some OnChunks) ≡ None → t ≡ true
rule_kept true keeps = refl
rule_kept false keeps = absurd (cc)

pub keeps-move : {P : Type 0} (sizes : Sizes) (rows : List (Row P)) (e : Move)
    → cond (move_fits sizes rows e) None (Some OnChunks) ≡ None → MoveKeeps sizes rows e
keeps-move sizes rows e keeps =
    let fits = rule_kept (move_fits sizes rows e) keeps in
    let last = is_last_chunk e.loader e.from rows in
    let chunk = is_chunk sizes e.to in
    let unused = is_unused e.to rows in
    let enough = nat_le (used_words e.from rows) (chunk_size e.to.order) in
    let one = and_parts (last && chunk && unused) enough fits in
    let two = and_parts (last && chunk) unused one.0 in
    let three = and_parts last chunk two.0 in
    record {
      last = three.0;
      chunk = three.1;
      unused = two.1;
      enough = leb-true (used_words e.from rows) (chunk_size e.to.order) one.1;
    }

pub move-keeps : (sizes : Sizes) (rows : List (Row (List ℕ))) (n : ℕ) (e : Move)
    → broken_rule sizes (bare rows) n (entry.Move e) ≡ None → MoveKeeps sizes rows e
move-keeps sizes rows n e keeps =
    keeps-move sizes rows e (sym (rule-bare sizes rows n (entry.Move e)) ∙ keeps)

-- ---- one of its writes

-- where a record is written
abbrev pub put_at : Chunk → ℕ → List ℕ → Place
put_at to offset words = record { chunk = to; offset = offset; words = length words }

abbrev pub row_at : Chunk → ℕ → List ℕ → ClassRow
row_at to offset words = record { loader = 0; place = put_at to offset words }

pub put-inside : (sizes : Sizes) (to : Chunk) (offset : ℕ) (words : List ℕ)
    → is_chunk sizes to ≡ true → offset + length words ≤ chunk_size to.order
    → IsInside sizes (put_at to offset words)
put-inside sizes to offset words chunk fits =
    inside sizes (put_at to offset words) chunk
    (le-leb (offset + length words) (chunk_size to.order) fits)

-- ---- how large they are

pub move-small : (sizes : Sizes) (to : Chunk) (offset : ℕ) (records : List (List ℕ))
    → offset + words_in records ≤ chunk_size sizes.top
    → AreSmall (root_size sizes) (move_writes to offset records)
move-small sizes to offset [] fits = tt
move-small sizes to offset (words ∷ records) fits = (
  omega (arith, fits),
  move-small sizes to (offset + length words) records (omega (arith, fits)),
)

pub move-offsets : (to : Chunk) (offset : ℕ) (records : List (List ℕ))
    → offset + words_in records < 2 ^ 32 - 1 → HaveOffsets (move_writes to offset records)
move-offsets to offset [] fits = tt
move-offsets to offset (words ∷ records) fits = (
  omega (arith, fits),
  move-offsets to (offset + length words) records (omega (arith, fits)),
)

-- ---- the contents after them

module _ (sizes : Sizes) (to : Chunk) (lawful : is_chunk sizes to ≡ true) where
  abbrev Stands : List ℕ → ℕ → List ℕ → Type 0
  Stands contents offset words =
      StandsAt sizes (drop (roots_at sizes) contents) (put_at to offset words) words

  abbrev end : ℕ
  end = root_at sizes (to.root + 1)

  -- a record written after another leaves that one unchanged
  behind-leaves : (offset : ℕ) (words : List ℕ) (at : ℕ) (other contents : List ℕ)
      → offset + length words ≤ at → at + length other ≤ chunk_size to.order
      → end ≤ length contents → Stands contents offset words
      → Stands (overwritten (record_at sizes (put_at to at other)) (word_bytes other) contents)
      offset words
  behind-leaves offset words at other contents behind fits long stands =
      let r = row_at to at other in
      let s = row_at to offset words in
      let in_r = put-inside sizes to at other lawful fits in
      let in_s = put-inside sizes to offset words lawful (omega (arith, behind, fits)) in
      let from = record_at sizes r.place in
      let bytes = length-word_bytes other in
      let ends = ends_in_root sizes r.place in_r in
      let starts : from ≤ length contents = omega (arith, ends, long) in
      let size = overwritten_size from (word_bytes other) contents starts in
      (hold-same sizes (Class s words ∷ []) contents
      (overwritten from (word_bytes other) contents) (omega (arith, size))
      (omega (arith, long))
      (λ d m. only d s m (λ (x : ClassRow). IsInside sizes x.place) in_s)
      (λ d m i here.
      let there = subst (λ (x : ClassRow). is_among (record_at sizes x.place)
      (8 * x.place.words) i ≡ true) (the d s m) here in
      sym (byte-kept from (word_bytes other) contents i starts
      (not_true (is_among from (length (word_bytes other)) i) (λ inside_it.
      let share = share_word sizes r.place s.place in_r in_s i
      (among-from from (length (word_bytes other)) i inside_it)
      (omega (arith, among-to from (length (word_bytes other)) i inside_it, bytes))
      (among-from (record_at sizes s.place) (8 * s.place.words) i there)
      (among-to (record_at sizes s.place) (8 * s.place.words) i there) in
      omega (arith, share.from_p, share.to_q, behind)))))
      (stands, tt)).0
    where
      the : (d s : ClassRow) → Among d (s ∷ []) → d ≡ s
      the d s (inl e) = e
      the d s (inr none) = absurd none

      only : (d s : ClassRow) → Among d (s ∷ []) → (Q : ClassRow → Type 0) → Q s → Q d
      only d s m Q q = subst Q (sym (the d s m)) q

  -- so do all records that are written after it
  all-leave : (offset : ℕ) (words : List ℕ) (at : ℕ) (records : List (List ℕ)) (contents : List ℕ)
      → offset + length words ≤ at → at + words_in records ≤ chunk_size to.order
      → end ≤ length contents → Stands contents offset words
      → Stands (written (record_writes sizes (move_writes to at records)) contents) offset words
  all-leave offset words at [] contents behind fits long stands = stands
  all-leave offset words at (other ∷ records) contents behind fits long stands =
      let from = record_at sizes (put_at to at other) in
      let is = put-inside sizes to at other lawful (omega (arith, fits)) in
      let ends = ends_in_root sizes (put_at to at other) is in
      let size = overwritten_size from (word_bytes other) contents (omega (arith, ends, long)) in
      all-leave offset words (at + length other) records
      (overwritten from (word_bytes other) contents) (omega (arith, behind))
      (omega (arith, fits)) (omega (arith, size, long))
      (behind-leaves offset words at other contents behind (omega (arith, fits)) long stands)

  -- No fewer bytes than before, the rows' records in their old places, and each record in its new
  -- one.
  pub record Moves (rows : List (Row (List ℕ))) (offset : ℕ) (records : List (List ℕ))
      (old new : List ℕ) : Type 0 where
    pub longer : length old ≤ length new
    pub held : HoldRows sizes new rows
    pub laid : AllByRecursion (λ w. StandsAt sizes (drop (roots_at sizes) new) w.0 w.1)
        (move_writes to offset records)

  pub moves-leave : (n : ℕ) (rows : List (Row (List ℕ))) (offset : ℕ) (records : List (List ℕ))
      (contents : List ℕ) → AreKept sizes n rows → is_unused to (bare rows) ≡ true
      → AllByRecursion AreTold records → offset + words_in records ≤ chunk_size to.order
      → end ≤ length contents → HoldRows sizes contents rows
      → Moves rows offset records contents
      (written (record_writes sizes (move_writes to offset records)) contents)
  moves-leave n rows offset [] contents kept free told fits long held =
      record { longer = omega arith; held = held; laid = tt }
  moves-leave n rows offset (words ∷ records) contents kept free told fits long held =
      let r = row_at to offset words in
      let from = record_at sizes r.place in
      let is = put-inside sizes to offset words lawful (omega (arith, fits)) in
      let ends = ends_in_root sizes r.place is in
      let after = overwritten from (word_bytes words) contents in
      let size = overwritten_size from (word_bytes words) contents (omega (arith, ends, long)) in
      let still = record-leaves sizes n rows r words contents kept is (inl free) refl long held in
      let stands = record-stands sizes r words contents is refl told.0 long in
      let rest = moves-leave n rows (offset + length words) records after kept free told.1
      (omega (arith, fits)) (omega (arith, size, long)) still in
      record {
        longer = omega (arith, size, rest.longer);
        held = rest.held;
        laid = (
          all-leave offset words (offset + length words) records after (omega arith)
              (omega (arith, fits)) (omega (arith, size, long)) stands,
          rest.laid,
        );
      }

-- ---- all of a move

-- what a move leaves: no fewer bytes, and the rows' records after it in their places
pub move-holds : (sizes : Sizes) (n : ℕ) (rows : List (Row (List ℕ))) (e : Move)
    (records : List (List ℕ)) (contents : List ℕ) → AreKept sizes n rows → MoveKeeps sizes rows e
    → AreCounted rows → records ≡ kept_on e.from rows → AllByRecursion AreTold records
    → root_at sizes (e.to.root + 1) ≤ length contents → HoldRows sizes contents rows
    → (length contents
    ≤ length (written (record_writes sizes (move_writes e.to 0 records)) contents))
    × HoldRows sizes (written (record_writes sizes (move_writes e.to 0 records)) contents)
    (moved e.from e.to rows)
move-holds sizes n rows e records contents kept keeps counted is told long held =
    let new = written (record_writes sizes (move_writes e.to 0 records)) contents in
    let words : words_in records ≡ used_words e.from rows =
    ap words_in is ∙ kept-words e.from rows counted in
    let m = moves-leave sizes e.to keeps.chunk n rows 0 records contents kept
    (rw (classes-bare rows) keeps.unused) told (omega (arith, words, keeps.enough)) long held in (
      m.longer,
      moves-stand sizes n rows e.from e.to (drop (roots_at sizes) new) kept.live m.held
          (subst (λ (l : List (List ℕ)). AllByRecursion
          (λ w. StandsAt sizes (drop (roots_at sizes) new) w.0 w.1) (move_writes e.to 0 l)) is
          m.laid),
    )
