-- A group's plan, from what is committed to what is committed after it.
-- For `groups_turn`.
use Rattle.std.proofs.Common.{◌≡◌, ℕ, ◌+◌, ◌*◌, ◌<◌, ◌≤◌, inl, inr, Bool}
use Rattle.std.proofs.Common.{true, false, cond, List, [], ◌∷◌, ◌++◌, length, take, drop, get_or}
use Rattle.std.proofs.Common.{refl}
use Rattle.std.proofs.Common.{sym, ap, subst, ◌∙◌, arith, eqb}
use Rattle.std.specs.Prelude.{nat_lt}
use Rattle.std.specs.List.{AllByRecursion}
use Rattle.std.proofs.Math.ListN.{set}
use Rattle.std.proofs.lemmas.Bool.{eqb-true, eq-eqb, lt-ltb, ltb-true, false≢true}
use Rattle.std.proofs.lemmas.List.{length-append, take-take, take_at, drop_at, get_or-drop}
use Rattle.std.proofs.lemmas.List.{get_or-take}
use Rattle.cm_disk.specs.Calls.{overwritten}
use Rattle.cm_disk.specs.Disk.{is_among}
use Rattle.cm_pool.specs.Lists.{Among}
use Rattle.cm_layout.specs.declared.class_row.ClassRow.{ClassRow}
use Rattle.cm_layout.specs.declared.row.Row.{Row}
use Rattle.cm_layout.specs.Offsets.{half_size, half_at, root_at}
use Rattle.cm_layout.specs.Slots.{open_gate}
use Rattle.cm_layout.specs.Rows.{bare, classes_in, slots_of_entries}
use Rattle.cm_layout.specs.Frames.{BareEntry}
use Rattle.cm_layout.specs.Framing.{part, used_size, needs}
use Rattle.cm_layout.proofs.{length-blank, classes-bare}
use Rattle.cm_guards.specs.Guards.{IsApart}
use Rattle.cm_guards.specs.Gates.{OneOf}
use Rattle.cm_guards.specs.Plans.{Write, WriteFits, written, CanWrite}
use Rattle.cm_guards.proofs.{kept_by_plan, overwritten_size}
use Rattle.cm_group.specs.Groups.{Handed, IsGroup, entries_in}
use Rattle.cm_commit.specs.Committed.{Committed, end_slot, with_group}
use Rattle.cm_commit.specs.Guarding.{guard_of, ContentsShow, IsCommitted, CountsNewest}
use Rattle.cm_commit.specs.Offers.{IsNext, rows_after_group, committed_after}
use Rattle.cm_commit.specs.GroupPlans.{group_writes, root_writes, all_writes, record_writes}
use Rattle.cm_commit.specs.GroupPlans.{slots_write}
use Rattle.cm_commit.specs.GroupPlans.{gate_at}
use Rattle.cm_commit.specs.GroupPlans.{whole_roots, roots_to_add, roots_of_entries}
use Rattle.cm_commit.specs.GroupPlans.{slots_behind_gate}
use Rattle.cm_commit.specs.GroupPlans.{shut_slot}
use Rattle.cm_commit.proofs.Ranges.{among-from, among-to, half_ends}
use Rattle.cm_commit.proofs.Slots.{end_is, used-more, group_count, behind-gate}
use Rattle.cm_layout.specs.Offsets.{record_at}
use Rattle.cm_layout.specs.Zeros.{blank}
use Rattle.cm_commit.proofs.Places.{IsInside, are_stacked, begins_in_root}
use Rattle.cm_commit.proofs.Guards.{guarded, needs_roots}
use Rattle.cm_commit.proofs.Writing.{size_after, size_after-grows, can-append}
use Rattle.cm_commit.proofs.Writing.{written-append, written-size, part-written, byte-kept}
use Rattle.cm_commit.proofs.Held.{HoldRows, hold-same, needs-held}
use Rattle.cm_commit.proofs.Rights.{are_kept, kept-all, size-more, entries_keep}
use Rattle.cm_commit.proofs.Rights.{right_after}
use Rattle.cm_group.proofs.{enough}
use Rattle.cm_commit.specs.Laws.{TellsWords, IsTurned, GroupsTurn}
use Rattle.cm_commit.proofs.Counted.{counted-held}
use Rattle.cm_commit.proofs.EntryRecords.{records-stand}
use Rattle.cm_commit.proofs.Records.{roots-mono}
use Rattle.cm_commit.proofs.Apart.{guarded_where, can-records, can-roots, roots-size, whole-ends}
use Rattle.cm_commit.proofs.Apart.{roots_limit, not_true, roots-few}
use Rattle.cm_commit.proofs.Gate.{IsGate, IsReady, stays_shut, turns_open}

-- ---- the slots of a group

blank-byte : get_or (blank 64) 0 0 ≡ 0
unfolding blank
blank-byte = refl

module _ (c : Committed) (group : Handed) (right : IsCommitted c) (next : IsNext c group) where
  abbrev es : List BareEntry
  es = entries_in group.entries

  abbrev slot : ℕ
  slot = end_slot c.framing

  abbrev here : ℕ
  here = half_at c.sizes c.framing.counting

  abbrev front : List ℕ
  front = slots_behind_gate c.number es

  abbrev shut : List ℕ
  shut = shut_slot c.sizes (slot + slots_of_entries es + 1)

  abbrev slots : Write
  slots = slots_write c.sizes c.framing.counting slot c.number es

  gate-is : gate_at c ≡ here + used_size c.framing
  gate-is = omega (arith, end_is c.sizes c.framing right.good)

  front-count : length front ≡ 63 + 64 * slots_of_entries es
  front-count =
      let keep = entries_keep c.sizes c.rows c.rows c.number group.entries next.entries in
      let all = group_count c.sizes (bare c.rows) c.number (entries_in group.entries) keep in
      let split = ap length (behind-gate c.number (entries_in group.entries)) in
      omega (arith, all, split)

  shut-fits : slot + slots_of_entries es + 1 ≤ c.sizes.slots
      → 64 * (slot + slots_of_entries es + 1) + length shut ≤ 64 * c.sizes.slots
  shut-fits room = by_test (nat_lt (slot + slots_of_entries es + 1) c.sizes.slots) refl
    where
      by_test : (t : Bool) → nat_lt (slot + slots_of_entries es + 1) c.sizes.slots ≡ t
          → 64 * (slot + slots_of_entries es + 1) + length (cond t (blank 64) [])
          ≤ 64 * c.sizes.slots
      by_test true e =
          omega (arith, length-blank 64, ltb-true (slot + slots_of_entries es + 1) c.sizes.slots e)
      by_test false e = omega (arith, room)

  pub slots-end : slots.at + length slots.bytes ≤ here + half_size c.sizes
  slots-end =
      let size = length-append front shut in
      let fits = shut-fits (omega (arith, next.room, right.lawful.slots_from)) in
      omega (arith, size, fits, front-count)

  slots-apart : IsApart (guard_of c) slots.at (length slots.bytes)
  slots-apart = record {
    apart = λ i guarded.
        not_true (is_among slots.at (length slots.bytes) i) (λ there.
        let from = among-from slots.at (length slots.bytes) i there in
        let to = among-to slots.at (length slots.bytes) i there in
        let half = half_ends c.sizes c.framing.counting in
        elim (guarded_where c.sizes c.framing c.rows c.number i right guarded) [
          | inl halves ↦
              halves.apart slots.at (length slots.bytes) (omega (arith, gate-is)) slots-end from to
          | inr found ↦
              let begins = begins_in_root c.sizes found.row.place in
              omega (arith, begins, found.from, to, slots-end, half)
        ]);
  }

  -- ---- the plan

  module _ (contents : List ℕ) (shows : ContentsShow c contents) where
    abbrev len : ℕ
    len = length contents

    abbrev added : ℕ
    added = roots_to_add c.sizes len es

    abbrev roots : List Write
    roots = root_writes c.sizes (whole_roots c.sizes len) added

    abbrev records : List Write
    records = record_writes c.sizes (all_writes group.entries)

    long : needs c.sizes c.rows ≤ len
    long = shows.long

    starts : root_at c.sizes (whole_roots c.sizes len) ≤ len
    starts = whole-ends c.sizes len (omega (arith, long, needs_roots c.sizes c.rows))

    can-first : CanWrite (guard_of c) roots len
    can-first =
        can-roots c (whole_roots c.sizes len) added len len right long (omega arith) starts
        (λ some.
        let few = roots-few c c.number c.rows group.entries next.entries in
        omega (arith, few, some))

    grown : root_at c.sizes (roots_of_entries es) ≤ size_after roots len
    grown =
        let size = roots-size c.sizes (whole_roots c.sizes len) added len starts in
        let enough = roots-mono c.sizes (roots_of_entries es) (whole_roots c.sizes len + added)
        (omega arith) in
        omega (arith, size, enough)

    can-second : CanWrite (guard_of c) (roots ++ records) len
    can-second =
        can-append (guard_of c) roots records len can-first
        (can-records c c.number c.rows group.entries (size_after roots len) right
        (counted-held c.sizes contents c.rows shows.records) next.entries grown)

    can-slots : WriteFits (guard_of c) slots (size_after (roots ++ records) len)
    can-slots =
        let half = half_ends c.sizes c.framing.counting in
        let more = size_after-grows (roots ++ records) len in
        let limit = roots_limit c.sizes right.lawful in
        record {
          starts_within = omega (arith, half, more, long, needs_roots c.sizes c.rows, slots-end);
          within_limit = omega (arith, half, limit, slots-end);
          apart = slots-apart;
        }

    can-all : CanWrite (guard_of c) (group_writes c len group.entries) len
    can-all = can-append (guard_of c) (roots ++ records) (slots ∷ []) len can-second (can-slots, tt)

    -- ---- what it leaves

    abbrev with_roots : List ℕ
    with_roots = written roots contents

    abbrev with_records : List ℕ
    with_records = written records with_roots

    abbrev base : List ℕ
    base = written (group_writes c len group.entries) contents

    base-is : base ≡ overwritten slots.at slots.bytes with_records
    base-is =
        written-append (roots ++ records) (slots ∷ []) contents
        ∙ ap (overwritten slots.at slots.bytes) (written-append roots records contents)

    shows-base : ContentsShow c base
    shows-base =
        kept_by_plan (guard_of c) (ContentsShow c) (group_writes c len group.entries) contents
        (guarded c right) long can-all shows

    roots-long : length with_roots ≡ size_after roots len
    roots-long = written-size (guard_of c) roots contents can-first

    records-long : length with_records ≡ size_after (roots ++ records) len
    records-long =
        ap length (sym (written-append roots records contents))
        ∙ written-size (guard_of c) (roots ++ records) contents can-second

    slots-start : slots.at ≤ length with_records
    slots-start = omega (arith, records-long, can-slots.starts_within)

    module _ (tell : AllByRecursion TellsWords group.entries) where
      abbrev after : List (Row (List ℕ))
      after = rows_after_group c.rows group.entries

      held-records : HoldRows c.sizes with_records after
      held-records =
          let there = kept_by_plan (guard_of c) (ContentsShow c) roots contents (guarded c right)
          long
          can-first
          shows in
          (records-stand c.sizes c.number c.rows c.rows group.entries with_roots (are_kept c right)
          next.entries tell (omega (arith, grown, roots-long)) there.records).held

      after-inside : (r : ClassRow) → Among r (classes_in after) → IsInside c.sizes r.place
      after-inside r m =
          let kept = kept-all c.sizes c.rows c.rows c.number group.entries (are_kept c right)
          next.entries in
          (are_stacked c.sizes (c.number + length group.entries) (bare after) kept.live).each r
          (subst (λ (l : List ClassRow). Among r l) (sym (classes-bare after)) m)

      held-base : HoldRows c.sizes base after
      held-base =
          let half = half_ends c.sizes c.framing.counting in
          let size = overwritten_size slots.at slots.bytes with_records slots-start in
          let more = size_after-grows (roots ++ records) len in
          subst (λ (l : List ℕ). HoldRows c.sizes l after) (sym base-is)
          (hold-same c.sizes after with_records (overwritten slots.at slots.bytes with_records)
          (omega (arith, size))
          (omega (arith, records-long, more, long, needs_roots c.sizes c.rows))
          after-inside
          (λ r m i there.
          let from = among-from (record_at c.sizes r.place) (8 * r.place.words) i there in
          let begins = begins_in_root c.sizes r.place in
          sym (byte-kept slots.at slots.bytes with_records i slots-start
          (not_true (is_among slots.at (length slots.bytes) i) (λ inside_slots.
          let to = among-to slots.at (length slots.bytes) i inside_slots in
          omega (arith, from, begins, to, slots-end, half)))))
          held-records)

      long-base : needs c.sizes after ≤ length base
      long-base =
          needs-held c.sizes base after
          (omega (arith, shows-base.long, needs_roots c.sizes c.rows)) held-base

      slots-written : part slots.at (length slots.bytes) base ≡ slots.bytes
      slots-written =
          ap (part slots.at (length slots.bytes)) base-is
          ∙ part-written slots.at slots.bytes with_records slots-start

      front-written : part (gate_at c + 1) (length front) base ≡ front
      front-written =
          let size = length-append front shut in
          let shorter : take (length front) (part slots.at (length slots.bytes) base)
          ≡ part slots.at (length front) base =
          take-take (length front) (length slots.bytes) (drop slots.at base) (omega (arith, size))
          in
          sym shorter
          ∙ (ap (take (length front)) slots-written ∙ take_at front shut (length front) refl)

      -- the byte after the group, if the half continues there
      byte-behind : nat_lt (slot + slots_of_entries es + 1) c.sizes.slots ≡ true
          → get_or base (gate_at c + 1 + length front) 0 ≡ 0
      byte-behind goes_on =
          let shut_is : shut ≡ blank 64 = ap (λ (t : Bool). cond t (blank 64) []) goes_on in
          let size = length-append front shut in
          let some : length shut ≡ 64 = ap length shut_is ∙ length-blank 64 in
          let zero_more : length front ≡ length front + 0 = omega arith in
          let in_part : get_or (part slots.at (length slots.bytes) base) (length front) 0
          ≡ get_or base (slots.at + length front) 0 =
          get_or-take (length slots.bytes) (drop slots.at base) (length front) 0
          (omega (arith, size, some))
          ∙ get_or-drop slots.at base (length front) 0 in
          sym in_part
          ∙ (ap (λ (l : List ℕ). get_or l (length front) 0) slots-written
          ∙ (ap (λ (i : ℕ). get_or (front ++ shut) i 0) zero_more
          ∙ (sym (get_or-drop (length front) (front ++ shut) 0 0)
          ∙ (ap (λ (l : List ℕ). get_or l 0 0) (drop_at front shut (length front) refl)
          ∙ (ap (λ (l : List ℕ). get_or l 0 0) shut_is ∙ blank-byte)))))

      size-next : used_size (with_group c.framing es)
          ≡ 64 * slot + 64 + 64 * slots_of_entries es
      size-next = size-more c group right next

      ready : IsReady c.sizes c.framing (with_group c.framing es) after (gate_at c) (length front)
          front base
      ready = record {
        counting = refl;
        older = refl;
        bytes = used-more c.framing c.number es right.number_is;
        count = refl;
        written = front-written;
        end = λ goes_on is_open.
            let fits = lt-ltb (slot + slots_of_entries es + 1) c.sizes.slots
            (omega (arith, goes_on, size-next)) in
            absurd (omega (arith, sym (byte-behind fits) ∙ is_open));
        records = held-base;
        long = long-base;
      }

      gate : IsGate c.sizes c.framing (gate_at c)
      gate = record {
        lawful = right.lawful;
        is = gate-is;
        within = omega (
          arith,
          end_is c.sizes c.framing right.good,
          next.room,
          right.lawful.slots_from,
        );
      }

      gate-inside : gate_at c < length base
      gate-inside =
          let half = half_ends c.sizes c.framing.counting in
          omega (arith, gate-is, gate.within, half, shows-base.long, needs_roots c.sizes c.rows)

      opened : ContentsShow (committed_after c group) (set base (gate_at c) open_gate)
      opened =
          turns_open c.sizes c.framing (with_group c.framing es) c.rows after (gate_at c)
          (length front)
          front base gate gate-inside shows-base ready

      with_byte : (b : ℕ) → OneOf (ContentsShow c) (ContentsShow (committed_after c group))
          (set base (gate_at c) b)
      with_byte b = by_test (eqb b open_gate) refl
        where
          by_test : (t : Bool) → eqb b open_gate ≡ t
              → OneOf (ContentsShow c) (ContentsShow (committed_after c group))
              (set base (gate_at c) b)
          by_test true e = record {
            which = inr (subst (λ (k : ℕ). ContentsShow (committed_after c group)
                (set base (gate_at c) k))
                (sym (eqb-true b open_gate e)) opened);
          }
          by_test false e = record {
            which = inl (stays_shut c.sizes c.framing c.rows (gate_at c) b base gate gate-inside
                (λ same. false≢true (sym e ∙ eq-eqb b open_gate same)) shows-base);
          }

      pub turned : CountsNewest c → IsGroup group → IsTurned c group contents
      turned newest is = record {
        can = can-all;
        turns = record {
          inside = gate-inside;
          either = λ b small. with_byte b;
          last = opened;
        };
        next = right_after c group right is next newest
            (omega (arith, is.some, enough group.entries));
      }

pub groups_turn : GroupsTurn
groups_turn c group contents right is next newest tell shows =
    turned c group right next contents shows tell newest is
