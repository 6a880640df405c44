-- What is found in contents is what they frame, and the reverse.
-- For `found_is_framed`, `found_is_live`.
use Rattle.std.proofs.Common.{◌≡◌, ◌≢◌, ℕ, ◌+◌, ◌-◌, ◌*◌, ◌^◌, ◌<◌, ◌≤◌, List, [], ◌∷◌}
use Rattle.std.proofs.Common.{◌++◌, length, take, drop, get_or, Ok, Err, refl, sym}
use Rattle.std.proofs.Common.{ap, subst, ◌∙◌, arith, length-drop}
use Rattle.std.specs.Prelude.{Result}
use Rattle.std.specs.List.{flat_map, AllByRecursion}
use Rattle.std.proofs.lemmas.List.{get_or-drop, get_or-take, length-append, take-take, take_at}
use Rattle.std.proofs.lemmas.List.{drop_at, take-append-drop}
use Rattle.cm_pool.specs.Geometry.{Sizes}
use Rattle.cm_layout.specs.declared.half.Half.TheVariants.{Zero, One}
use Rattle.cm_layout.specs.declared.row.Row.{Row}
use Rattle.cm_layout.specs.declared.row.Row.TheVariants.{Loader, Class}
use Rattle.cm_layout.specs.Offsets.{superblock_size, half_size, half_at, roots_at}
use Rattle.cm_layout.specs.Slots.{open_gate, half_head_slot, row_slots, entry_slots}
use Rattle.cm_layout.specs.Slots.{EntryOfVersion}
use Rattle.cm_layout.specs.Rows.{slots_of_entries, classes_in, bare, rows_after_all}
use Rattle.cm_layout.specs.Frames.{BareRow, BareEntry, IsEnd, IsGoodHalf, LiveRowsKeep, GroupsKeep}
use Rattle.cm_layout.specs.Frames.{AreApart, groups_slots, rows_of, number_at_end}
use Rattle.cm_layout.specs.Framing.{Framing, IsRightFraming, Matches, used_bytes, used_size}
use Rattle.cm_layout.specs.Framing.{open_half, other_half, needs}
use Rattle.cm_layout.specs.Laws.{RowsAreApart, RowsStayLive, FramesAreMatched, MatchesFrame}
use Rattle.cm_layout.proofs.{classes-bare, some_slots}
use Rattle.cm_verdict.specs.declared.counting.Counting.{Counting}
use Rattle.cm_verdict.specs.declared.fault.FileFault.{FileFault}
use Rattle.cm_verdict.specs.Faults.{◌>>=◌}
use Rattle.cm_verdict.specs.Decoding.{front}
use Rattle.cm_verdict.specs.Walk.{Walked, from_slot, start, first_slot}
use Rattle.cm_verdict.specs.Found.{counting, counting_half, Found, half_in, head_in}
use Rattle.cm_verdict.specs.Found.{found_walked, walk_through, sizes_found, found_in, FileBegins}
use Rattle.cm_verdict.specs.Laws.{rows_words, AreWhole, IsLive, FoundIsLive, IsFramed}
use Rattle.cm_verdict.specs.Laws.{FoundIsFramed, IsFound, FramedIsFound}
use Rattle.cm_verdict.proofs.Walks.{end_from, next_from, HasGroups, HasLive}
use Rattle.cm_verdict.proofs.Walks.{live_walked}
use Rattle.cm_verdict.proofs.WalksBack.{Reaches, live_found}
use Rattle.cm_verdict.proofs.Heads.{IsCounting, counted, counting_back}
use Rattle.cm_verdict.proofs.Parts.{begun_with, begins_so, half_within, part_long}
use Rattle.cm_verdict.proofs.Parts.{first_shut, has_older, older_head, used_split, bare_words}
use Rattle.cm_verdict.proofs.Parts.{each_held, needs_long, SameWords, same_words}

-- ---- groups alone

no_entries : (es : List BareEntry) → slots_of_entries es ≡ 0 → es ≡ []
no_entries [] e = refl
no_entries (d ∷ es) e = absurd (omega (arith, e, some_slots d))

-- groups from a slot on, with no group under way
record HasWholeGroups (version : ℕ) (half : List ℕ) (slot : ℕ) (rows : List BareRow)
    (number : ℕ) (e : Walked) (groups : List (List BareEntry)) (sizes : Sizes) : Type 0 where
  keep : GroupsKeep sizes rows number groups
  of_version : AllByRecursion (AllByRecursion (EntryOfVersion version)) groups
  bytes : from_slot half slot ≡ groups_slots number groups ++ from_slot half e.slot
  rows_are : bare e.rows ≡ rows_after_all rows (flat_map (λ group. group) groups)
  number_is : e.number ≡ number + length (flat_map (λ group. group) groups)

whole_groups : (version : ℕ) (sizes : Sizes) (half : List ℕ) (slot : ℕ) (rows : List BareRow)
    (number : ℕ) (e : Walked) → (g : HasGroups version sizes half slot rows number 0 e)
    → HasWholeGroups version half slot rows number e g.groups sizes
whole_groups version sizes half slot rows number e g =
    let none : g.entries ≡ [] = no_entries g.entries g.count in
    let same : g.middle ≡ number = g.middle_is ∙ ap (λ (l : List BareEntry). number + length l) none
    ∙ omega arith in
    record {
      keep = subst (λ (n : ℕ). GroupsKeep sizes rows n g.groups) same
          (subst (λ (l : List BareEntry). GroupsKeep sizes (rows_after_all rows l)
          g.middle g.groups)
          none g.groups_keep);
      of_version = g.groups_of_version;
      bytes = g.bytes
          ∙ (λ i. flat_map entry_slots (none i)
          ++ (groups_slots (same i) g.groups ++ from_slot half e.slot));
      rows_are = g.rows_are
          ∙ ap (λ (l : List BareEntry). rows_after_all (rows_after_all rows l)
          (flat_map (λ group. group) g.groups)) none;
      number_is = g.number_is
          ∙ ap (λ (n : ℕ). n + length (flat_map (λ group. group) g.groups)) same;
    }

-- no group's last number passes the limit
groups_end : (sizes : Sizes) (rows : List BareRow) (n : ℕ) (groups : List (List BareEntry))
    → n ≤ 2 ^ 63 → GroupsKeep sizes rows n groups
    → n + length (flat_map (λ group. group) groups) ≤ 2 ^ 63
groups_end sizes rows n [] small k = omega (arith, small)
groups_end sizes rows n (group ∷ groups) small k =
    let rest = groups_end sizes (rows_after_all rows group) (n + length group) groups
    k.0.numbers k.1 in
    omega (arith, rest, length-append group (flat_map (λ g. g) groups))

-- ---- from what is found to a framing

module _ (apart : RowsAreApart) (contents : List ℕ) (sizes : Sizes) (c : Counting) (w : Walked)
    (b : FileBegins (length contents) (take superblock_size contents) sizes)
    (k : IsCounting sizes (λ h. head_in sizes contents h) c)
    (walked : walk_through sizes c (half_in sizes contents c.half) ≡ Ok w) where
  abbrev half : List ℕ
  half = half_in sizes contents c.half

  in_file : half_at sizes c.half + half_size sizes ≤ length contents
  in_file = omega (arith, half_within sizes c.half, b.halves)

  half_long : length half ≡ 64 * sizes.slots
  half_long = part_long (half_at sizes c.half) (half_size sizes) contents in_file

  found_live : HasLive c.head.version sizes half 1 [] c.head.base c.head.live w
  found_live =
      live_walked sizes (first_slot sizes c.half) half half_long (sizes.slots - 1) w (start c.head)
      (record {
        inside = omega (arith, b.lawful.slots_from, k.good.live);
        enough = omega (arith, b.lawful.slots_from);
      }) refl walked

  groups : HasWholeGroups c.head.version half found_live.middle found_live.live c.head.base w
      found_live.groups.groups sizes
  groups =
      whole_groups c.head.version sizes half found_live.middle found_live.live c.head.base w
      found_live.groups

  abbrev framing : Framing
  framing = record {
    counting = c.half;
    head = c.head;
    live = found_live.live;
    groups = found_live.groups.groups;
    older = k.older;
  }

  abbrev behind : List ℕ
  behind = from_slot half w.slot

  head_is : front (from_slot half 0) ≡ half_head_slot c.head
  head_is =
      take-take 64 (half_size sizes) (drop (half_at sizes c.half) contents)
      (omega (arith, b.lawful.slots_from)) ∙ k.here

  half_is : half ≡ used_bytes framing ++ behind
  half_is =
      next_from half 0
      ∙ ((λ i. head_is i ++ (found_live.bytes
      ∙ ap (λ (l : List ℕ). flat_map row_slots found_live.live ++ l) groups.bytes) i)
      ∙ used_split framing behind)

  used_is : used_size framing ≡ 64 * w.slot
  used_is =
      let all = ap length half_is in
      let both = length-append (used_bytes framing) behind in
      let rest = length-drop (64 * w.slot) half in
      let within : w.slot ≤ sizes.slots = found_live.groups.within in
      omega (arith, all, both, rest, half_long, within)

  within : used_size framing ≤ half_size sizes
  within = let e : w.slot ≤ sizes.slots = found_live.groups.within in omega (arith, used_is, e)

  end_shut : used_size framing < half_size sizes
      → get_or contents (half_at sizes c.half + used_size framing) 0 ≢ open_gate
  end_shut goes_on gate =
      let some : 0 < length behind =
      omega (arith, goes_on, used_is, half_long, length-drop (64 * w.slot) half) in
      let at = half_at sizes c.half in
      let byte : get_or behind 0 0 ≡ get_or contents (at + used_size framing) 0 =
      get_or-drop (64 * w.slot) half 0 0
      ∙ (get_or-take (half_size sizes) (drop at contents) (64 * w.slot + 0) 0
      (omega (arith, goes_on, used_is))
      ∙ (get_or-drop at contents (64 * w.slot + 0) 0
      ∙ ap (λ (i : ℕ). get_or contents i 0) (omega (arith, used_is)))) in
      first_shut behind found_live.groups.end some (byte ∙ gate)

  good : IsGoodHalf sizes (open_half framing)
  good = record {
    head = k.good;
    count = found_live.count;
    live = found_live.keep;
    live_version = found_live.of_version;
    groups = groups.keep;
    groups_version = groups.of_version;
    end = tt;
  }

  abbrev words : List (Row (List ℕ))
  words = rows_words sizes contents w.rows

  rows_same : bare words ≡ rows_of (open_half framing)
  rows_same = bare_words sizes contents w.rows ∙ groups.rows_are

  right : IsRightFraming sizes framing words w.number
  right = record {
    lawful = b.lawful;
    fits = within;
    good = good;
    older = k.older_right;
    rows_are = rows_same;
    number_is = groups.number_is;
    apart = subst AreApart (ap classes_in (sym rows_same) ∙ classes-bare words)
        (apart sizes (open_half framing) good);
  }

  pub live : RowsStayLive → IsLive contents (found_walked sizes c w)
  live stay = record {
    lawful = b.lawful;
    long = b.halves;
    live = subst (λ (n : ℕ). LiveRowsKeep sizes n [] (bare w.rows)) (sym groups.number_is)
        (subst (LiveRowsKeep sizes (number_at_end (open_half framing)) []) (sym groups.rows_are)
        (stay sizes (open_half framing) good));
    number =
        let ends = groups_end sizes found_live.live c.head.base found_live.groups.groups
        k.good.base groups.keep in
        omega (arith, ends, groups.number_is);
  }

  module _ (whole : AreWhole sizes (length contents) w.rows) where
    matches : Matches sizes framing words contents
    matches = record {
      long = needs_long sizes contents w.rows b.halves whole;
      superblock = b.block_is;
      used = sym (take-take (used_size framing) (half_size sizes)
          (drop (half_at sizes c.half) contents) within)
          ∙ (ap (take (used_size framing)) half_is
          ∙ take_at (used_bytes framing) behind (used_size framing) refl);
      end = end_shut;
      other = has_older (half_at sizes (other_half c.half)) k.older contents k.older_there;
      records = each_held sizes contents w.rows whole;
    }

    pub framed : MatchesFrame → IsFramed contents (found_walked sizes c w)
    framed matches_frame = record {
      framing = framing;
      counting_is = refl;
      head_is = refl;
      end_is = used_is;
      right = right;
      matches = matches;
      frames = matches_frame sizes contents words w.number
          (record { framing = framing; right = right; matches = matches });
    }

-- ---- step by step

bound : {A B P : Type 0} (r : Result A FileFault) (f : A → Result B FileFault) (y : B)
    → (r >>= f) ≡ Ok y → ((x : A) → r ≡ Ok x → f x ≡ Ok y → P) → P
bound (Ok x) f y e go_on = go_on x refl e
bound (Err fault) f y e go_on = absurd (cc)

abbrev found_ok : Found → Result Found FileFault
found_ok f = Ok f

found_same : (f g : Found) → found_ok f ≡ found_ok g → f ≡ g
found_same f g e = cc

pub found_is_live : RowsAreApart → RowsStayLive → FoundIsLive
unfolding found_in
found_is_live apart stay contents f e =
    bound (sizes_found (length contents) (take superblock_size contents)) _ f e
    (λ sizes spelled rest.
    bound (counting_half sizes (head_in sizes contents Zero) (head_in sizes contents One)) _ f rest
    (λ c counts walks.
    bound (walk_through sizes c (half_in sizes contents c.half)) _ f walks (λ w walked last.
    subst (IsLive contents) (found_same (found_walked sizes c w) f last)
    (live apart contents sizes c w
    (begun_with (length contents) (take superblock_size contents) sizes spelled)
    (counted sizes (λ h. head_in sizes contents h) c counts) walked stay))))

pub found_is_framed : RowsAreApart → MatchesFrame → FoundIsFramed
unfolding found_in
found_is_framed apart matches_frame contents f e whole =
    bound (sizes_found (length contents) (take superblock_size contents)) _ f e
    (λ sizes spelled rest.
    bound (counting_half sizes (head_in sizes contents Zero) (head_in sizes contents One)) _ f rest
    (λ c counts walks.
    bound (walk_through sizes c (half_in sizes contents c.half)) _ f walks (λ w walked last.
    let same : found_walked sizes c w ≡ f = found_same (found_walked sizes c w) f last in
    subst (λ (g : Found). AreWhole g.sizes (length contents) g.rows → IsFramed contents g) same
    (λ held. framed apart contents sizes c w
    (begun_with (length contents) (take superblock_size contents) sizes spelled)
    (counted sizes (λ h. head_in sizes contents h) c counts) walked held matches_frame) whole)))

-- ---- and the reverse

needs_roots : (sizes : Sizes) (rows : List (Row (List ℕ))) → roots_at sizes ≤ needs sizes rows
needs_roots sizes [] = omega arith
needs_roots sizes (Loader r ∷ rows) = needs_roots sizes rows
needs_roots sizes (Class r words ∷ rows) = let rest = needs_roots sizes rows in omega (arith, rest)

used_some : (f : Framing) → 64 ≤ used_size f
unfolding used_bytes
used_some f =
    omega (
      arith,
      length-append (half_head_slot f.head)
          (flat_map row_slots f.live ++ groups_slots f.head.base f.groups),
    )

used_head : (f : Framing) → take 64 (used_bytes f) ≡ half_head_slot f.head
unfolding used_bytes
used_head f =
    take_at (half_head_slot f.head) (flat_map row_slots f.live ++ groups_slots f.head.base f.groups)
    64 refl

module _ (contents : List ℕ) (sizes : Sizes) (rows : List (Row (List ℕ))) (number : ℕ)
    (fr : Framing) (right : IsRightFraming sizes fr rows number)
    (m : Matches sizes fr rows contents) where
  enough : roots_at sizes ≤ length contents
  enough = omega (arith, needs_roots sizes rows, m.long)

  begins : FileBegins (length contents) (take superblock_size contents) sizes
  begins = record { block_is = m.superblock; lawful = right.lawful; halves = enough }

  abbrev at : ℕ
  at = half_at sizes fr.counting

  abbrev whole_half : List ℕ
  whole_half = half_in sizes contents fr.counting

  whole_long : length whole_half ≡ 64 * sizes.slots
  whole_long =
      part_long at (half_size sizes) contents (omega (arith, half_within sizes fr.counting, enough))

  head_here : head_in sizes contents fr.counting ≡ half_head_slot fr.head
  head_here =
      sym (take-take 64 (used_size fr) (drop at contents) (used_some fr))
      ∙ (ap (take 64) m.used ∙ used_head fr)

  abbrev c : Counting
  c = counting fr.counting fr.head

  counts : IsCounting sizes (λ h. head_in sizes contents h) c
  counts = record {
    here = head_here;
    good = right.good.head;
    older = fr.older;
    older_there = older_head (half_at sizes (other_half fr.counting)) fr.older contents m.other;
    older_right = right.older;
  }

  abbrev rest : List ℕ
  rest = drop (used_size fr) whole_half

  split : whole_half ≡ used_bytes fr ++ rest
  split =
      let front : take (used_size fr) whole_half ≡ used_bytes fr =
      take-take (used_size fr) (half_size sizes) (drop at contents) right.fits ∙ m.used in
      sym (take-append-drop (used_size fr) whole_half) ∙ ap (λ (l : List ℕ). l ++ rest) front

  rest_end : IsEnd rest
  rest_end = end_from rest (λ some gate.
      let goes_on : used_size fr < half_size sizes =
      omega (arith, some, length-drop (used_size fr) whole_half, whole_long) in
      let byte : get_or rest 0 0 ≡ get_or contents (at + used_size fr) 0 =
      get_or-drop (used_size fr) whole_half 0 0
      ∙ (get_or-take (half_size sizes) (drop at contents) (used_size fr + 0) 0
      (omega (arith, goes_on))
      ∙ (get_or-drop at contents (used_size fr + 0) 0
      ∙ ap (λ (i : ℕ). get_or contents i 0) (omega arith))) in
      m.end goes_on (sym byte ∙ gate))

  behind_head : from_slot whole_half 1
      ≡ flat_map row_slots fr.live ++ (groups_slots fr.head.base fr.groups ++ rest)
  behind_head =
      ap (drop 64) (split ∙ sym (used_split fr rest))
      ∙ drop_at (half_head_slot fr.head)
      (flat_map row_slots fr.live ++ (groups_slots fr.head.base fr.groups ++ rest)) 64 refl

  reach : Reaches sizes (first_slot sizes fr.counting) whole_half whole_long (sizes.slots - 1)
      (start fr.head) (rows_of (open_half fr)) (number_at_end (open_half fr))
  reach =
      live_found sizes (first_slot sizes fr.counting) whole_half whole_long (sizes.slots - 1)
      (start fr.head) fr.live fr.groups rest [] fr.head.base
      (omega (arith, right.lawful.slots_from)) record {
        count = right.good.count;
        phase = refl;
        rows_are = refl;
        base_is = refl;
        keep = right.good.live;
        of_version = right.good.live_version;
        groups_keep = right.good.groups;
        groups_of_version = right.good.groups_version;
        bytes = behind_head;
        end = rest_end;
      }

  same : SameWords sizes contents reach.end.rows rows
  same = same_words sizes contents reach.end.rows rows enough
      (reach.rows_are ∙ sym right.rows_are) m.records

  pub is_found : (f : Found) × IsFound sizes contents rows number f
  unfolding found_in
  is_found = (
    found_walked sizes c reach.end,
    record {
      found = rw (begins_so (length contents) (take superblock_size contents) sizes begins)
          (rw (counting_back sizes (λ h. head_in sizes contents h) fr.counting fr.head counts)
          (rw reach.walked refl));
      whole = same.whole;
      sizes_are = refl;
      rows_are = same.words;
      number_is = reach.number_is ∙ sym right.number_is;
    },
  )

pub framed_is_found : FramesAreMatched → FramedIsFound
framed_is_found frames_are_matched sizes contents rows number frames =
    let b = frames_are_matched sizes contents rows number frames in
    is_found contents sizes rows number b.framing b.right b.matches
