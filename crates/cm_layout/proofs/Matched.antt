-- Contents frame rows exactly if they match a framing that is right for them.
-- For `frames_are_matched` and others.
use Rattle.std.proofs.Common.{◌≡◌, ◌≢◌, ℕ, ◌+◌, ◌<◌, ◌≤◌, ◌⊎◌, List, [], ◌∷◌, ◌++◌, length, take}
use Rattle.std.proofs.Common.{drop, get_or, Option, Some, None, inl, inr, refl, sym, ap, subst, ◌∙◌}
use Rattle.std.proofs.Common.{arith, append_assoc, drop-drop, length-drop, length-take}
use Rattle.std.specs.List.{flat_map, AllByRecursion}
use Rattle.std.proofs.lemmas.List.{take_at, drop_at, take-append-drop, length-append}
use Rattle.std.proofs.lemmas.List.{get_or-drop, get_or-take, get_or_append_left, take-take}
use Rattle.cm_pool.specs.Geometry.{Sizes, IsGeometry}
use Rattle.cm_layout.specs.declared.half.Half.{Half}
use Rattle.cm_layout.specs.declared.half.Half.TheVariants.{Zero, One}
use Rattle.cm_layout.specs.declared.heads.HalfHead.{HalfHead}
use Rattle.cm_layout.specs.declared.row.Row.{Row}
use Rattle.cm_layout.specs.declared.row.Row.TheVariants.{Loader, Class}
use Rattle.cm_layout.specs.Offsets.{superblock_size, slot_size, half_size, half_at, roots_at}
use Rattle.cm_layout.specs.Slots.{open_gate, half_head_slot, row_slots}
use Rattle.cm_layout.specs.Superblock.{superblock_bytes, superblock_front}
use Rattle.cm_layout.specs.Superblock.{superblock_zeros}
use Rattle.cm_layout.specs.Rows.{bare}
use Rattle.cm_layout.specs.Frames.{BareRow, Frames, Region, region_bytes, Counts, OpenHalf}
use Rattle.cm_layout.specs.Frames.{IsGoodHalf}
use Rattle.cm_layout.specs.Frames.{IsEnd, IsOlder, HoldsRow, half_bytes, groups_slots}
use Rattle.cm_layout.specs.Framing.{Framing, IsRightFraming, Matches, HasOlder, IsRightOlder, part}
use Rattle.cm_layout.specs.Framing.{needs}
use Rattle.cm_layout.specs.Framing.{used_bytes, used_size, open_half, other_half}
use Rattle.cm_layout.specs.Laws.{IsFramed, FramesAreMatched, MatchesFrame}
use Rattle.cm_layout.proofs.Superblocks.{length-blank}
use Rattle.cm_layout.specs.Zeros.{blank}

length-superblock : (sizes : Sizes) → length (superblock_bytes sizes) ≡ superblock_size
length-superblock sizes =
    omega (
      arith,
      length-append (superblock_front sizes) (blank superblock_zeros ++ open_gate ∷ []),
      length-append (blank superblock_zeros) (open_gate ∷ []),
      length-blank superblock_zeros,
    )

-- ---- parts of joined lists

behind_front : (front rest : List ℕ) (n : ℕ) → length front ≡ n → drop n (front ++ rest) ≡ rest
behind_front front rest n e = drop_at front rest n e

-- where each half and the roots are
record Lies (sizes : Sizes) (contents half_0 half_1 roots : List ℕ) : Type 0 where
  front : take superblock_size contents ≡ superblock_bytes sizes
  zero : drop superblock_size contents ≡ half_0 ++ (half_1 ++ roots)
  one : drop (superblock_size + half_size sizes) contents ≡ half_1 ++ roots
  behind : drop (roots_at sizes) contents ≡ roots
  long : length contents ≡ roots_at sizes + length roots

lies : (sizes : Sizes) (contents : List ℕ) (r : Region) → contents ≡ region_bytes sizes r
    → length r.half_0 ≡ half_size sizes → length r.half_1 ≡ half_size sizes
    → Lies sizes contents r.half_0 r.half_1 r.roots
lies sizes contents r bytes count_0 count_1 =
    let sb = superblock_bytes sizes in
    let rest = r.half_0 ++ (r.half_1 ++ r.roots) in
    let size = length-superblock sizes in
    let zero : drop superblock_size contents ≡ rest =
    ap (drop superblock_size) bytes ∙ drop_at sb rest superblock_size size in
    let one : drop (superblock_size + half_size sizes) contents ≡ r.half_1 ++ r.roots =
    ap (λ (n : ℕ). drop n contents) (omega arith)
    ∙ sym (drop-drop (half_size sizes) superblock_size contents)
    ∙ (ap (drop (half_size sizes)) zero
    ∙ drop_at r.half_0 (r.half_1 ++ r.roots) (half_size sizes) count_0) in
    record {
      front = ap (take superblock_size) bytes ∙ take_at sb rest superblock_size size;
      zero = zero;
      one = one;
      behind = ap (λ (n : ℕ). drop n contents) (omega arith)
          ∙ sym (drop-drop (half_size sizes) (superblock_size + half_size sizes) contents)
          ∙ (ap (drop (half_size sizes)) one ∙ drop_at r.half_1 r.roots (half_size sizes) count_1);
      long =
          let a = ap length bytes in
          let b = length-append sb rest in
          let c = length-append r.half_0 (r.half_1 ++ r.roots) in
          let d = length-append r.half_1 r.roots in
          omega (arith, a, b, c, d, size, count_0, count_1);
    }

-- ---- from frames

unfoldable pub framing_of : Half → OpenHalf → Option HalfHead → Framing
framing_of counting h older = record {
  counting = counting;
  head = h.head;
  live = h.live;
  groups = h.groups;
  older = older;
}

pub half_split : (counting : Half) (h : OpenHalf) (older : Option HalfHead)
    → half_bytes h ≡ used_bytes (framing_of counting h older) ++ h.behind
unfolding used_bytes framing_of
half_split counting h older =
    let head = half_head_slot h.head in
    let live = flat_map row_slots h.live in
    let groups = groups_slots h.head.base h.groups in
    ap (λ (l : List ℕ). head ++ l) (sym (append_assoc live groups h.behind))
    ∙ sym (append_assoc head (live ++ groups) h.behind)

first_byte : (bytes : List ℕ) → IsEnd bytes → 0 < length bytes → get_or bytes 0 0 ≢ open_gate
first_byte [] e some = absurd (omega (arith, some))
first_byte (b ∷ bytes) e some = e

-- what is found at the half that counts
record Found (at : ℕ) (size : ℕ) (f : Framing) (contents : List ℕ) : Type 0 where
  fits : used_size f ≤ size
  used : part at (used_size f) contents ≡ used_bytes f
  end : used_size f < size → get_or contents (at + used_size f) 0 ≢ open_gate

found : (at size : ℕ) (f : Framing) (contents half behind rest : List ℕ)
    → drop at contents ≡ half ++ rest → half ≡ used_bytes f ++ behind → length half ≡ size
    → IsEnd behind → Found at size f contents
found at size f contents half behind rest there split count end =
    let used = used_bytes f in
    let all = length-append used behind in
    let whole : drop at contents ≡ used ++ (behind ++ rest) =
    there ∙ (ap (λ (l : List ℕ). l ++ rest) split ∙ append_assoc used behind rest) in
    let both = ap length split in
    record {
      fits = omega (arith, all, both, count);
      used = ap (take (length used)) whole ∙ take_at used (behind ++ rest) (length used) refl;
      end = λ goes_on.
          let some : 0 < length behind = omega (arith, all, both, count, goes_on) in
          let byte : get_or contents (at + length used) 0 ≡ get_or behind 0 0 =
          sym (get_or-drop at contents (length used) 0)
          ∙ (ap (λ (l : List ℕ). get_or l (length used) 0) whole
          ∙ (ap (λ (i : ℕ). get_or (used ++ (behind ++ rest)) i 0) (omega arith)
          ∙ (sym (get_or-drop (length used) (used ++ (behind ++ rest)) 0 0)
          ∙ (ap (λ (l : List ℕ). get_or l 0 0) (drop_at used (behind ++ rest) (length used) refl)
          ∙ get_or_append_left behind rest 0 0 some)))) in
          λ is_open. first_byte behind end some (sym byte ∙ is_open);
    }

-- the other half
older_of : (sizes : Sizes) (epoch : ℕ) (bytes : List ℕ) → IsOlder sizes epoch bytes
    → Option HalfHead
older_of sizes epoch bytes (inl shut) = None
older_of sizes epoch bytes (inr open_half) = Some open_half.0

older_found : (sizes : Sizes) (epoch at : ℕ) (contents other rest : List ℕ)
    (o : IsOlder sizes epoch other) → drop at contents ≡ other ++ rest → 0 < length other
    → HasOlder at (older_of sizes epoch other o) contents
    × IsRightOlder sizes epoch (older_of sizes epoch other o)
unfolding older_of
older_found sizes epoch at contents other rest (inl shut) there some =
    let byte : get_or contents at 0 ≡ get_or other 0 0 =
    ap (λ (i : ℕ). get_or contents i 0) (omega arith) ∙ sym (get_or-drop at contents 0 0)
    ∙ (ap (λ (l : List ℕ). get_or l 0 0) there ∙ get_or_append_left other rest 0 0 some) in
    (λ is_open. first_byte other shut some (sym byte ∙ is_open), tt)
older_found sizes epoch at contents other rest (inr h) there some =
    let head = half_head_slot h.0 in
    let whole : drop at contents ≡ head ++ (h.1 ++ rest) =
    there ∙ (ap (λ (l : List ℕ). l ++ rest) h.2 ∙ append_assoc head h.1 rest) in
    (ap (take slot_size) whole ∙ take_at head (h.1 ++ rest) slot_size refl, (h.3, h.4))

needs_long : (sizes : Sizes) (roots contents : List ℕ) (rows : List (Row (List ℕ)))
    → length contents ≡ roots_at sizes + length roots
    → AllByRecursion (HoldsRow sizes roots) rows → needs sizes rows ≤ length contents
needs_long sizes roots contents [] long held = omega (arith, long)
needs_long sizes roots contents (Loader r ∷ rows) long held =
    needs_long sizes roots contents rows long held.1
needs_long sizes roots contents (Class r words ∷ rows) long held =
    let rest = needs_long sizes roots contents rows long held.1 in
    omega (arith, rest, held.0.whole, long)

good_open : (sizes : Sizes) (h : OpenHalf) → IsGoodHalf sizes h
    → IsGoodHalf sizes (record { head = h.head; live = h.live; groups = h.groups; behind = [] })
good_open sizes h g = record {
  head = g.head;
  count = g.count;
  live = g.live;
  live_version = g.live_version;
  groups = g.groups;
  groups_version = g.groups_version;
  end = tt;
}

half_some : (sizes : Sizes) → IsGeometry sizes → 0 < half_size sizes
half_some sizes g = omega (arith, g.slots_from)

matched : (sizes : Sizes) (contents : List ℕ) (rows : List (Row (List ℕ))) (n : ℕ)
    (f : Frames sizes contents rows n) (counting : Half) (half other : List ℕ)
    (rest behind : List ℕ)
    → Lies sizes contents f.region.half_0 f.region.half_1 f.region.roots
    → (c : Counts sizes half other (bare rows) n)
    → drop (half_at sizes counting) contents ≡ half ++ rest → length half ≡ half_size sizes
    → drop (half_at sizes (other_half counting)) contents ≡ other ++ behind
    → length other ≡ half_size sizes
    → (m : IsFramed sizes contents rows n) × (m.framing.head ≡ c.half.head)
unfolding framing_of
matched sizes contents rows n f counting half other rest behind parts c there count beside
    other_count =
    let older = older_of sizes c.half.head.epoch other c.older in
    let framing = framing_of counting c.half older in
    let here =
    found (half_at sizes counting) (half_size sizes) framing contents half c.half.behind rest
    there (c.bytes ∙ half_split counting c.half older) count c.good.end in
    let some : 0 < length other = omega (arith, other_count, half_some sizes f.lawful) in
    let second = older_found sizes c.half.head.epoch (half_at sizes (other_half counting)) contents
    other behind c.older beside some in (
      record {
        framing = framing;
        right = record {
          lawful = f.lawful;
          fits = here.fits;
          good = good_open sizes c.half c.good;
          older = second.1;
          rows_are = c.rows_are;
          number_is = c.number_is;
          apart = f.apart;
        };
        matches = record {
          long = needs_long sizes f.region.roots contents rows parts.long f.records;
          superblock = parts.front;
          used = here.used;
          end = here.end;
          other = second.0;
          records = subst (λ (roots : List ℕ). AllByRecursion (HoldsRow sizes roots) rows)
              (sym parts.behind) f.records;
        };
      },
      refl,
    )

-- the head of the half that counts
abbrev pub counted_head : {sizes : Sizes} {zero one : List ℕ} {rows : List BareRow} {n : ℕ}
    → Counts sizes zero one rows n ⊎ Counts sizes one zero rows n → HalfHead
counted_head (inl c) = c.half.head
counted_head (inr c) = c.half.head

-- the framing has this head
pub matched_head : (sizes : Sizes) (contents : List ℕ) (rows : List (Row (List ℕ))) (n : ℕ)
    (f : Frames sizes contents rows n)
    → (m : IsFramed sizes contents rows n) × (m.framing.head ≡ counted_head f.counts)
matched_head sizes contents rows n f =
    by_half f.counts
  where
    parts : Lies sizes contents f.region.half_0 f.region.half_1 f.region.roots
    parts = lies sizes contents f.region f.bytes f.half_0 f.half_1

    by_half : (c : Counts sizes f.region.half_0 f.region.half_1 (bare rows) n
        ⊎ Counts sizes f.region.half_1 f.region.half_0 (bare rows) n)
        → (m : IsFramed sizes contents rows n) × (m.framing.head ≡ counted_head c)
    by_half (inl c) =
        matched sizes contents rows n f Zero f.region.half_0 f.region.half_1
        (f.region.half_1 ++ f.region.roots) f.region.roots parts c parts.zero f.half_0
        parts.one f.half_1
    by_half (inr c) =
        matched sizes contents rows n f One f.region.half_1 f.region.half_0 f.region.roots
        (f.region.half_1 ++ f.region.roots) parts c parts.one f.half_1 parts.zero f.half_0

pub frames_are_matched : FramesAreMatched
frames_are_matched sizes contents rows n f = (matched_head sizes contents rows n f).0

-- ---- to frames

region_of : Sizes → List ℕ → Region
region_of sizes contents = record {
  half_0 = part superblock_size (half_size sizes) contents;
  half_1 = part (superblock_size + half_size sizes) (half_size sizes) contents;
  roots = drop (roots_at sizes) contents;
}

joined_parts : (sizes : Sizes) (contents : List ℕ) → take superblock_size contents
    ≡ superblock_bytes sizes
    → contents ≡ region_bytes sizes (region_of sizes contents)
unfolding region_of
joined_parts sizes contents front =
    let half = half_size sizes in
    let one = drop superblock_size contents in
    let two = drop (superblock_size + half) contents in
    let second : drop half one ≡ two =
    drop-drop half superblock_size contents ∙ ap (λ (n : ℕ). drop n contents) (omega arith) in
    let third : drop half two ≡ drop (roots_at sizes) contents =
    drop-drop half (superblock_size + half) contents
    ∙ ap (λ (n : ℕ). drop n contents) (omega arith) in
    sym (take-append-drop superblock_size contents)
    ∙ (ap (λ (l : List ℕ). l ++ one) front
    ∙ ap (λ (l : List ℕ). superblock_bytes sizes ++ l)
    (sym (take-append-drop half one)
    ∙ (ap (λ (l : List ℕ). take half one ++ l) second
    ∙ ap (λ (l : List ℕ). take half one ++ l)
    (sym (take-append-drop half two) ∙ ap (λ (l : List ℕ). take half two ++ l) third))))

part_long : (at count : ℕ) (contents : List ℕ) → at + count ≤ length contents
    → length (part at count contents) ≡ count
part_long at count contents long =
    omega (arith, length-take count (drop at contents), length-drop at contents, long)

end_from : (bytes : List ℕ) → (0 < length bytes → get_or bytes 0 0 ≢ open_gate) → IsEnd bytes
end_from [] h = tt
end_from (b ∷ bytes) h = h (omega arith)

-- the half that counts, from what matches
pub half_back : (sizes : Sizes) (f : Framing) (at : ℕ) (contents : List ℕ)
    → at + half_size sizes ≤ length contents → used_size f ≤ half_size sizes
    → part at (used_size f) contents ≡ used_bytes f
    → (used_size f < half_size sizes → get_or contents (at + used_size f) 0 ≢ open_gate)
    → (behind : List ℕ) × (part at (half_size sizes) contents ≡ used_bytes f ++ behind)
    × IsEnd behind
half_back sizes f at contents long fits used end =
    let half = part at (half_size sizes) contents in
    let behind = drop (used_size f) half in
    let front : take (used_size f) half ≡ used_bytes f =
    take-take (used_size f) (half_size sizes) (drop at contents) fits ∙ used in (
      behind,
      sym (take-append-drop (used_size f) half) ∙ ap (λ (l : List ℕ). l ++ behind) front,
      end_from behind (λ some.
          let goes_on : used_size f < half_size sizes =
          omega (
            arith,
            some,
            length-drop (used_size f) half,
            part_long at (half_size sizes) contents long,
          ) in
          let byte : get_or behind 0 0 ≡ get_or contents (at + used_size f) 0 =
          get_or-drop (used_size f) half 0 0
          ∙ (get_or-take (half_size sizes) (drop at contents) (used_size f + 0) 0
          (omega (arith, goes_on))
          ∙ (get_or-drop at contents (used_size f + 0) 0
          ∙ ap (λ (i : ℕ). get_or contents i 0) (omega arith))) in
          λ is_open. end goes_on (sym byte ∙ is_open)),
    )

older_back : (sizes : Sizes) (epoch at : ℕ) (older : Option HalfHead) (contents : List ℕ)
    → slot_size ≤ half_size sizes → HasOlder at older contents → IsRightOlder sizes epoch older
    → IsOlder sizes epoch (part at (half_size sizes) contents)
older_back sizes epoch at None contents some shut right =
    inl (end_from (part at (half_size sizes) contents) (λ there.
    let byte : get_or (part at (half_size sizes) contents) 0 0 ≡ get_or contents at 0 =
    get_or-take (half_size sizes) (drop at contents) 0 0 (omega (arith, some))
    ∙ (get_or-drop at contents 0 0 ∙ ap (λ (i : ℕ). get_or contents i 0) (omega arith)) in
    λ is_open. shut (sym byte ∙ is_open)))
older_back sizes epoch at (Some head) contents some there right =
    let half = part at (half_size sizes) contents in
    let front : take slot_size half ≡ half_head_slot head =
    take-take slot_size (half_size sizes) (drop at contents) some ∙ there in
    inr (
      head,
      drop slot_size half,
      sym (take-append-drop slot_size half) ∙ ap (λ (l : List ℕ). l ++ drop slot_size half) front,
      right.0,
      right.1,
    )

pub needs_roots : (sizes : Sizes) (rows : List (Row (List ℕ))) → roots_at sizes ≤ needs sizes rows
needs_roots sizes [] = omega arith
needs_roots sizes (Loader r ∷ rows) = needs_roots sizes rows
needs_roots sizes (Class r words ∷ rows) = let rest = needs_roots sizes rows in omega (arith, rest)

counts_back : (sizes : Sizes) (f : Framing) (rows : List (Row (List ℕ))) (n : ℕ)
    (half other : List ℕ) → IsRightFraming sizes f rows n
    → (behind : List ℕ) × (half ≡ used_bytes f ++ behind) × IsEnd behind
    → IsOlder sizes f.head.epoch other → Counts sizes half other (bare rows) n
unfolding framing_of
counts_back sizes f rows n half other right split older =
    let h : OpenHalf =
    record { head = f.head; live = f.live; groups = f.groups; behind = split.0 } in
    record {
      half = h;
      bytes = split.1 ∙ sym (half_split f.counting h f.older);
      good = record {
        head = right.good.head;
        count = right.good.count;
        live = right.good.live;
        live_version = right.good.live_version;
        groups = right.good.groups;
        groups_version = right.good.groups_version;
        end = split.2;
      };
      older = older;
      rows_are = right.rows_are;
      number_is = right.number_is;
    }

pub matches_frame : MatchesFrame
unfolding region_of
matches_frame sizes contents rows n framed =
    record {
      lawful = right.lawful;
      region = region_of sizes contents;
      bytes = joined_parts sizes contents m.superblock;
      half_0 = part_long superblock_size (half_size sizes) contents (omega (arith, long));
      half_1 = part_long (superblock_size + half_size sizes) (half_size sizes) contents
          (omega (arith, long));
      counts = by_half framed.framing right m;
      records = m.records;
      apart = right.apart;
    }
  where
    right : IsRightFraming sizes framed.framing rows n
    right = framed.right

    m : Matches sizes framed.framing rows contents
    m = framed.matches

    long : roots_at sizes ≤ length contents
    long = omega (arith, needs_roots sizes rows, m.long)

    slots : slot_size ≤ half_size sizes
    slots = omega (arith, right.lawful.slots_from)

    by_half : (f : Framing) → IsRightFraming sizes f rows n → Matches sizes f rows contents
        → Counts sizes (part superblock_size (half_size sizes) contents)
        (part (superblock_size + half_size sizes) (half_size sizes) contents) (bare rows) n
        ⊎ Counts sizes (part (superblock_size + half_size sizes) (half_size sizes) contents)
        (part superblock_size (half_size sizes) contents) (bare rows) n
    by_half f r k = by_counting f.counting refl
      where
        by_counting : (h : Half) → f.counting ≡ h
            → Counts sizes (part superblock_size (half_size sizes) contents)
            (part (superblock_size + half_size sizes) (half_size sizes) contents) (bare rows) n
            ⊎ Counts sizes (part (superblock_size + half_size sizes) (half_size sizes) contents)
            (part superblock_size (half_size sizes) contents) (bare rows) n
        by_counting Zero is =
            inl (counts_back sizes f rows n (part superblock_size (half_size sizes) contents)
            (part (superblock_size + half_size sizes) (half_size sizes) contents) r
            (half_back sizes f superblock_size contents (omega (arith, long)) r.fits
            (subst (λ (h : Half). part (half_at sizes h) (used_size f) contents
            ≡ used_bytes f) is k.used)
            (subst (λ (h : Half). used_size f < half_size sizes
            → get_or contents (half_at sizes h + used_size f) 0 ≢ open_gate) is k.end))
            (older_back sizes f.head.epoch (superblock_size + half_size sizes) f.older
            contents slots
            (subst (λ (h : Half). HasOlder (half_at sizes (other_half h)) f.older contents)
            is k.other)
            r.older))
        by_counting One is =
            inr (counts_back sizes f rows n
            (part (superblock_size + half_size sizes) (half_size sizes) contents)
            (part superblock_size (half_size sizes) contents) r
            (half_back sizes f (superblock_size + half_size sizes) contents
            (omega (arith, long)) r.fits
            (subst (λ (h : Half). part (half_at sizes h) (used_size f) contents
            ≡ used_bytes f) is k.used)
            (subst (λ (h : Half). used_size f < half_size sizes
            → get_or contents (half_at sizes h + used_size f) 0 ≢ open_gate) is k.end))
            (older_back sizes f.head.epoch superblock_size f.older contents slots
            (subst (λ (h : Half). HasOlder (half_at sizes (other_half h)) f.older contents)
            is k.other)
            r.older))
