-- A new file stands for the empty cache, and its gate makes it one.
-- For `NewFile::new`, `NewFile::store`, `NewFile::write_gate` and others.
use Rattle.std.proofs.Common.{◌≡◌, ℕ, zero, suc, ◌+◌, ◌-◌, ◌<◌, List, [], ◌∷◌, ◌++◌}
use Rattle.std.proofs.Common.{length, get_or, refl, sym, ap, subst, ◌∙◌, arith, inl, inr}
use Rattle.std.proofs.Common.{append_assoc}
use Rattle.std.proofs.Common.{append-nil, take, replicate}
use Rattle.std.proofs.Math.ListN.{set}
use Rattle.std.proofs.lemmas.Bool.{cases_eq}
use Rattle.std.proofs.lemmas.List.{length-append, length-set, get_or-set_same, get_or-set_other}
use Rattle.std.proofs.lemmas.List.{ext_get_or, get_or_append_left, get_or-append_right}
use Rattle.std.proofs.lemmas.List.{replicate-append-replicate, set-get_or}
use Rattle.std.proofs.lemmas.List.{take_all}
use Rattle.cm_pool.specs.Geometry.{Sizes, IsGeometry}
use Rattle.cm_layout.specs.Offsets.{half_size, roots_at}
use Rattle.cm_layout.specs.Slots.{half_head_slot}
use Rattle.cm_layout.specs.Superblock.{superblock_bytes, superblock_front, superblock_zeros}
use Rattle.cm_layout.specs.Frames.{Frames, IsEnd}
use Rattle.cm_layout.specs.declared.heads.HalfHead.{HalfHead}
use Rattle.cm_layout.proofs.{length-blank, matched_head}
use Rattle.cm_layout.specs.Zeros.{blank}
use Rattle.cm_guards.specs.Gates.{OneOf}
use Rattle.cm_recover.specs.NewFile.{first_head, new_bytes, shut_bytes, zeros_behind, IsNoCache}
use Rattle.cm_recover.specs.NewFile.{IsEmptyCache}
use Rattle.cm_recover.specs.Laws.{NewIsEmpty, NewIsNewest, GateTurns}
use Rattle.cm_recover.proofs.Shut.{shut_is_no_cache}

-- ---- zeros

blank-split : (a b : ℕ) → blank (a + b) ≡ blank a ++ blank b
unfolding blank
blank-split a b = sym (replicate-append-replicate a b 0)

shut_blank : (n : ℕ) → IsEnd (blank n)
unfolding blank
shut_blank zero = tt
shut_blank (suc n) = λ e. omega arith

-- ---- a new file

length-superblock : (sizes : Sizes) → length (superblock_bytes sizes) ≡ 4096
length-superblock sizes =
    omega (
      arith,
      length-append (superblock_front sizes) (blank superblock_zeros ++ 165 ∷ []),
      length-append (blank superblock_zeros) (165 ∷ []),
      length-blank superblock_zeros,
    )

pub length-new : (sizes : Sizes) → IsGeometry sizes → length (new_bytes sizes) ≡ roots_at sizes
unfolding new_bytes
length-new sizes g =
    let head = half_head_slot first_head in
    let all = length-append (superblock_bytes sizes) (head ++ blank (zeros_behind sizes)) in
    let rest = length-append head (blank (zeros_behind sizes)) in
    let zeros = length-blank (zeros_behind sizes) in
    omega (arith, all, rest, length-superblock sizes, zeros, g.slots_from)

-- the halves of a new file
half_0 : Sizes → List ℕ
half_0 sizes = half_head_slot first_head ++ blank (half_size sizes - 64)

halves : (sizes : Sizes) → IsGeometry sizes
    → half_head_slot first_head ++ blank (zeros_behind sizes)
    ≡ half_0 sizes ++ (blank (half_size sizes) ++ [])
unfolding half_0
halves sizes g =
    let head = half_head_slot first_head in
    let half = half_size sizes in
    let count : zeros_behind sizes ≡ (half - 64) + half = omega (arith, g.slots_from) in
    ap (λ (n : ℕ). head ++ blank n) count
    ∙ (ap (λ (l : List ℕ). head ++ l) (blank-split (half - 64) half)
    ∙ (sym (append_assoc head (blank (half - 64)) (blank half))
    ∙ ap (λ (l : List ℕ). (head ++ blank (half - 64)) ++ l) (sym (append-nil (blank half)))))

framed : (sizes : Sizes) → IsGeometry sizes → Frames sizes (new_bytes sizes) [] 0
unfolding half_0 new_bytes
framed sizes g = record {
  lawful = g;
  region = record { half_0 = half_0 sizes; half_1 = blank (half_size sizes); roots = [] };
  bytes = ap (λ (l : List ℕ). superblock_bytes sizes ++ l) (halves sizes g);
  half_0 =
      let all = length-append (half_head_slot first_head) (blank (half_size sizes - 64)) in
      omega (arith, all, length-blank (half_size sizes - 64), g.slots_from);
  half_1 = length-blank (half_size sizes);
  counts = inl (record {
    half = record {
      head = first_head;
      live = [];
      groups = [];
      behind = blank (half_size sizes - 64);
    };
    bytes = refl;
    good = record {
      head = record {
        fits = record {
          version = omega arith;
          live = omega arith;
          epoch = omega arith;
          base = omega arith;
        };
        version_from = omega arith;
        version_to = omega arith;
        live = omega arith;
        base = omega arith;
        epoch_from = omega arith;
        epoch_to = omega arith;
      };
      count = refl;
      live = tt;
      live_version = tt;
      groups = tt;
      groups_version = tt;
      end = shut_blank (half_size sizes - 64);
    };
    older = inl (shut_blank (half_size sizes));
    rows_are = refl;
    number_is = refl;
  });
  records = tt;
  apart = λ r s a b meets. absurd a;
}

pub new_is_empty : NewIsEmpty
new_is_empty sizes g = record {
  rows = [];
  framed = framed sizes g;
  kept = tt;
  differ = tt;
  state_is = refl;
  arenas_are = refl;
}

-- a new file's half is of the version that is written now
pub new_is_newest : NewIsNewest
unfolding framed
new_is_newest sizes g =
    let m = matched_head sizes (new_bytes sizes) [] 0 (framed sizes g) in
    record {
      sizes = sizes;
      rows = [];
      number = 0;
      framed = m.0;
      version = ap (λ (h : HalfHead). h.version) m.1;
    }

-- ---- its gate

gate_open : (sizes : Sizes) → get_or (new_bytes sizes) 4095 0 ≡ 165
unfolding new_bytes
gate_open sizes =
    let front = superblock_front sizes in
    let rest = half_head_slot first_head ++ blank (zeros_behind sizes) in
    get_or_append_left (superblock_bytes sizes) rest 0 4095
    (omega (arith, length-superblock sizes))
    ∙ (get_or-append_right front (blank superblock_zeros ++ 165 ∷ []) 24 4095 0 refl (omega arith)
    ∙ get_or-append_right (blank superblock_zeros) (165 ∷ []) 4071 4071 0
    (length-blank superblock_zeros) (omega arith))

-- setting a place twice
set_twice : (bytes : List ℕ) (at a b : ℕ) → at < length bytes
    → set (set bytes at a) at b ≡ set bytes at b
set_twice bytes at a b inside =
    let once = length-set bytes at a in
    let twice = length-set (set bytes at a) at b in
    let other = length-set bytes at b in
    ext_get_or 0 (set (set bytes at a) at b) (set bytes at b) (omega (arith, once, twice, other))
    (λ i lt. elim (cases_eq i at) [
      | inl here ↦
          subst (λ (k : ℕ). get_or (set (set bytes at a) at b) k 0 ≡ get_or (set bytes at b) k 0)
          (sym here)
          (get_or-set_same (set bytes at a) at b 0 (omega (arith, once, inside))
          ∙ sym (get_or-set_same bytes at b 0 inside))
      | inr away ↦
          get_or-set_other (set bytes at a) at i b 0 away
          ∙ (get_or-set_other bytes at i a 0 away ∙ sym (get_or-set_other bytes at i b 0 away))
    ])

pub gate_inside : (sizes : Sizes) → IsGeometry sizes → 4095 < length (new_bytes sizes)
gate_inside sizes g = omega (arith, length-new sizes g)

-- with the gate's byte the file is new
pub opened : (sizes : Sizes) → IsGeometry sizes → set (shut_bytes sizes) 4095 165 ≡ new_bytes sizes
opened sizes g =
    set_twice (new_bytes sizes) 4095 0 165 (gate_inside sizes g)
    ∙ (ap (set (new_bytes sizes) 4095) (sym (gate_open sizes))
    ∙ set-get_or (new_bytes sizes) 4095 0)

pub length-shut : (sizes : Sizes) → IsGeometry sizes → length (shut_bytes sizes) ≡ roots_at sizes
length-shut sizes g = length-set (new_bytes sizes) 4095 0 ∙ length-new sizes g

-- a file with this byte at its gate
either_byte : (sizes : Sizes) → IsGeometry sizes → (b : ℕ)
    → OneOf IsNoCache (IsEmptyCache sizes) (set (shut_bytes sizes) 4095 b)
either_byte sizes g b =
    elim (cases_eq b 165) [
      | inl open_byte ↦ record {
        which = inr (subst (IsEmptyCache sizes)
            (sym (ap (set (shut_bytes sizes) 4095) open_byte ∙ opened sizes g))
            (new_is_empty sizes g));
      }
      | inr other ↦ record {
        which = inl (shut_is_no_cache (set (shut_bytes sizes) 4095 b)
            (λ gate. other (sym (get_or-set_same (shut_bytes sizes) 4095 b 0
            (omega (arith, length-shut sizes g))) ∙ gate)));
      }
    ]

pub gate_turns : GateTurns
gate_turns sizes g = record {
  inside = omega (arith, length-shut sizes g);
  either = λ b small. either_byte sizes g b;
  last = subst (IsEmptyCache sizes) (sym (opened sizes g)) (new_is_empty sizes g);
}

-- before the gate is written, the file is no cache
pub shut_new : (sizes : Sizes) → IsGeometry sizes → IsNoCache (shut_bytes sizes)
shut_new sizes g =
    shut_is_no_cache (shut_bytes sizes)
    (λ gate. let zero : get_or (shut_bytes sizes) 4095 0 ≡ 0 =
    get_or-set_same (new_bytes sizes) 4095 0 0 (gate_inside sizes g) in
    omega (arith, sym zero ∙ gate))

-- ---- its bytes as they are built: the superblock, the head, then zeros

pub put_together : (sizes : Sizes) → IsGeometry sizes → (size n head_size : ℕ)
    (block front all : List ℕ)
    → block ≡ superblock_bytes sizes → front ≡ block ++ half_head_slot first_head
    → n ≡ length block + head_size → head_size ≡ length (half_head_slot first_head)
    → size ≡ roots_at sizes
    → all ≡ take size front ++ replicate (size - n) 0 → all ≡ new_bytes sizes
unfolding new_bytes blank
put_together sizes g size n head_size block front all block_is front_is count head_is end all_is =
    let head = half_head_slot first_head in
    let joined : front ≡ superblock_bytes sizes ++ head =
    front_is ∙ ap (λ (l : List ℕ). l ++ head) block_is in
    let long : length front ≡ 4160 =
    ap length joined ∙ omega (
      arith,
      length-append (superblock_bytes sizes) head,
      length-superblock sizes,
    ) in
    let block_long : length block ≡ 4096 = ap length block_is ∙ length-superblock sizes in
    let left : size - n ≡ zeros_behind sizes =
    omega (arith, count, head_is, end, block_long, g.slots_from) in
    all_is
    ∙ (ap (λ (l : List ℕ). l ++ replicate (size - n) 0)
    (take_all size front (omega (arith, end, long, g.slots_from)))
    ∙ ((λ i. joined i ++ replicate (left i) 0)
    ∙ append_assoc (superblock_bytes sizes) head (replicate (zeros_behind sizes) 0)))
