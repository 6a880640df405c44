-- Chunks and blocks of the same words, in numbers.
-- For `Block::first`, `Block::of_chunk`, `Block::to_chunk`.
use Rattle.std.proofs.Common.{◌≡◌, ℕ, ◌+◌, ◌-◌, ◌*◌, ◌/◌, ◌%◌, ◌^◌, ◌<◌, ◌≤◌, refl, ap, ◌∙◌, arith}
use Rattle.std.proofs.lemmas.Nat.{pow_pos, pow-add, shl-shr, mul-le}
use Rattle.std.proofs.Math.Nat.{pow-le-pow_right, mod-eq_of_lt, mul-le-mul_left, mul-le-mul_right}
use Rattle.std.proofs.Math.Nat.{div-add-mod, mod-lt, mul-mod_left, div-lt_iff_lt-mul}
use Rattle.std.proofs.Math.Nat.{lt_of_mul-lt-mul_right}
use Rattle.cm_pool.specs.declared.block.Block.{Block}
use Rattle.cm_pool.specs.declared.chunk.Chunk.{Chunk}
use Rattle.cm_pool.specs.Chunks.{chunk_size, IsBlock}
use Rattle.cm_pool.specs.FreeSpace.{word_number}
use Rattle.cm_pool.specs.Blocks.{start, stop, IsSame, Inside}

pub split : (t o : ℕ) → o ≤ t → 2 ^ t ≡ 2 ^ (t - o) * 2 ^ o
split t o le = let e : t ≡ (t - o) + o = omega arith in ap (λ k. 2 ^ k) e ∙ pow-add 2 (t - o) o

small : (k : ℕ) → k ≤ 12 → 2 ^ k ≤ 4096
small k le = let h : 2 ^ k ≤ 2 ^ 12 = pow-le-pow_right {n = 2} (omega arith) le in omega arith

-- the first block of an order
pub first-fits : (b : Block) (o : ℕ) → o ≤ b.order → start b < 2 ^ 20
    → b.index * 2 ^ (b.order - o) % 2 ^ 32 ≡ b.index * 2 ^ (b.order - o)
first-fits b o le low =
    let whole : start b ≡ b.index * (2 ^ (b.order - o) * 2 ^ o) = ap
    (λ s. b.index * s) (split b.order o le) in
    let part : b.index * 2 ^ (b.order - o) * 1 ≤ b.index * 2 ^ (b.order - o) * 2 ^ o =
    mul-le-mul_left (b.index * 2 ^ (b.order - o)) (pow_pos o) in
    mod-eq_of_lt (omega arith)

pub first-start : (b : Block) (o : ℕ) → o ≤ b.order → b.index * 2 ^ (b.order - o) * 2 ^ o ≡ start b
first-start b o le = omega (arith, ap (λ s. b.index * s) (split b.order o le))

pub first-inside : (b : Block) (o : ℕ) → o ≤ b.order
    → Inside (record { index = b.index * 2 ^ (b.order - o); order = o }) b
first-inside b o le = record { smaller = le; same_part = shl-shr b.index (b.order - o) }

-- the block of a chunk
pub root-fits : (root t o : ℕ) → root < 256 → t ≤ 12 → root * 2 ^ (t - o) ≤ 255 * 4096
root-fits root t o lt le =
    mul-le root (2 ^ (t - o)) 255 4096 (omega arith) (small (t - o) (omega arith))

pub chunk-place : (t : ℕ) (c : Chunk) → c.order ≤ t → c.at % chunk_size c.order ≡ 0
    → (c.root * 2 ^ (t - c.order) + c.at / chunk_size c.order) * chunk_size c.order
    ≡ word_number t c.root c.at
chunk-place t c le aligned =
    let whole = ap (λ s. c.root * (128 * s)) (split t c.order le) in
    let at : chunk_size c.order * (c.at / chunk_size c.order) + c.at % chunk_size c.order ≡ c.at =
    div-add-mod c.at (chunk_size c.order) in
    omega (arith, whole, at, aligned)

-- the chunk of a block
pub in_root-fits : (i t o : ℕ) → o ≤ t → t ≤ 12 → i % 2 ^ (t - o) * (128 * 2 ^ o) < 2 ^ 32
in_root-fits i t o le top =
    let rest : i % 2 ^ (t - o) < 2 ^ (t - o) = mod-lt i (pow_pos (t - o)) in
    let more : i % 2 ^ (t - o) * 2 ^ o ≤ 4096 * 4096 =
    mul-le (i % 2 ^ (t - o)) (2 ^ o) 4096 4096 (omega (arith, small (t - o) (omega arith)))
    (small o (omega arith)) in
    omega arith

abbrev pub chunk_at : ℕ → Block → Chunk
chunk_at t b =
    record {
      root = b.index / 2 ^ (t - b.order);
      order = b.order;
      at = b.index % 2 ^ (t - b.order) * (128 * 2 ^ b.order);
    }

pub chunk_at-same : (t : ℕ) (b : Block) → b.order ≤ t → IsSame t (chunk_at t b) b
chunk_at-same t b le =
    let d = 2 ^ (t - b.order) in
    let whole : 2 ^ t ≡ d * 2 ^ b.order = split t b.order le in
    let index : d * (b.index / d) + b.index % d ≡ b.index = div-add-mod b.index d in
    record {
      order = refl;
      place = omega (
        arith,
        ap (λ s. b.index / d * (128 * s)) whole,
        ap
            (λ i. i * (128 * 2 ^ b.order)) index,
      );
    }

pub chunk_at-block : (t : ℕ) (b : Block) (roots : ℕ) → b.order ≤ t → stop b ≤ roots * 2 ^ t
    → IsBlock t roots (chunk_at t b)
chunk_at-block t b roots le within =
    let d = 2 ^ (t - b.order) in
    let whole : 2 ^ t ≡ d * 2 ^ b.order = split t b.order le in
    let rest : b.index % d < d = mod-lt b.index (pow_pos (t - b.order)) in
    let below : b.index * 2 ^ b.order < roots * d * 2 ^ b.order = omega (
      arith,
      ap
          (λ s. roots * s) whole,
      pow_pos b.order,
    ) in
    let room : (b.index % d + 1) * 2 ^ b.order ≤ d * 2 ^ b.order =
    mul-le-mul_right (2 ^ b.order) (omega arith) in
    record {
      within_top = le;
      in_a_root =
          (div-lt_iff_lt-mul (pow_pos (t - b.order))).1
          (lt_of_mul-lt-mul_right (2 ^ b.order) below);
      aligned = mul-mod_left (b.index % d) (128 * 2 ^ b.order);
      inside = omega (arith, whole, room);
    }
