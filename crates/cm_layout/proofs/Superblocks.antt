-- A superblock is its front, zeros and a gate.
-- For `Superblock::decode`, `Superblock::encode`, `are_zeros` and others.
use Rattle.std.proofs.Common.{◌≡◌, ℕ, ◌-◌, List, [], ◌∷◌, ◌++◌, length, take, drop}
use Rattle.std.proofs.Common.{replicate, subst, refl, sym, ap, ◌∙◌, arith, append_assoc}
use Rattle.std.proofs.lemmas.List.{take-append-drop, length-replicate, get_or-replicate}
use Rattle.std.proofs.lemmas.List.{ext_get_or}
use Rattle.std.proofs.lemmas.List.Elements.{All-replicate}
use Rattle.std.specs.List.{All}
use Rattle.cm_pool.specs.Geometry.{Sizes}
use Rattle.cm_layout.specs.Superblock.{superblock_front, superblock_bytes}
use Rattle.cm_layout.specs.Zeros.{blank}

pub whole : (block front rest : List ℕ) (g : Sizes) → front ≡ take 24 block → rest ≡ drop 24 block
    → front ≡ superblock_front g → rest ≡ blank 4071 ++ 165 ∷ [] → block ≡ superblock_bytes g
whole block front rest g f r one two =
    sym (take-append-drop 24 block) ∙ (λ i. (sym f ∙ one) i ++ (sym r ∙ two) i)

pub parts : (block front rest : List ℕ) (g : Sizes) → front ≡ take 24 block → rest ≡ drop 24 block
    → block ≡ superblock_bytes g → (front ≡ superblock_front g) × (rest ≡ blank 4071 ++ 165 ∷ [])
parts block front rest g f r e = (f ∙ ap (take 24) e, r ∙ ap (drop 24) e)

pub zeros_of : (n : ℕ) (bytes : List ℕ) → length bytes ≡ n
    → All (λ b. b ≡ 0) bytes → bytes ≡ blank n
unfolding blank
zeros_of n bytes count each =
    ext_get_or 0 bytes (replicate n 0) (count ∙ sym (length-replicate n 0))
    (λ k lt. each k 0 lt ∙ sym (get_or-replicate n k 0 0 (omega (arith, lt, count))))

pub each_blank : (n : ℕ) (bytes : List ℕ) → bytes ≡ blank n → All (λ b. b ≡ 0) bytes
unfolding blank
each_blank n bytes e =
    subst (λ (t : List ℕ). All (λ b. b ≡ 0) t) (sym e) (All-replicate (λ b. b ≡ 0) n 0 refl)

pub length-blank : (n : ℕ) → length (blank n) ≡ n
unfolding blank
length-blank n = length-replicate n 0

-- its bytes as they are built: the front, filled up with zeros, and the gate
pub spelled : (g : Sizes) (n : ℕ) (bytes filled all : List ℕ) → bytes ≡ superblock_front g → n ≡ 24
    → filled ≡ take 4095 bytes ++ replicate (4095 - n) 0 → all ≡ filled ++ 165 ∷ []
    → all ≡ superblock_bytes g
unfolding blank
spelled g n bytes filled all b count f a =
    let up : filled ≡ superblock_front g ++ replicate 4071 0 =
    f ∙ (λ i. take 4095 (b i) ++ replicate (4095 - count i) 0) in
    a ∙ ap (λ (t : List ℕ). t ++ 165 ∷ []) up
    ∙ append_assoc (superblock_front g) (replicate 4071 0) (165 ∷ [])
