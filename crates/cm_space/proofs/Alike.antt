-- Lists of chunks that can replace each other when held, as the order of chunks makes no
-- difference.
-- For `Space::add_loader`, `Space::adopt`, `Space::chunks` and others.
use Rattle.std.proofs.Common.{◌≡◌, List, ◌++◌, sym, subst, inl, inr, append_assoc}
use Rattle.cm_pool.specs.declared.chunk.Chunk.{Chunk}
use Rattle.cm_pool.specs.Chunks.{Meets}
use Rattle.cm_pool.specs.FreeSpace.{FreeSpace, IsUsedChunk}
use Rattle.cm_pool.specs.Held.{AreHeld, NoneIsLost}
use Rattle.cm_pool.proofs.{meets-turned}
use Rattle.cm_space.proofs.Lists.{each-trade, pairs-trade, among-trade}

-- whatever comes before: if the ones are held and no word is lost, the same holds with the others
pub record IsAlike (xs ys : List Chunk) : Type 0 where
  pub held : (p : FreeSpace) (front : List Chunk) → AreHeld p (front ++ xs)
      → AreHeld p (front ++ ys)
  pub kept : (p : FreeSpace) (front : List Chunk) → NoneIsLost p (front ++ xs)
      → NoneIsLost p (front ++ ys)

pub alike-same : (xs ys : List Chunk) → xs ≡ ys → IsAlike xs ys
alike-same xs ys e = record {
  held = λ p front h. subst (λ (cs : List Chunk). AreHeld p (front ++ cs)) e h;
  kept = λ p front h. subst (λ (cs : List Chunk). NoneIsLost p (front ++ cs)) e h;
}

pub alike-then : (xs ys zs : List Chunk) → IsAlike xs ys → IsAlike ys zs → IsAlike xs zs
alike-then xs ys zs a b = record {
  held = λ p front h. b.held p front (a.held p front h);
  kept = λ p front h. b.kept p front (a.kept p front h);
}

pub alike-trade : (a b c : List Chunk) → IsAlike (a ++ (b ++ c)) (b ++ (a ++ c))
alike-trade a b c = record {
  held = λ p front h. record {
    each = each-trade (IsUsedChunk p) front a b c h.each;
    apart = pairs-trade (λ x y. ¬ Meets x y) (λ x y far m. far (meets-turned y x m)) front a
        b c h.apart;
  };
  kept = λ p front h. record {
    each = λ root word present within.
        elim (h.each root word present within) [
          | inl free ↦ inl free
          | inr held ↦ inr (held.0, among-trade held.0 front a b c held.1, held.2)
        ];
  };
}

-- after the same chunks
pub alike-behind : (a xs ys : List Chunk) → IsAlike xs ys → IsAlike (a ++ xs) (a ++ ys)
alike-behind a xs ys h = record {
  held = λ p front was.
      subst (λ (cs : List Chunk). AreHeld p cs) (append_assoc front a ys)
      (h.held p (front ++ a) (subst (λ (cs : List Chunk). AreHeld p cs)
      (sym (append_assoc front a xs)) was));
  kept = λ p front was.
      subst (λ (cs : List Chunk). NoneIsLost p cs) (append_assoc front a ys)
      (h.kept p (front ++ a) (subst (λ (cs : List Chunk). NoneIsLost p cs)
      (sym (append_assoc front a xs)) was));
}
