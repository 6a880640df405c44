-- Which words are free after a number is learnt.
-- On `LearningFreesDue`.
use Rattle.std.proofs.Common.{◌≡◌, ℕ, ◌≤◌, Bool, true, false, cond, List, [], ◌∷◌, ◌++◌, refl, sym}
use Rattle.std.proofs.Common.{ap, ◌∙◌, subst, inl, inr, ◌⊎◌, ◌↔◌}
use Rattle.std.specs.Prelude.{nat_le}
use Rattle.cm_pool.specs.declared.chunk.Chunk.{Chunk}
use Rattle.cm_pool.specs.Chunks.{Covers}
use Rattle.cm_pool.specs.FreeSpace.{FreeSpace, IsFreeWord, with_chunk}
use Rattle.cm_pool.specs.Held.{AreHeld, IsHeldWord}
use Rattle.cm_pool.specs.Lists.{Among}
use Rattle.cm_pool.proofs.{free-with_chunk}
use Rattle.cm_pool.proofs.SpaceLaws.{held_is_given}
use Rattle.cm_space.specs.Space.{WaitingChunks, with_chunks, waiting_chunks, due, not_due}
use Rattle.cm_space.specs.Laws.{LearningFreesDue}
use Rattle.cm_space.proofs.Giving.{due-parts, chunks-append, is_due-true}
use Rattle.cm_space.proofs.Spaces.{waiting-held}
use Rattle.cm_space.proofs.Owners.{waits-among, among-waits}

-- the words of freed chunks are free, and every other word is as before
free-given : (p : FreeSpace) (cs back : List Chunk) (root word : ℕ) → AreHeld p (cs ++ back)
    → IsFreeWord (with_chunks p cs) root word ↔ (IsFreeWord p root word ⊎ IsHeldWord cs root word)
free-given p [] back root word h =
    (λ f. inl f, λ e. elim e [ inl f ↦ f | inr held ↦ absurd held.1 ])
free-given p (c ∷ cs) back root word h =
    let given = held_is_given p [] c (cs ++ back) h in
    let rest = free-given (with_chunk p c) cs back root word given.1 in
    let one = free-with_chunk p c root word given.0.block.inside in (
      λ f. elim (rest.0 f) [
        | inl g ↦ elim (one.0 g) [ inl was ↦ inl was | inr covers ↦ inr (c, inl refl, covers) ]
        | inr held ↦ inr (held.0, inr held.1, held.2)
      ],
      λ e. elim e [
        | inl was ↦ rest.1 (inl (one.1 (inl was)))
        | inr (d, m, covers) ↦ elim m [
          | inl same ↦ rest.1 (inl (one.1 (inr (subst (λ x. Covers x root word) same covers))))
          | inr behind ↦ rest.1 (inr (d, behind, covers))
        ]
      ],
    )

among-due : (n : ℕ) (ws : List WaitingChunks) (w : WaitingChunks) → Among w (due n ws)
    ↔ (Among w ws × (w.number ≤ n))
among-due n [] w = (λ m. absurd m, λ h. absurd h.0)
among-due n (v ∷ ws) w = by_test (nat_le v.number n) refl (among-due n ws w)
  where
    by_test : (t : Bool) → nat_le v.number n ≡ t
        → (Among w (due n ws) ↔ (Among w ws × (w.number ≤ n)))
        → (Among w (cond t (v ∷ due n ws) (due n ws)) ↔ (Among w (v ∷ ws) × (w.number ≤ n)))
    by_test true e rest = (
      λ m. elim m [
        | inl same ↦ (
          inl same,
          subst (λ (u : WaitingChunks). u.number ≤ n) (sym same)
              ((is_due-true n v.number).0 e),
        )
        | inr behind ↦ let h = rest.0 behind in (inr h.0, h.1)
      ],
      λ h. elim h.0 [ inl same ↦ inl same | inr behind ↦ inr (rest.1 (behind, h.1)) ],
    )
    by_test false e rest = (
      λ m. let h = rest.0 m in (inr h.0, h.1),
      λ h. elim h.0 [
        | inl same ↦ let bad =
            (is_due-true n v.number).1 (subst (λ (u : WaitingChunks). u.number ≤ n) same h.1) in
            absurd (cc)
        | inr behind ↦ rest.1 (behind, h.1)
      ],
    )

pub frees_due : LearningFreesDue
frees_due s h n root word =
    let gone = waiting_chunks (due n s.waiting) in
    let stay = waiting_chunks (not_due n s.waiting) in
    let parts : waiting_chunks s.waiting ≡ gone ++ stay =
    ap waiting_chunks (due-parts n s.waiting h.rises)
    ∙ chunks-append (due n s.waiting) (not_due n s.waiting) in
    let held = subst (λ (cs : List Chunk). AreHeld s.pool cs) parts (waiting-held s h) in
    let is = free-given s.pool gone stay root word held in (
      λ f. elim (is.0 f) [
        | inl was ↦ inl was
        | inr (c, m, covers) ↦
            let found = among-waits (due n s.waiting) c m in
            let w = (among-due n s.waiting found.0).0 found.1 in
            inr (found.0.number, c, w.1, (found.0, w.0, refl, found.2), covers)
      ],
      λ e. elim e [
        | inl was ↦ is.1 (inl was)
        | inr (number, c, small, (w, m, same, within), covers) ↦
            let among = (among-due n s.waiting w).1 (m, subst (λ k. k ≤ n) (sym same) small) in
            is.1 (inr (c, waits-among (due n s.waiting) w c among within, covers))
      ],
    )
