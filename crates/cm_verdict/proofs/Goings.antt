-- The walk, one turn after another.
-- For `HalfWalk::walk_all`.
use Rattle.std.proofs.Common.{◌≡◌, ℕ, suc, ◌+◌, ◌-◌, ◌<◌, ◌≤◌, Bool, cond, List, Ok}
use Rattle.std.proofs.Common.{Err, sym, ap, ◌∙◌, arith}
use Rattle.std.specs.Prelude.{Result}
use Rattle.std.proofs.lemmas.Bool.{lt-ltb, le-ltb}
use Rattle.cm_pool.specs.Geometry.{Sizes}
use Rattle.cm_verdict.specs.declared.fault.Damage.{Damage}
use Rattle.cm_verdict.specs.declared.fault.FileFault.{FileFault}
use Rattle.cm_verdict.specs.declared.fault.FileFault.TheVariants.{Damaged}
use Rattle.cm_verdict.specs.Walk.{Walked, Turn, Stop, Go, Bad, turn, from_slot, on_turn, walk}

-- the walk after a turn, with this many turns left
abbrev after_turn : Sizes → ℕ → List ℕ → ℕ → Walked → Turn → Result Walked FileFault
after_turn sizes first half turns w t =
    on_turn (first + w.slot) w (λ next. walk sizes first half turns next) t

next_first : (sizes : Sizes) (first : ℕ) (half : List ℕ) (all at : ℕ) (w : Walked) (t : Turn)
    → at < all → w.slot < sizes.slots → turn sizes first w (from_slot half w.slot) ≡ t
    → walk sizes first half (all - at) w ≡ after_turn sizes first half (all - (at + 1)) w t
unfolding walk
next_first sizes first half all at w t lt inside says =
    let more : all - at ≡ suc (all - (at + 1)) = omega arith in
    let turned = turn sizes first w (from_slot half w.slot) in
    ap (λ (n : ℕ). walk sizes first half n w) more
    ∙ (ap (λ (b : Bool). cond b (after_turn sizes first half (all - (at + 1)) w turned) (Ok w))
    (lt-ltb w.slot sizes.slots inside)
    ∙ ap (after_turn sizes first half (all - (at + 1)) w) says)

module _ (sizes : Sizes) (first : ℕ) (half : List ℕ) (all at : ℕ) (w : Walked)
    (comes_to : Result Walked FileFault) where
  pub walk_on : at < all → w.slot < sizes.slots → walk sizes first half (all - at) w ≡ comes_to
      → (next : Walked) → turn sizes first w (from_slot half w.slot) ≡ Go next
      → walk sizes first half (all - (at + 1)) next ≡ comes_to
  walk_on lt inside same next says =
      sym (next_first sizes first half all at w (Go next) lt inside says) ∙ same

  pub walk_ends : at < all → w.slot < sizes.slots → walk sizes first half (all - at) w ≡ comes_to
      → turn sizes first w (from_slot half w.slot) ≡ Stop → comes_to ≡ Ok w
  walk_ends lt inside same says =
      sym same ∙ next_first sizes first half all at w Stop lt inside says

  pub walk_fails : at < all → w.slot < sizes.slots → walk sizes first half (all - at) w ≡ comes_to
      → (what : Damage) → turn sizes first w (from_slot half w.slot) ≡ Bad what
      → comes_to ≡ Err (Damaged what (first + w.slot))
  walk_fails lt inside same what says =
      sym same ∙ next_first sizes first half all at w (Bad what) lt inside says

  pub walk_is_through : at < all → sizes.slots ≤ w.slot
      → walk sizes first half (all - at) w ≡ comes_to → comes_to ≡ Ok w
  unfolding walk
  walk_is_through lt through same =
      let more : all - at ≡ suc (all - (at + 1)) = omega arith in
      let turned = turn sizes first w (from_slot half w.slot) in
      sym same
      ∙ (ap (λ (n : ℕ). walk sizes first half n w) more
      ∙ ap (λ (b : Bool). cond b (after_turn sizes first half (all - (at + 1)) w turned) (Ok w))
      (le-ltb w.slot sizes.slots through))

  pub walk_is_over : all ≤ at → walk sizes first half (all - at) w ≡ comes_to → comes_to ≡ Ok w
  unfolding walk
  walk_is_over le same =
      let none : all - at ≡ 0 = omega arith in
      sym same ∙ ap (λ (n : ℕ). walk sizes first half n w) none
