use Rattle.std.proofs.Common.{◌≡◌, ◌++◌, ◌∷◌, [], arith, sym, ◌∙◌, ap, ℕ, ◌+◌, true, false, List}
use Rattle.std.proofs.Common.{get_or}
use Rattle.cm_disk.specs.Chosen.{is_loose}
use Rattle.cm_disk.specs.Medium.{medium_unsynced}
use Rattle.cm_disk.proofs.Choices.{size_more, chosen_loose, chosen_closed, loose_more, loose_same}
use Rattle.cm_disk.proofs.Choices.{loose_few}
use Rattle.cm_disk.proofs.medium.Medium.image.Goals as goal
use Rattle.cm_disk.proofs.medium.Medium.image.Goals.{then-is_loose+in_ok-push}
use Rattle.cm_disk.proofs.medium.Medium.image.Goals.{else-is_loose+in_ok-push-2}

pub overflow_add-filled : goal.overflow_add-filled
overflow_add-filled c =
    omega (
      arith,
      c.loop-at.invariant.filled,
      loose_few (medium_unsynced c.args.self.now) c.loop-at.at,
    )

pub loop-at-preserved : goal.loop-at-preserved
loop-at-preserved c =
    let u = medium_unsynced c.args.self.now in
    let contents = c.args.self.now.bytes.items in
    let fill = c.args.choice.now.fill.items in
    let image = c.loop-at.image.items in
    let now : c.byte_or-now.result ≡ get_or contents c.loop-at.at 0 =
    c.byte_or-now.ensures ∙ ap (λ (xs : List ℕ). get_or xs c.loop-at.at 0) c.deref.ensures.value in
    elim c.if-is_loose.branch [
      | then-is_loose+in_ok-push w ↦
          let e : c.if-is_loose.image.items ≡ image ++ w.byte_or.result ∷ [] =
          ap (λ (v : _). v.items) w.image-is ∙ w.in_ok-push.ensures.items in
          let loose : is_loose u c.loop-at.at ≡ true =
          sym c.is_loose.ensures ∙ w.if-is_loose.true in
          record {
            size = size_more contents u fill image c.if-is_loose.image.items c.loop-at.at
                c.byte_or-now.result c.loop-at.invariant.size c.loop-at.invariant.bytes
                now w.byte_or.result e;
            filled = w.filled-is ∙ ap (λ (n : ℕ). n + 1) c.loop-at.invariant.filled
                ∙ sym (loose_more u c.loop-at.at loose);
            bytes = chosen_loose contents u fill image c.if-is_loose.image.items c.loop-at.at
                c.byte_or-now.result c.loop-at.invariant.size c.loop-at.invariant.bytes
                now c.loop-at.filled c.loop-at.invariant.filled loose
                (e ∙ ap (λ (b : ℕ). image ++ b ∷ []) (w.byte_or.ensures
                ∙ ap (λ (xs : List ℕ). get_or xs c.loop-at.filled c.byte_or-now.result)
                w.deref-then-is_loose.ensures.value));
          }
      | else-is_loose+in_ok-push-2 w ↦
          let e : c.if-is_loose.image.items ≡ image ++ c.byte_or-now.result ∷ [] =
          ap (λ (v : _). v.items) w.image-is ∙ w.in_ok-push-2.ensures.items in
          let closed : is_loose u c.loop-at.at ≡ false =
          sym c.is_loose.ensures ∙ w.if-is_loose.false in
          record {
            size = size_more contents u fill image c.if-is_loose.image.items c.loop-at.at
                c.byte_or-now.result c.loop-at.invariant.size c.loop-at.invariant.bytes
                now c.byte_or-now.result e;
            filled = w.filled-is ∙ c.loop-at.invariant.filled
                ∙ sym (loose_same u c.loop-at.at closed);
            bytes = chosen_closed contents u fill image c.if-is_loose.image.items c.loop-at.at
                c.byte_or-now.result c.loop-at.invariant.size c.loop-at.invariant.bytes
                now closed e;
          }
    ]
