use Rattle.std.proofs.Common.{◌≡◌, ◌+◌, ◌++◌, ◌∷◌, [], ℕ, length, refl, subst, ◌∙◌, arith}
use Rattle.std.specs.Arc.{arc_value}
use Rattle.std.proofs.lemmas.List.{length-append}
use Rattle.std.proofs.lemmas.Iterator.Adapters.{YieldsList-from_vec}
use Rattle.std.proofs.lemmas.Iterator.Consumers.{YieldsList-turn}
use Rattle.cm_commit.proofs.Filled.{AreFilled, one_filled}
use Rattle.cm_commit.proofs.applying.fill_all.Goals as goal

pub loop-carried-init : goal.loop-carried-init
loop-carried-init c = record {
  sizes = refl;
  number_is = omega arith;
  above = c.requires.above;
  kept = c.requires.kept;
  rows = refl;
}

pub apply-kept-requires : goal.apply-kept-requires
apply-kept-requires c = c.loop-carried.invariant.above

pub loop-carried-preserved : goal.loop-carried-preserved
loop-carried-preserved c =
    let b = c.into_iter-carried-iterator.ensures.into_iter_gives in
    let yielded = c.loop-carried.yielded in
    let t = YieldsList-turn
    (YieldsList-from_vec {s = c.into_iter-carried-iterator.result} c.args.entries.items b.0
    (b.1 ∙ c.args.entries.ok.0)) yielded c.loop-carried.carried-iterator
    c.loop-carried.yielded_by c.next.result c.next.new.self c.in-Some.carried c.in-Some.is
    c.next.ensures.steps in
    let one_more : length yielded + 1 ≡ length (yielded ++ c.in-Some.carried ∷ []) =
    omega (arith, length-append yielded (c.in-Some.carried ∷ [])) in
    subst (λ (k : ℕ). AreFilled arc_value c.args.book.now c.args.first c.args.entries.items
    c.apply-kept.new.self (c.loop-carried.number + 1) k) one_more
    (one_filled arc_value c.args.book.now c.args.first c.args.entries.items c.loop-carried.book
    c.loop-carried.number (length yielded) c.in-Some.carried c.into_entry.result c.apply-kept.result
    c.apply-kept.new.self c.requires.from c.loop-carried.invariant t.0 t.1 c.into_entry.ensures
    c.apply-kept.ensures.broken c.apply-kept.ensures.left)
