use Rattle.std.proofs.Common.{◌<◌, ◌≤◌, Bor, List, ℕ, map, length, take, eqb, rules}
use Rattle.std.proofs.Common.{arith}
use Rattle.std.proofs.Common.{[], ◌∷◌, ◌++◌, ap, ◌∙◌, tests, length-append}
use Rattle.std.proofs.lemmas.Grind.{common_steps}
use Rattle.std.proofs.lemmas.Iterator.{YieldsList-from_take}
use Rattle.std.proofs.lemmas.Iterator.Consumers.{YieldsList-at, YieldsList-turn, YieldsList-end}
use Rattle.std.proofs.lemmas.Iterator.Splits.{YieldsList-from_slice_split}
use Rattle.std.proofs.lemmas.List.{take_more_set}
use Rattle.std.specs.List.{slice_split}
use Rattle.cm_commands.specs.Names.{names_kept}
use Rattle.cm_commands.proofs.names.Names.from_words.Goals as goal
use Rattle.cm_commands.proofs.names.Names.from_words.Goals.{In-Some}

at_most : {A : Type 0} (n : ℕ) (xs : List A) → length (take n xs) ≤ n
at_most n xs = grind (arith, common_steps)

below : (c : In-Some) → c.loop-word.count < names_kept
below c =
    let turn = YieldsList-turn
    (YieldsList-at c.into_iter-word-iterator.ensures.into_iter_gives
    (YieldsList-from_take names_kept
    (YieldsList-at c.take-word-items.ensures.source
    (YieldsList-from_slice_split _ (λ b. eqb b 32) c.args.text.now c.split.ensures.rest
    c.split.ensures.done c.split.ensures.closure (λ x b q k. search (rules, tests))))
    c.take-word-items.ensures.count))
    c.loop-word.yielded _ c.loop-word.yielded_by _ _ c.in-Some.word c.in-Some.is
    c.next.ensures.steps in
    let turns = turn.0 in
    let count = c.loop-word.invariant.count in
    let most = at_most names_kept (slice_split (λ b. eqb b 32) c.args.text.now) in
    omega (arith, turns, count, most)

pub bounds-kept-count : goal.bounds-kept-count
bounds-kept-count c = below c

pub loop-word-preserved : goal.loop-word-preserved
loop-word-preserved c =
    let room = c.loop-word.invariant.room in
    let count = c.loop-word.invariant.count in
    let less = below c in
    record {
      room = search rules;
      few = omega (arith, less);
      count = omega (arith, count, length-append c.loop-word.yielded (c.in-Some.word ∷ []));
      words = take_more_set c.loop-word.kept c.loop-word.count c.in-Some.word
          (omega (arith, less, room))
          ∙ ap (λ ws. ws ++ c.in-Some.word ∷ []) c.loop-word.invariant.words;
    }

pub returns : goal.returns
returns c =
    let all = YieldsList-end
    (YieldsList-at c.into_iter-word-iterator.ensures.into_iter_gives
    (YieldsList-from_take names_kept
    (YieldsList-at c.take-word-items.ensures.source
    (YieldsList-from_slice_split _ (λ b. eqb b 32) c.args.text.now c.split.ensures.rest
    c.split.ensures.done c.split.ensures.closure (λ x b q k. search (rules, tests))))
    c.take-word-items.ensures.count))
    c.loop-word.yielded _ c.loop-word.yielded_by _ _ c.in-None.is c.next.ensures.steps in
    ap (map (λ (x : Bor (List ℕ)). x.now)) c.loop-word.invariant.words ∙ all.0
