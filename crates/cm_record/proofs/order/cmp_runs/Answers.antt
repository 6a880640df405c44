use Rattle.std.proofs.Common.{◌≡◌, ◌∙◌, ◌*◌, get_or, length, sym, ap, refl, arith}
use Rattle.std.specs.Ordering.{nat_cmp}
use Rattle.cm_record.proofs.RunBytes.{run_fits, byte_there, same_in_runs}
use Rattle.cm_record.proofs.RunPlaces.{run_words_there}
use Rattle.cm_record.proofs.Orders.{same_byte, same_bytes, other_byte, one_ends}
use Rattle.cm_record.proofs.order.cmp_runs.Goals as goal

pub same_words-same-requires-clause-one : goal.same_words-same-requires-clause-one
same_words-same-requires-clause-one c =
    let is = c.requires.one in
    omega (
      arith,
      (run_words_there c.args.words.now c.args.run is.0 is.1).0,
      ap length c.words_from.ensures,
      c.min-shared.ensures,
    )

pub same_words-same-requires-clause-two : goal.same_words-same-requires-clause-two
same_words-same-requires-clause-two c =
    let is = c.requires.two in
    omega (
      arith,
      (run_words_there c.args.others.now c.args.other is.0 is.1).0,
      ap length c.words_from-2.ensures,
      c.min-shared.ensures,
    )

pub loop-i-init : goal.loop-i-init
loop-i-init c = λ xs ys of_xs of_ys.
    let n = c.same_words-same.result in
    same_bytes (8 * n) xs ys
    (omega (arith, of_xs.count, c.same_words-same.ensures.within, c.min-shared.ensures))
    (omega (arith, of_ys.count, c.same_words-same.ensures.within, c.min-shared.ensures))
    (same_in_runs c.args.words.now c.args.others.now c.args.run c.args.other xs ys of_xs of_ys n
    (omega (arith, c.same_words-same.ensures.within, c.min-shared.ensures))
    (omega (arith, c.same_words-same.ensures.within, c.min-shared.ensures))
    (λ k lt. sym (ap (λ w. get_or w k 0) c.words_from.ensures)
    ∙ (c.same_words-same.ensures.same k lt ∙ ap (λ w. get_or w k 0) c.words_from-2.ensures)))

pub byte_at-one-requires-clause-there : goal.byte_at-one-requires-clause-there
byte_at-one-requires-clause-there c = let is = c.requires.one in
    omega (
      arith,
      run_fits c.args.words.now c.args.run is.0 is.1,
      c.loop-i-test.true,
      c.min-shared.ensures,
    )

pub byte_at-one-requires-clause-small : goal.byte_at-one-requires-clause-small
byte_at-one-requires-clause-small c = let is = c.requires.one in
    omega (
      arith,
      run_fits c.args.words.now c.args.run is.0 is.1,
      c.loop-i-test.true,
      c.min-shared.ensures,
      c.requires.short_one,
    )

pub byte_at-two-requires-clause-there : goal.byte_at-two-requires-clause-there
byte_at-two-requires-clause-there c = let is = c.requires.two in
    omega (
      arith,
      run_fits c.args.others.now c.args.other is.0 is.1,
      c.loop-i-test.true,
      c.min-shared.ensures,
    )

pub byte_at-two-requires-clause-small : goal.byte_at-two-requires-clause-small
byte_at-two-requires-clause-small c = let is = c.requires.two in
    omega (
      arith,
      run_fits c.args.others.now c.args.other is.0 is.1,
      c.loop-i-test.true,
      c.min-shared.ensures,
      c.requires.short_two,
    )

pub returns-then-one-two : goal.returns-then-one-two
returns-then-one-two c = λ xs ys of_xs of_ys.
    let i = c.loop-i.i in
    let one : c.byte_at-one.result ≡ get_or xs i 0 =
    c.byte_at-one.ensures ∙ byte_there c.args.words.now c.args.run xs of_xs i
    (omega (arith, c.loop-i-test.true, c.min-shared.ensures)) in
    let two : c.byte_at-two.result ≡ get_or ys i 0 =
    c.byte_at-two.ensures ∙ byte_there c.args.others.now c.args.other ys of_ys i
    (omega (arith, c.loop-i-test.true, c.min-shared.ensures)) in
    c.cmp.ensures ∙ ((λ j. nat_cmp (one j) (two j))
    ∙ other_byte xs ys i (omega (arith, of_xs.count, c.loop-i-test.true, c.min-shared.ensures))
    (omega (arith, of_ys.count, c.loop-i-test.true, c.min-shared.ensures))
    (λ e. c.if-one-two.true (one ∙ (e ∙ sym two))) (c.loop-i.invariant xs ys of_xs of_ys))

pub loop-i-preserved : goal.loop-i-preserved
loop-i-preserved c = λ xs ys of_xs of_ys.
    let i = c.loop-i.i in
    let one : c.byte_at-one.result ≡ get_or xs i 0 =
    c.byte_at-one.ensures ∙ byte_there c.args.words.now c.args.run xs of_xs i
    (omega (arith, c.loop-i-test.true, c.min-shared.ensures)) in
    let two : c.byte_at-two.result ≡ get_or ys i 0 =
    c.byte_at-two.ensures ∙ byte_there c.args.others.now c.args.other ys of_ys i
    (omega (arith, c.loop-i-test.true, c.min-shared.ensures)) in
    same_byte xs ys i _ refl (omega (arith, of_xs.count, c.loop-i-test.true, c.min-shared.ensures))
    (omega (arith, of_ys.count, c.loop-i-test.true, c.min-shared.ensures))
    (sym one ∙ (c.if-one-two.false ∙ two)) (c.loop-i.invariant xs ys of_xs of_ys)

pub returns : goal.returns
returns c = λ xs ys of_xs of_ys.
    let i = c.loop-i.i in
    c.cmp-2.ensures ∙ ((λ j. nat_cmp (of_xs.count j) (of_ys.count j))
    ∙ one_ends xs ys i (omega (
      arith,
      of_xs.count,
      of_ys.count,
      c.loop-i-test.false,
      c.loop-i.auto.i-end,
      c.min-shared.ensures,
    )) (c.loop-i.invariant xs ys of_xs of_ys))
