use Rattle.std.proofs.Common.{◌≡◌, ◌∙◌, ◌*◌, length, get_or, sym, ap, refl, arith}
use Rattle.std.specs.Ordering.{nat_cmp}
use Rattle.cm_record_layout.proofs.{bytes_from}
use Rattle.cm_record.proofs.RunBytes.{run_fits, byte_there, same_in_run}
use Rattle.cm_record.proofs.RunPlaces.{run_words_there}
use Rattle.cm_record.proofs.Orders.{same_byte, same_bytes, other_byte, one_ends}
use Rattle.cm_record.proofs.order.cmp_run_to.Goals as goal

pub same_as_bytes-same-requires-clause-words : goal.same_as_bytes-same-requires-clause-words
same_as_bytes-same-requires-clause-words c =
    let is = c.requires.run in
    omega (
      arith,
      (run_words_there c.args.words.now c.args.run is.0 is.1).0,
      ap length c.words_from.ensures,
      c.min-shared.ensures,
    )

pub loop-i-init : goal.loop-i-init
loop-i-init c = λ xs of_xs.
    let n = c.same_as_bytes-same.result in
    let ys = c.args.bytes.now in
    same_bytes (8 * n) xs ys
    (omega (arith, of_xs.count, c.same_as_bytes-same.ensures.within, c.min-shared.ensures))
    (omega (arith, c.same_as_bytes-same.ensures.within, c.min-shared.ensures))
    (same_in_run c.args.words.now c.args.run xs ys of_xs
    (bytes_from ys (λ i lt. omega (arith, c.type_inv.bytes i))) n
    (omega (arith, c.same_as_bytes-same.ensures.within, c.min-shared.ensures))
    (omega (arith, c.same_as_bytes-same.ensures.within, c.min-shared.ensures))
    (λ k lt. sym (ap (λ w. get_or w k 0) c.words_from.ensures)
    ∙ c.same_as_bytes-same.ensures.same k lt))

pub byte_at-one-requires-clause-there : goal.byte_at-one-requires-clause-there
byte_at-one-requires-clause-there c = let is = c.requires.run in
    omega (
      arith,
      run_fits c.args.words.now c.args.run is.0 is.1,
      c.loop-i-test.true,
      c.min-shared.ensures,
    )

pub byte_at-one-requires-clause-small : goal.byte_at-one-requires-clause-small
byte_at-one-requires-clause-small c = let is = c.requires.run in
    omega (
      arith,
      run_fits c.args.words.now c.args.run is.0 is.1,
      c.loop-i-test.true,
      c.min-shared.ensures,
      c.requires.short,
    )

pub returns-then-one-two : goal.returns-then-one-two
returns-then-one-two c = λ xs of_xs.
    let i = c.loop-i.i in
    let ys = c.args.bytes.now in
    let one : c.byte_at-one.result ≡ get_or xs i 0 =
    c.byte_at-one.ensures ∙ byte_there c.args.words.now c.args.run xs of_xs i
    (omega (arith, c.loop-i-test.true, c.min-shared.ensures)) in
    c.cmp.ensures ∙ (ap
    (λ n. nat_cmp n (get_or ys i 0)) one
    ∙ other_byte xs ys i (omega (arith, of_xs.count, c.loop-i-test.true, c.min-shared.ensures))
    (omega (arith, c.loop-i-test.true, c.min-shared.ensures))
    (λ e. c.if-one-two.true (one ∙ e)) (c.loop-i.invariant xs of_xs))

pub loop-i-preserved : goal.loop-i-preserved
loop-i-preserved c = λ xs of_xs.
    let i = c.loop-i.i in
    let one : c.byte_at-one.result ≡ get_or xs i 0 =
    c.byte_at-one.ensures ∙ byte_there c.args.words.now c.args.run xs of_xs i
    (omega (arith, c.loop-i-test.true, c.min-shared.ensures)) in
    same_byte xs c.args.bytes.now i _ refl
    (omega (arith, of_xs.count, c.loop-i-test.true, c.min-shared.ensures))
    (omega (arith, c.loop-i-test.true, c.min-shared.ensures))
    (sym one ∙ c.if-one-two.false) (c.loop-i.invariant xs of_xs)

pub returns : goal.returns
returns c = λ xs of_xs.
    let i = c.loop-i.i in
    c.cmp-2.ensures ∙ (ap
    (λ n. nat_cmp n (length c.args.bytes.now)) of_xs.count
    ∙ one_ends xs c.args.bytes.now i
    (omega (arith, of_xs.count, c.loop-i-test.false, c.loop-i.auto.i-end, c.min-shared.ensures))
    (c.loop-i.invariant xs of_xs))
