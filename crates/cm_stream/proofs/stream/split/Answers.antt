use Rattle.std.proofs.Common.{rules, ◌≡◌, ◌<◌, ◌-◌, None, length, map, arith, sym, inl, inr}
use Rattle.std.proofs.lemmas.Bool.{cases_lt}
use Rattle.std.proofs.lemmas.List.{map_push}
use Rattle.cm_stream.specs.Stream.{first_at, EndsInLength, EndsInClass}
use Rattle.cm_stream.proofs.Streams.{first_takes, none_first, rest_fits, goes_on, ends_early}
use Rattle.cm_stream.proofs.stream.split.Goals as goal

pub returns-in_default-clause-fault : goal.returns-in_default-clause-fault
returns-in_default-clause-fault c =
    let so_far = c.loop-rest.invariant in
    let front = map (λ class. class.now) c.loop-rest.classes.items in
    let rest = c.loop-rest.rest.now in
    let none : first_at rest ≡ None = sym c.in_default.ensures in
    let at = length c.args.bytes.now - length rest in
    let nonempty : 0 < length rest = search rules in
    elim (cases_lt (length rest) 4) [
      | inl short ↦ rw (c.fault_at.ensures.length short)
          (ends_early c.args.bytes.now front rest at EndsInLength so_far.fit so_far.whole
          (omega (arith, so_far.within)) (nonempty, short))
      | inr long ↦ rw (c.fault_at.ensures.class long)
          (ends_early c.args.bytes.now front rest at EndsInClass so_far.fit so_far.whole
          (omega (arith, so_far.within)) (none_first rest long none))
    ]

pub loop-rest-smaller : goal.loop-rest-smaller
loop-rest-smaller c =
    let so_far = c.loop-rest.invariant in
    let front = map (λ class. class.now) c.loop-rest.classes.items in
    let fits = rest_fits c.args.bytes.now front c.loop-rest.rest.now
    (λ i. omega (arith, c.type_inv.bytes i)) so_far.whole in
    (first_takes c.loop-rest.rest.now c.in-Some.class.now c.in-Some.behind.now fits
    (sym c.in-Some.ensures)).shorter

pub loop-rest-preserved : goal.loop-rest-preserved
loop-rest-preserved c =
    let so_far = c.loop-rest.invariant in
    let front = map (λ class. class.now) c.loop-rest.classes.items in
    let fits = rest_fits c.args.bytes.now front c.loop-rest.rest.now
    (λ i. omega (arith, c.type_inv.bytes i)) so_far.whole in
    let taken = first_takes c.loop-rest.rest.now c.in-Some.class.now c.in-Some.behind.now fits
    (sym c.in-Some.ensures) in
    let more = goes_on c.args.bytes.now front c.loop-rest.rest.now c.in-Some.class.now
    c.in-Some.behind.now so_far.fit so_far.whole taken in
    rw (c.in_ok-push.ensures.items, map_push)
    (record {
      fit =
          more.fit;
      whole = more.whole;
      within = omega (arith, taken.shorter, so_far.within);
    })
