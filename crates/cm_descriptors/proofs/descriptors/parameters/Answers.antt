use Rattle.std.proofs.Common.{◌-◌, length, arith}
use Rattle.cm_descriptors.specs.Forms.{parameters}
use Rattle.cm_descriptors.proofs.FormLoops.{parameters_end, parameters_goes_on, parameters_refuse}
use Rattle.cm_descriptors.proofs.FormLoops.{parameters_nothing, parameters_over, units_small}
use Rattle.cm_descriptors.proofs.descriptors.parameters.Goals as goal

pub returns-in_err-byte : goal.returns-in_err-byte
returns-in_err-byte c =
    rw c.from_residual.ensures
    (parameters_nothing (length c.args.bytes.now - c.loop.counter) c.loop.units c.loop.rest.now
    (parameters (length c.args.bytes.now) c.args.bytes.now) c.in_err-byte.ensures.none
    c.loop.invariant.read)

pub returns-then-byte-eq41 : goal.returns-then-byte-eq41
returns-then-byte-eq41 c =
    parameters_end (length c.args.bytes.now) c.loop.counter c.loop.units c.in_ok-byte.byte
    c.loop.rest.now c.in_ok-byte.behind.now
    (parameters (length c.args.bytes.now) c.args.bytes.now) c.loop-test.true
    c.in_ok-byte.ensures.some c.if-byte-eq41.true c.loop.invariant.read

pub returns-in_err-rest : goal.returns-in_err-rest
returns-in_err-rest c =
    rw c.from_residual-in_err-rest.ensures
    (parameters_refuse (length c.args.bytes.now) c.loop.counter c.loop.units c.in_ok-byte.byte
    c.loop.rest.now c.in_ok-byte.behind.now
    (parameters (length c.args.bytes.now) c.args.bytes.now) c.loop-test.true
    c.in_ok-byte.ensures.some c.if-byte-eq41.false c.in_err-rest.ensures c.loop.invariant.read)

pub loop-preserved : goal.loop-preserved
loop-preserved c = record {
  small = omega
      (arith, c.loop.invariant.small, c.units_of_first-units.ensures, units_small c.loop.rest.now);
  read = rw c.units_of_first-units.ensures
      (parameters_goes_on (length c.args.bytes.now) c.loop.counter c.loop.units c.in_ok-byte.byte
      c.loop.rest.now c.in_ok-byte.behind.now c.in_ok-rest.rest.now
      (parameters (length c.args.bytes.now) c.args.bytes.now) c.loop-test.true
      c.in_ok-byte.ensures.some c.if-byte-eq41.false c.in_ok-rest.ensures c.loop.invariant.read);
}

pub returns : goal.returns
returns c = parameters_over (length c.args.bytes.now) c.loop.counter c.loop.units c.loop.rest.now
    (parameters (length c.args.bytes.now) c.args.bytes.now) c.loop-test.false c.loop.invariant.read
