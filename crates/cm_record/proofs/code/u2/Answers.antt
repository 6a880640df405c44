use Rattle.std.proofs.Common.{◌≡◌, ◌∙◌, ◌+◌, get_or, arith}
use Rattle.cm_record.proofs.RunBytes.{run_fits, byte_there}
use Rattle.cm_record.proofs.code.u2.Goals as goal

pub byte_at-requires-clause-there : goal.byte_at-requires-clause-there
byte_at-requires-clause-there c =
    omega (
      arith,
      run_fits c.args.words.now c.args.run c.requires.run.0 c.requires.run.1,
      c.requires.within,
    )

pub byte_at-requires-clause-small : goal.byte_at-requires-clause-small
byte_at-requires-clause-small c =
    omega (
      arith,
      run_fits c.args.words.now c.args.run c.requires.run.0 c.requires.run.1,
      c.requires.within,
      c.requires.short,
    )

pub byte_at-requires-2-clause-there : goal.byte_at-requires-2-clause-there
byte_at-requires-2-clause-there c =
    omega (
      arith,
      run_fits c.args.words.now c.args.run c.requires.run.0 c.requires.run.1,
      c.requires.within,
    )

pub byte_at-requires-2-clause-small : goal.byte_at-requires-2-clause-small
byte_at-requires-2-clause-small c =
    omega (
      arith,
      run_fits c.args.words.now c.args.run c.requires.run.0 c.requires.run.1,
      c.requires.within,
      c.requires.short,
    )

pub returns : goal.returns
returns c = λ bytes is.
    let i = c.args.i in
    let one : c.from.result ≡ get_or bytes i 0 =
    c.from.ensures ∙ (c.byte_at.ensures
    ∙ byte_there c.args.words.now c.args.run bytes is i (omega (arith, c.requires.within))) in
    let two : c.from-2.result ≡ get_or bytes (i + 1) 0 =
    c.from-2.ensures ∙ (c.byte_at-2.ensures
    ∙ byte_there c.args.words.now c.args.run bytes is (i + 1) c.requires.within) in
    omega (arith, one, two)
