use Rattle.std.proofs.Common.{◌∙◌, ap}
use Rattle.cm_class.specs.Names.{utf8}
use Rattle.cm_record.specs.Runs.{run_of_utf8}
use Rattle.cm_record.proofs.RunTests.{no_utf8, utf8_there, utf8_compared}
use Rattle.cm_record.proofs.utf8.is_utf8.Goals as goal

pub is_run_of-requires : goal.is_run_of-requires
is_run_of-requires c =
    let index = c.requires.index.0 in
    let found = c.run_of_utf8.ensures ∙ ap run_of_utf8 c.requires.index.1 in (
      utf8 c.requires.record.0 index,
      utf8_there c.requires.record.0 c.args.words.now c.requires.record.1 index c.run_of_utf8.result
          found c.in-Some.run' c.in-Some.is,
    )

pub returns-in-None : goal.returns-in-None
returns-in-None c = λ d index is e.
    no_utf8 d c.args.words.now is index c.run_of_utf8.result
    (c.run_of_utf8.ensures ∙ ap run_of_utf8 e) c.in-None.is c.args.bytes.now

pub returns-in-Some : goal.returns-in-Some
returns-in-Some c = λ d index is e.
    let found = c.run_of_utf8.ensures ∙ ap run_of_utf8 e in
    utf8_compared d c.args.words.now is index c.run_of_utf8.result found c.in-Some.run' c.in-Some.is
    c.args.bytes.now c.is_run_of.result
    (c.is_run_of.ensures (utf8 d index)
    (utf8_there d c.args.words.now is index c.run_of_utf8.result found c.in-Some.run'
    c.in-Some.is))
