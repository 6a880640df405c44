use Rattle.std.proofs.Common.{◌∙◌, sym, subst}
use Rattle.cm_record_layout.specs.Layout.{IsRecord}
use Rattle.cm_record_layout.proofs.{directory_within}
use Rattle.cm_record.proofs.record.Record.as_slice.Goals as goal

pub returns-clause-words : goal.returns-clause-words
returns-clause-words c = c.as_slice.ensures ∙ c.self.view_is

pub returns-clause-record : goal.returns-clause-record
returns-clause-record c = subst IsRecord (sym c.as_slice.ensures) c.self.invariant.0

pub returns-clause-directory : goal.returns-clause-directory
returns-clause-directory c =
    directory_within c.as_slice.result.now
    (subst IsRecord (sym c.as_slice.ensures) c.self.invariant.0)
