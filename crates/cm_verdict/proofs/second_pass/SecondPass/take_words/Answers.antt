use Rattle.std.proofs.Common.{ℕ, List, ◌∷◌, subst, refl}
use Rattle.cm_guards.proofs.{no_read}
use Rattle.cm_layout.specs.declared.row.Row.{Row}
use Rattle.cm_verdict.specs.declared.defined_at.DefinedAt.{DefinedAt}
use Rattle.cm_verdict.specs.declared.fault.OpenFault.TheVariants as open_fault
use Rattle.cm_verdict.specs.Judging.{IsTaken, words_of_row}
use Rattle.cm_verdict.proofs.Readings.{then_reads, no_more, ok_no_fault}
use Rattle.cm_verdict.proofs.RecordRows.{IsTaking, taking_begins, taking_on}
use Rattle.cm_verdict.proofs.second_pass.SecondPass.take_words.Goals as goal

pub loop-row-init : goal.loop-row-init
loop-row-init g c =
    let disk = g.D.Disk in
    record {
      reads = no_read disk.view c.args.disk.now g.met.D.Disk.only_now;
      taking = taking_begins c.args.self.now.geometry (disk.view.contents c.args.disk.now)
          c.args.self.now.number c.args.found.now.rows c.walk-left.result
          c.new-records.result.items c.walk-left.ensures c.new-records.ensures.items
          c.requires.live;
    }

pub loop-row-preserved : goal.loop-row-preserved
loop-row-preserved g c =
    let disk = g.D.Disk in
    let l = c.loop-row in
    let sizes = c.args.self.now.geometry in
    let contents = disk.view.contents c.args.disk.now in
    let number = c.args.self.now.number in
    let all = c.args.found.now.rows in
    let rest = c.next.new.self in
    let row = c.in-Some.row.now in
    let t : IsTaking sizes contents number all (row ∷ rest) l.records.items =
    subst (λ (left : List (Row DefinedAt)). IsTaking sizes contents number all left l.records.items)
    (c.in-Some.ensures {u = tt}) l.invariant.taking in
    record {
      reads = no_more disk.view c.args.disk.now c.words_of.new.disk _ _ (λ (x : ⊥). x)
          (ok_no_fault _ _ open_fault.Device refl)
          (then_reads disk.view c.args.disk.now l.disk c.words_of.new.disk _ _ (λ (x : ⊥). x)
          l.invariant.reads c.in_ok-record.ensures.reads);
      taking = taking_on sizes contents number all rest row l.records.items c.push.new.self.items
          c.in_ok-record.record t c.in_ok-push.ensures.items
          (subst (λ (now : List ℕ). IsTaken (words_of_row sizes now row) c.in_ok-record.record)
          l.invariant.reads.contents_stay c.in_ok-record.ensures.words);
    }
