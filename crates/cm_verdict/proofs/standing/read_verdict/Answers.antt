use Rattle.std.proofs.Common.{List, ℕ, Vec, Global, refl}
use Rattle.cm_verdict.specs.declared.fault.OpenFault.TheVariants as open_fault
use Rattle.cm_verdict.specs.declared.row_record.RowRecord.{RowRecord}
use Rattle.cm_verdict.specs.declared.standing.ReadRows.{ReadRows}
use Rattle.cm_verdict.specs.Judging.{Judges}
use Rattle.cm_verdict.specs.Standing.{IsReadOf, IsJudgedOf}
use Rattle.cm_verdict.proofs.Readings.{no_more, ok_no_fault}
use Rattle.cm_verdict.proofs.RecordRows.{never}
use Rattle.cm_verdict.proofs.standing.read_verdict.Goals as goal

-- what was read, with its records judged
judged_in : (contents : List ℕ) (file : ReadRows) (judged : Vec RowRecord Global)
    (GivesBack : Vec RowRecord Global → Vec RowRecord Global → Type 0) → Judges GivesBack
    → GivesBack file.records judged → IsReadOf contents file → IsJudgedOf contents (record {
      pass = file.pass;
      found = file.found;
      records = judged;
      half = file.half;
      head = file.head;
      other_open = file.other_open;
      end = file.end;
    })
judged_in contents file judged GivesBack judges back read = record {
  found = read.found;
  is = record {
    found_is = read.is.found_is;
    geometry = read.is.geometry;
    long = read.is.long;
    number = read.is.number;
    rows = read.is.rows;
    half = read.is.half;
    head = read.is.head;
    end = read.is.end;
    other = read.is.other;
    short = read.is.short;
    live = read.is.live;
  };
  judged = judges file.records judged _ back read.taken;
}

pub stand-requires : goal.stand-requires
stand-requires g c =
    let contents = g.D.Disk.view.contents c.args.disk.now in (
      contents,
      judged_in contents c.in_ok-file.file c.judge.result _ c.requires.judges
          c.judge.ensures c.in_ok-file.ensures.rows,
    )

pub returns : goal.returns
returns g c =
    let contents = g.D.Disk.view.contents c.args.disk.now in
    record {
      judged = c.stand.ensures.standing contents
          (judged_in contents c.in_ok-file.file c.judge.result _ c.requires.judges
          c.judge.ensures c.in_ok-file.ensures.rows);
      reads = no_more g.D.Disk.view c.args.disk.now c.read_rows.new.disk _ _
          (never c.stand.result open_fault.Device c.stand.ensures.in_memory)
          (ok_no_fault _ _ open_fault.Device refl) c.in_ok-file.ensures.reads;
    }
