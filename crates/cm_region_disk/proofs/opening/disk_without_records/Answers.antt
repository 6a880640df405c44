use Rattle.std.proofs.Common.{rules, arith, inl, inr, subst, sym, ap, Err, List, ℕ, ◌∙◌}
use Rattle.cm_device_disk.specs.declared.disk.DeviceDisk.{DeviceDisk}
use Rattle.cm_device_disk.specs.DeviceDisk.{disk_contents}
use Rattle.cm_verdict.specs.Ranges.{AreRecordRanges}
use Rattle.cm_verdict.specs.Verdict.{verdict}
use Rattle.cm_verdict.specs.Opening.{IsFaultIn}
use Rattle.cm_region_disk.specs.Opening.{IsWithoutRecords, IsReach, HasNone}
use Rattle.cm_region_disk.proofs.Begun.{begins_still}
use Rattle.cm_region_disk.proofs.opening.disk_without_records.Goals as goal

pub returns-in-Ok-clause-read : goal.returns-in-Ok-clause-read
returns-in-Ok-clause-read g c =
    let e = c.in_ok-read_on.ensures {u = tt} in
    record {
      device_is = search rules;
      length_is = search rules;
      begins = begins_still c.args.opened.beginning.items c.in_ok-read_on.field-0.beginning.items
          (disk_contents c.of_opened-disk.result) (omega (arith, e.reached)) e.begins
          c.of_opened-disk.ensures.begins;
      reach = c.bytes_before_roots-reach.result;
      reach_is = subst (λ (b : List ℕ). IsReach b c.bytes_before_roots-reach.result)
          c.beginning.ensures (record {
            sizes = c.bytes_before_roots-reach.ensures.sizes;
            none = c.bytes_before_roots-reach.ensures.none;
          });
      held = search rules;
      reads = search rules;
      found = inl (subst
          (λ (d : DeviceDisk g.row.V.Denot g.row.F.Denot). AreRecordRanges (disk_contents d)
          c.in-Ok.ranges.items) c.of.ensures.disk (c.in-Ok.ensures {u = tt}).ranges);
    }

pub returns-in_default : goal.returns-in_default
returns-in_default g c =
    let e = c.in_ok-read_on.ensures {u = tt} in
    let r = c.record_ranges.ensures.reads in
    record {
      len = search rules;
      read = record {
        device_is = search rules;
        length_is = search rules;
        begins = begins_still c.args.opened.beginning.items c.in_ok-read_on.field-0.beginning.items
            (disk_contents c.of_opened-disk.result) (omega (arith, e.reached)) e.begins
            c.of_opened-disk.ensures.begins;
        reach = c.bytes_before_roots-reach.result;
        reach_is = subst (λ (b : List ℕ). IsReach b c.bytes_before_roots-reach.result)
            c.beginning.ensures (record {
              sizes = c.bytes_before_roots-reach.ensures.sizes;
              none = c.bytes_before_roots-reach.ensures.none;
            });
        held = search rules;
        reads = search rules;
        found = inr (record {
          none = c.new.ensures.items;
          fault = c.in-Err.fault;
          has_memory = c.in_default.not-NoMemory;
          in_contents = subst
              (λ (d : DeviceDisk g.row.V.Denot g.row.F.Denot). IsFaultIn c.in-Err.fault
              (verdict (disk_contents d))) c.of.ensures.disk (c.in-Err.ensures {u = tt}).fault;
          fails = λ is. record {
            old = c.of.result;
            new = c.record_ranges.new.disk;
            disk_is = c.of.ensures.disk;
            reads = record {
              contents_stay = r.contents_stay;
              unsynced_stay = r.unsynced_stay;
              images = r.images;
              later = r.later;
              cause = λ u. r.cause (c.in-Err.is ∙ ap Err is);
              no_cause = λ no. absurd (no tt);
            };
          };
        });
      };
    }
