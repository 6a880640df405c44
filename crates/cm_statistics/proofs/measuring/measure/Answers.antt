use Rattle.std.proofs.Common.{ℕ, refl, sym, ap, ◌∙◌}
use Rattle.cm_layout.specs.Rows.{classes_in}
use Rattle.cm_statistics.specs.Usage.{usage_by_order}
use Rattle.cm_statistics.proofs.Measured.{measures}
use Rattle.cm_statistics.proofs.measuring.measure.Goals as goal

pub returns : goal.returns
returns c = λ contents s long is.
    measures contents s c.args.file.now c.largest_unused-largest_free.new.rows _ is (record {
      same = c.largest_unused-largest_free.ensures.same;
      geometry = refl;
      number = refl;
      roots = refl;
      used = c.used_roots-used.ensures;
      trimmed = c.trimmed_len.ensures;
      free = c.largest_unused-largest_free.ensures.largest;
      usage = c.usage_of.ensures;
      orders = c.in_ok-usage_by_order.ensures
          ∙ ap (λ (top : ℕ). usage_by_order top
          (classes_in c.largest_unused-largest_free.new.rows.rows)) c.top.ensures.value;
      loaders = c.in_ok-usage_by_loader.ensures;
      chunks = c.in_ok-owned_chunks.ensures;
    }) (c.journal_of-journal.ensures contents s is) (sym long)
