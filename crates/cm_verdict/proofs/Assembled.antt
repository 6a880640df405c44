-- A file in memory, built from what was found and the records that were read.
-- For `read_verdict`.
use Rattle.std.proofs.Common.{◌≡◌, ◌≤◌, ◌^◌, ℕ, List, [], Ok, length, ◌∙◌}
use Rattle.std.specs.Arc.{arc_value}
use Rattle.cm_pool.specs.Geometry.{Sizes}
use Rattle.cm_layout.specs.declared.row.Row.{Row}
use Rattle.cm_layout.specs.Rows.{rows_with}
use Rattle.cm_rows.specs.Rows.{LiveRows}
use Rattle.cm_verdict.specs.declared.defined_at.DefinedAt.{DefinedAt}
use Rattle.cm_verdict.specs.Found.{Found, found_in}
use Rattle.cm_verdict.specs.Verdict.{standing, classes_found, verdict}
use Rattle.cm_verdict.specs.declared.standing.JudgedFile.{JudgedFile}
use Rattle.cm_verdict.specs.Opening.{other_is_open}
use Rattle.cm_verdict.specs.Standing.{ReportsOk, AreRecorded, IsJudgedFile}
use Rattle.cm_verdict.proofs.Verdicts.{stands_for}

-- what is built from what was found and from rows
pub record IsMadeOf (contents : List ℕ) (file : JudgedFile) (f : Found)
    (rows : LiveRows (List ℕ)) : Type 0 where
  pub geometry : file.geometry ≡ f.sizes
  pub half : file.half ≡ f.half
  pub head : file.head ≡ f.head
  pub other : file.other_open ≡ other_is_open f.sizes f.half contents
  pub end : file.end ≡ f.end
  pub number : file.number ≡ f.number
  pub long : file.long ≡ length contents
  pub short : length contents ≤ 2 ^ 40
  pub rows_are : file.rows ≡ rows
  pub committed_sizes : file.committed.sizes ≡ rows.sizes
  pub committed : rows_with arc_value file.committed.rows ≡ rows.rows

-- the same rows of the same contents have the same classes
pub same_classes : (sizes : Sizes) (now contents : List ℕ) (more rows : List (Row DefinedAt))
    → now ≡ contents → more ≡ rows
    → classes_found sizes now [] more ≡ classes_found sizes contents [] rows
same_classes sizes now contents more rows same is = λ i. classes_found sizes (same i) [] (is i)

pub assembled : (contents : List ℕ) (file : JudgedFile) (f : Found) (rows : LiveRows (List ℕ))
    → found_in contents ≡ Ok f
    → ReportsOk (AreRecorded f.sizes) (classes_found f.sizes contents [] f.rows) rows
    → IsMadeOf contents file f rows → ReportsOk (IsJudgedFile contents) (verdict contents) file
assembled contents file f rows found t made = record {
  told = standing f t.told;
  verdict_is = stands_for contents f found t.told t.verdict_is;
  alike = record {
    geometry = made.geometry;
    half = made.half;
    head = made.head;
    other = made.other;
    end = made.end;
    number = made.number;
    long = made.long;
    short = made.short;
    rows = made.rows_are
        ∙ (λ i. record { sizes = t.alike.sizes_are i; rows = t.alike.words i });
    committed_sizes = made.committed_sizes ∙ t.alike.sizes_are;
    committed = made.committed ∙ t.alike.words;
  };
}
