use Rattle.std.proofs.Common.{ap, ◌∙◌}
use Rattle.cm_commit.specs.GroupPlans.{whole_roots}
use Rattle.cm_layout.specs.declared.heads.HalfHead.{HalfHead}
use Rattle.cm_recover.proofs.standing.StandingFile.of.Goals as goal

pub returns : goal.returns
returns c = λ contents s j. record {
  geometry = j.geometry;
  half = j.half;
  number = j.number;
  end = j.end;
  epoch = ap (λ (h : HalfHead). h.epoch) j.head;
  other = j.other;
  version = ap (λ (h : HalfHead). h.version) j.head;
  roots = c.whole_roots.ensures ∙ (λ i. whole_roots (j.geometry i) (j.long i));
  rows = j.rows;
  committed_sizes = j.committed_sizes;
  committed = j.committed;
}
