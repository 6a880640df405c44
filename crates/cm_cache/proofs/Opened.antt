-- What is opened is fresh, and its committer holds what was opened.
-- For `opened_may_start`.
use Rattle.std.proofs.Common.{◌≡◌, ℕ, List, [], refl, sym, ap, subst, ◌∙◌}
use Rattle.std.proofs.Common.{arith}
use Rattle.cm_record.specs.Layout.{lay}
use Rattle.cm_record.specs.Names.{WordsTellName}
use Rattle.cm_layout.specs.declared.row.Row.{Row}
use Rattle.cm_layout.specs.Rows.{rows_with}
use Rattle.cm_verdict.specs.Laws.{FoundIsLive, FoundIsFramed, VerdictStands}
use Rattle.cm_commit.specs.States.{CommitterState}
use Rattle.cm_front.specs.Front.{FrontState, IsFront}
use Rattle.cm_recover.specs.Opened.{Opens, OpensStanding}
use Rattle.cm_recover.proofs.{opened}
use Rattle.cm_handover.specs.Ahead.{IsAhead}
use Rattle.cm_handover.specs.Handover.{OpenedIsAhead}
use Rattle.cm_cache.specs.Starting.{MayStart, base_of}

module _ {D : Type 0} (live : FoundIsLive) (framed : FoundIsFramed) (stands : VerdictStands)
    (tells : WordsTellName) (ahead : OpenedIsAhead) (failures : D → ℕ) (contents : List ℕ)
    (front : FrontState) (committer : CommitterState D) (o : Opens contents front committer)
    (is : IsFront front) where
  abbrev rows : List (Row (List ℕ))
  rows = rows_with lay o.standing.rows

  file : OpensStanding contents o.standing rows
  file = opened live framed stands tells contents o.standing o.verdict_is

  same_rows : committer.rows ≡ rows
  same_rows = ap (λ (s : CommitterState D). s.rows) o.committer_is

  same_number : committer.number ≡ o.standing.found.number
  same_number = ap (λ (s : CommitterState D). s.number) o.committer_is

  pub may_start : MayStart (base_of committer) (failures committer.disk) failures front committer
  may_start = record {
    fresh = record {
      is = is;
      sizes =
          ap (λ (f : FrontState). f.sizes) o.front_is.front_is
          ∙ sym (ap (λ (s : CommitterState D). s.sizes) o.committer_is);
      ahead = subst (λ (x : List (Row (List ℕ)) × ℕ). IsAhead x.0 x.1 [] front)
          (λ i. (sym same_rows i, sym same_number i))
          (ahead (record { sizes = o.standing.found.sizes; rows = rows }) o.standing.found.number
          front is file.cache o.front_is);
      learnt = ap (λ (f : FrontState). f.learnt) o.front_is.front_is ∙ sym same_number;
      none = ap (λ (f : FrontState). f.unsealed) o.front_is.front_is;
    };
    at = record { sizes = refl; rows = refl; number = omega arith };
    sound = ap (λ (s : CommitterState D). s.broken) o.committer_is;
    idle = ap (λ (s : CommitterState D). s.underway) o.committer_is;
    failed_is = refl;
  }
