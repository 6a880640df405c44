-- A checkpoint's device calls: at each moment a crash leaves what is committed, in the old halves
-- or in the renewed ones.
-- For `Committer::offer`, `checkpoints_renew`, `groups_go_through`.
use Rattle.std.proofs.Common.{◌≡◌, ◌≢◌, ℕ, ◌+◌, ◌<◌, ◌≤◌, inl, Bool, true, false}
use Rattle.std.proofs.Common.{List, [], ◌∷◌, ◌++◌, length, get_or, Option, Some, None, refl, sym}
use Rattle.std.proofs.Common.{ap, subst, ◌∙◌, arith, eqb, is_some, append_assoc}
use Rattle.std.proofs.Math.ListN.{set}
use Rattle.std.proofs.lemmas.Bool.{eqb-true, eq-eqb, false≢true}
use Rattle.std.proofs.lemmas.List.{length-set, set-get_or}
use Rattle.cm_disk.specs.Calls.{overwritten}
use Rattle.cm_layout.specs.declared.heads.HalfHead.{HalfHead}
use Rattle.cm_layout.specs.Offsets.{half_size}
use Rattle.cm_layout.specs.Slots.{open_gate}
use Rattle.cm_layout.specs.Rows.{bare}
use Rattle.cm_layout.specs.Frames.{IsGoodHead}
use Rattle.cm_layout.specs.Framing.{other_half}
use Rattle.cm_guards.specs.Plans.{Write, WriteFits}
use Rattle.cm_guards.specs.Stages.{Stage, Store, Turn, IsReady, Rests, claim_behind, gone_through}
use Rattle.cm_guards.proofs.{kept_by_plan, overwritten_size, gate_written, gone_through-append}
use Rattle.cm_commit.specs.Committed.{Committed}
use Rattle.cm_commit.specs.Checkpoints.{shut_gate, shut_stages, half_stages, renewed}
use Rattle.cm_commit.specs.Checkpoints.{renewed_framing, checkpoint_plan}
use Rattle.cm_commit.specs.Guarding.{guard_of, IsCommitted, ContentsShow, HoldsCommitted}
use Rattle.cm_commit.specs.Guarding.{shut_other}
use Rattle.cm_commit.specs.Laws.{other_gate, renewed_write, IsRenewed, CheckpointsRenew}
use Rattle.cm_commit.proofs.Ranges.{half_ends}
use Rattle.cm_commit.proofs.Slots.{end_is}
use Rattle.cm_commit.proofs.Guards.{guarded, guard_bounded, needs_roots}
use Rattle.cm_commit.proofs.Writing.{part-written}
use Rattle.cm_commit.proofs.Apart.{roots_limit}
use Rattle.cm_commit.proofs.NewHalves.{right_renewed, rows_few}
use Rattle.cm_commit.proofs.Shutting.{apart_from_shut, has_gate, right_shut, other_halves_shut}
use Rattle.cm_commit.proofs.Shutting.{shows_as_shut, other_is_told}
use Rattle.cm_commit.proofs.Reopened.{behind-count, size-renewed, written_halves_open}

none_of : (older : Option HalfHead) → is_some older ≡ false → older ≡ None
none_of None h = refl
none_of (Some head) h = absurd (cc)

-- what is committed is a fact that rests on what is guarded
pub rests : (c : Committed) (contents : List ℕ) → IsCommitted c → ContentsShow c contents
    → Rests (guard_of c) (HoldsCommitted c) contents
rests c contents right shows = record {
  ends = guard_bounded c right;
  long = shows.long;
  each = λ other agrees. record {
    framing = c.framing;
    right = right;
    matches = (guarded c right).carries contents other shows.long agrees shows;
    no_older = omega arith;
  };
}

module _ (c : Committed) (right : IsCommitted c) where
  abbrev gate : ℕ
  gate = other_gate c

  abbrev shut : Committed
  shut = shut_other c

  shut_right : IsCommitted shut
  shut_right = right_shut c right

  -- ---- the other half is shut

  -- The stages that shut it leave what is committed; what can follow there can follow them.
  pub record IsShutFirst (is_open : Bool) (contents : List ℕ) : Type 0 where
    pub shows : ContentsShow shut (gone_through (shut_stages is_open gate) contents)
    pub size : length (gone_through (shut_stages is_open gate) contents) ≡ length contents
    pub before : (next : Committed) (long : ℕ) (stage : Stage) (stages : List Stage)
        → IsReady (HoldsCommitted c) (ContentsShow next) long (stage ∷ stages)
        (gone_through (shut_stages is_open gate) contents)
        → IsReady (HoldsCommitted c) (ContentsShow next) long
        (shut_stages is_open gate ++ stage ∷ stages) contents

  module _ (contents : List ℕ) (shows : ContentsShow c contents) where
    holds_here : HoldsCommitted c contents
    holds_here = record {
      framing = c.framing;
      right = right;
      matches = shows;
      no_older = omega arith;
    }

    inside_here : gate < length contents
    inside_here = (has_gate c contents shut_gate right shows).inside

    shut_by : (b : ℕ) → b ≢ open_gate → ContentsShow shut (set contents gate b)
    shut_by b other = (other_halves_shut c contents b right shows other).shows

    -- while the byte of the open gate is overwritten, what is committed holds, whatever byte is
    -- there
    any_byte : is_some c.framing.older ≡ true → (b : ℕ) → HoldsCommitted c (set contents gate b)
    any_byte is_open b = by_test (eqb b open_gate) refl
      where
        by_test : (t : Bool) → eqb b open_gate ≡ t → HoldsCommitted c (set contents gate b)
        by_test true e =
            let there = eqb-true (get_or contents gate 0) open_gate
            (sym (other_is_told c contents shows) ∙ is_open) in
            let same : set contents gate b ≡ contents =
            ap (set contents gate) (eqb-true b open_gate e ∙ sym there)
            ∙ set-get_or contents gate 0 in
            subst (HoldsCommitted c) (sym same) holds_here
        by_test false e = record {
          framing = shut.framing;
          right = shut_right;
          matches = shut_by b (λ is. false≢true (sym e ∙ eq-eqb b open_gate is));
          no_older = omega arith;
        }

    shut_first : (t : Bool) → is_some c.framing.older ≡ t → IsShutFirst t contents
    shut_first true is_open =
        let is = gate_written gate shut_gate contents inside_here in
        record {
          shows = subst (ContentsShow shut) (sym is) (shut_by shut_gate (λ e. absurd (cc)));
          size = ap length is ∙ length-set contents gate shut_gate;
          before = λ next long stage stages ready. record {
            holds = holds_here;
            turns = record {
              inside = inside_here;
              either = λ b small. record { which = inl (any_byte is_open b) };
              last = any_byte is_open shut_gate;
            };
            behind = ready;
          };
        }
    shut_first false is_open =
        let nothing = rests c contents right shows in
        record {
          shows = shows_as_shut c contents (none_of c.framing.older is_open) shows;
          size = refl;
          before = λ next long stage stages ready. record {
            guard = guard_of c;
            rests = nothing;
            can = tt;
            behind = record { guard = guard_of c; rests = nothing; can = tt; behind = ready };
          };
        }

  -- ---- the other half is written, and opened

  module _ (head : IsGoodHead c.sizes (renewed_framing c).head) where
    abbrev new_half : Write
    new_half = renewed_write c

    abbrev half : List Stage
    half =
        half_stages c.sizes (other_half c.framing.counting) (renewed_framing c).head (bare c.rows)

    -- what is written lies after the gate, in the half
    write-end : 1 + length new_half.bytes ≤ half_size c.sizes
    write-end =
        let few = rows_few c right in
        let good = (right_renewed c right head).good in
        omega (
          arith,
          behind-count c,
          size-renewed c,
          end_is c.sizes (renewed_framing c) good,
          few,
          right.lawful.slots_from,
        )

    module _ (base : List ℕ) (shows : ContentsShow shut base) where
      abbrev with_half : List ℕ
      with_half = overwritten new_half.at new_half.bytes base

      abbrev opened : List ℕ
      opened = overwritten gate (open_gate ∷ []) with_half

      ends-within : new_half.at + length new_half.bytes ≤ length base
      ends-within =
          let ends = half_ends c.sizes (other_half c.framing.counting) in
          omega (arith, ends, write-end, shows.long, needs_roots c.sizes c.rows)

      starts-within : new_half.at ≤ length base
      starts-within = omega (arith, ends-within)

      fits : WriteFits (guard_of shut) new_half (length base)
      fits = record {
        starts_within = starts-within;
        within_limit =
            let ends = half_ends c.sizes (other_half c.framing.counting) in
            let limit = roots_limit c.sizes right.lawful in
            omega (arith, ends, write-end, limit);
        apart = record {
          apart = λ i guarded_i.
              apart_from_shut shut (length new_half.bytes) i shut_right refl write-end guarded_i;
        };
      }

      shows_half : ContentsShow shut with_half
      shows_half =
          kept_by_plan (guard_of shut) (ContentsShow shut) (new_half ∷ []) base
          (guarded shut shut_right)
          shows.long (fits, tt) shows

      inside_half : gate < length with_half
      inside_half = (has_gate shut with_half shut_gate shut_right shows_half).inside

      renewed_half : ContentsShow (renewed c) (set with_half gate open_gate)
      renewed_half =
          (written_halves_open c with_half right head shows_half
          (part-written new_half.at new_half.bytes base starts-within)).shows

      opened-is : opened ≡ set with_half gate open_gate
      opened-is = gate_written gate open_gate with_half inside_half

      pub shows_opened : ContentsShow (renewed c) opened
      shows_opened = subst (ContentsShow (renewed c)) (sym opened-is) renewed_half

      pub size_opened : length opened ≡ length base
      size_opened =
          ap length opened-is
          ∙ (length-set with_half gate open_gate
          ∙ (overwritten_size new_half.at new_half.bytes base starts-within
          ∙ omega (arith, ends-within)))

      -- the old half counts, or the new one
      either_half : (b : ℕ) → HoldsCommitted c (set with_half gate b)
      either_half b = by_test (eqb b open_gate) refl
        where
          by_test : (t : Bool) → eqb b open_gate ≡ t → HoldsCommitted c (set with_half gate b)
          by_test true e =
              subst (λ (k : ℕ). HoldsCommitted c (set with_half gate k))
              (sym (eqb-true b open_gate e))
              (record {
                framing = renewed_framing c;
                right = right_renewed c right head;
                matches = renewed_half;
                no_older = right.good.head.version_to;
              })
          by_test false e = record {
            framing = shut.framing;
            right = shut_right;
            matches = (other_halves_shut shut with_half b shut_right shows_half
                (λ is. false≢true (sym e ∙ eq-eqb b open_gate is))).shows;
            no_older = omega arith;
          }

      last_claim : (next : Committed) (long : ℕ) (stages : List Stage)
          → IsReady (HoldsCommitted c) (ContentsShow next) long stages opened
          → claim_behind stages (HoldsCommitted c) (ContentsShow next)
          (set with_half gate open_gate)
      last_claim next long [] ready = subst (ContentsShow next) opened-is ready.holds
      last_claim next long (stage ∷ stages) ready = either_half open_gate

      pub half_ready : (next : Committed) (long : ℕ) (stages : List Stage)
          → IsReady (HoldsCommitted c) (ContentsShow next) long stages opened
          → IsReady (HoldsCommitted c) (ContentsShow next) long (half ++ stages) base
      half_ready next long stages ready = record {
        guard = guard_of shut;
        rests = rests shut base shut_right shows;
        can = (fits, tt);
        behind = record {
          holds = record {
            framing = shut.framing;
            right = shut_right;
            matches = shows_half;
            no_older = omega arith;
          };
          turns = record {
            inside = inside_half;
            either = λ b small. record { which = inl (either_half b) };
            last = last_claim next long stages ready;
          };
          behind = ready;
        };
      }

    -- ---- both

    module _ (contents : List ℕ) (shows : ContentsShow c contents) where
      abbrev first : List Stage
      first = shut_stages (is_some c.framing.older) gate

      shut_here : IsShutFirst (is_some c.framing.older) contents
      shut_here = shut_first contents shows (is_some c.framing.older) refl

      abbrev shut_contents : List ℕ
      shut_contents = gone_through first contents

      through : gone_through (checkpoint_plan c) contents ≡ opened shut_contents shut_here.shows
      through = gone_through-append first half contents

      pub renews : IsRenewed c contents
      renews = record {
        right = right_renewed c right head;
        shows = subst (ContentsShow (renewed c)) (sym through)
            (shows_opened shut_contents shut_here.shows);
        size = ap length through
            ∙ (size_opened shut_contents shut_here.shows ∙ shut_here.size);
        before = λ next long stages ready.
            subst (λ (plan : List Stage). IsReady (HoldsCommitted c) (ContentsShow next) long plan
            contents)
            (sym (append_assoc first half stages))
            (shut_here.before next long
            (Store (new_half ∷ [])) (Turn gate open_gate ∷ stages)
            (half_ready shut_contents shut_here.shows next long stages
            (subst (IsReady (HoldsCommitted c) (ContentsShow next) long stages) through ready)));
      }

pub checkpoints_renew : CheckpointsRenew
checkpoints_renew c contents right head shows = renews c right head contents shows
