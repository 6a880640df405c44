-- Opening a file that stands for some of the machine's commands.
-- For `open`.
use Rattle.std.proofs.Common.{◌≡◌, ℕ, ◌-◌, ◌≤◌, List, [], ◌∷◌, take, drop, refl}
use Rattle.std.proofs.Common.{sym, ap, subst}
use Rattle.std.proofs.Common.{◌∙◌, arith, Result, Ok, Err, false, map}
use Rattle.cm_class.specs.declared.class_file.ClassFile.{ClassFile}
use Rattle.cm_pool.specs.Geometry.{Sizes}
use Rattle.cm_record.specs.Layout.{lay}
use Rattle.cm_record.specs.Names.{WordsTellName}
use Rattle.cm_layout.specs.declared.row.Row.{Row}
use Rattle.cm_layout.specs.declared.row.Row.TheVariants.{Loader, Class}
use Rattle.cm_layout.specs.Offsets.{roots_at}
use Rattle.cm_layout.specs.Rows.{rows_with, classes_in}
use Rattle.cm_layout.specs.Frames.{LiveRowsKeep, AreApart}
use Rattle.cm_layout.proofs.{classes-bare}
use Rattle.cm_state.specs.Laws.{StandForOne}
use Rattle.cm_state.specs.Stands.{EachKeepsRules}
use Rattle.cm_state.specs.State.{class_shows, state_of}
use Rattle.cm_verdict.specs.Verdict.{Standing, verdict, state_in, arenas_in}
use Rattle.cm_verdict.specs.Laws.{FoundIsLive, FoundIsFramed, VerdictStands, StandsInVerdict}
use Rattle.cm_verdict.specs.Laws.{Proves}
use Rattle.cm_commit.specs.States.{CommitterState}
use Rattle.cm_front.specs.Front.{FrontState, IsFront}
use Rattle.cm_verdict.specs.declared.fault.OpenFault.{OpenFault}
use Rattle.cm_verdict.specs.declared.fault.OpenFault.TheVariants as open_fault
use Rattle.cm_verdict.specs.Opening.{IsFaultIn}
use Rattle.cm_recover.specs.Opened.{Opens, AreShort, OpensStanding}
use Rattle.cm_recover.proofs.{are_short, opened}
use Rattle.cm_handover.specs.Handover.{OpenedIsAhead}
use Rattle.cm_commands.specs.Machine.{Base, Machine, Reopens, Holds, commands_to}
use Rattle.cm_commands.specs.Machine.{machine_from}
use Rattle.cm_handover.specs.Following.{AreRightClasses, AreClasses, Follows}
use Rattle.cm_handover.specs.Laws.{OpenedFollows, IsAfter, FollowsFront}
use Rattle.cm_commit.specs.Offers.{filled}
use Rattle.cm_handover.specs.Ahead.{IsAhead, pending}
use Rattle.cm_handover.proofs.{bare_words}
use Rattle.cm_session.specs.Images.{StandsFor, StandsForSome}
use Rattle.cm_session.specs.Session.{IsSession, commands_of}
use Rattle.cm_session.specs.Moves.{ReachesMachine, Reopening, IsOutside}
use Rattle.cm_session.proofs.Learnt.{all_learnt}

-- each class is right, if its record isn't longer than the limit
are_right : (classes : List (Row ClassFile)) → EachKeepsRules classes
    → AreShort (rows_with lay classes) → AreRightClasses classes
are_right [] kept short = tt
are_right (Loader r ∷ rows) kept short = are_right rows kept short
are_right (Class r c ∷ rows) kept short =
    (record { kept = kept.0; short = short.0 }, are_right rows kept.1 short.1)

same_places : (rows : List (Row ClassFile)) → classes_in (rows_with lay rows) ≡ classes_in rows
same_places rows =
    sym (classes-bare (rows_with lay rows)) ∙ (ap classes_in (bare_words rows) ∙ classes-bare rows)

module _ {D : Type 0} (one : StandForOne) (live : FoundIsLive) (framed : FoundIsFramed)
    (proves : VerdictStands) (tells : WordsTellName) (ahead : OpenedIsAhead)
    (goes_on : OpenedFollows)
    (sizes : Sizes) (k : Machine) (contents : List ℕ) (some : StandsForSome sizes k contents)
    (front : FrontState) (committer : CommitterState D) (o : Opens contents front committer)
    (is : IsFront front) where
  abbrev s : Standing
  s = o.standing

  abbrev number : ℕ
  number = s.found.number

  abbrev rows : List (Row (List ℕ))
  rows = rows_with lay s.rows

  p : Proves contents s
  p = proves contents s o.verdict_is

  file : OpensStanding contents s rows
  file = opened live framed proves tells contents s o.verdict_is

  same : (s.found.sizes ≡ sizes)
      × ((state_in s ≡ some.stands.state)
      × ((arenas_in s ≡ some.stands.arenas) × (number ≡ some.number)))
  same =
      one s.found.sizes sizes contents (state_in s) some.stands.state (arenas_in s)
      some.stands.arenas number some.number o.stands some.stands.stands

  number_is : number ≡ some.number
  number_is = same.1.1.1

  are : AreClasses s.found.sizes number rows s.rows
  are = record {
    words = refl;
    right = are_right s.rows p.kept
        (are_short s.found.sizes file.lawful number (drop (roots_at s.found.sizes) contents) [] rows
        file.cache.live file.matches.records);
    cache = record {
      live = subst (LiveRowsKeep s.found.sizes number []) (bare_words s.rows) file.cache.live;
      apart = subst AreApart (same_places s.rows) file.cache.apart;
      differ = p.differ;
    };
  }

  holds : Holds s.found.sizes k.base (commands_to number k) (state_of class_shows s.rows)
  holds =
      subst (λ z. Holds z k.base (commands_to number k) (state_in s)) (sym same.0)
      (subst (λ n. Holds sizes k.base (commands_to n k) (state_in s)) (sym number_is)
      (subst (λ m. Holds sizes k.base (commands_to some.number k) m) (sym same.1.0)
      some.stands.holds))

  after : IsAfter s.found.sizes k rows number
  after = record { classes = s.rows; are = are; least = least; holds = holds }
    where
      least : k.base.number ≤ number
      least = let from = some.stands.from in let n = number_is in omega (arith, from, n)

  abbrev next : Machine
  next = record {
    base = k.base;
    commands = commands_to number k;
    acknowledged = number;
    sealed = number;
    failed = false;
    noticed = false;
  }

  front_is : front ≡ record {
    sizes = s.found.sizes;
    rows = rows;
    number = number;
    sealed = number;
    learnt = number;
    unsealed = [];
    space = front.space;
    broken = false;
    closed = false;
  }
  front_is = o.front_is.front_is

  pub reopened : ReachesMachine (Reopening sizes k contents)
      (λ j. IsSession j front committer [] committer.number false)
  reopened = record {
    next = next;
    does = record {
      number = number;
      reopens = record {
        least = let least = some.least in let n = number_is in omega (arith, least, n);
        most = let most = some.most in let n = number_is in omega (arith, most, n);
        next_is = refl;
      };
      stands = subst (λ n. StandsFor sizes k n contents) (sym number_is) some.stands;
    };
    matches = subst (λ (c : CommitterState D). IsSession next front c [] c.number false)
        (sym o.committer_is) (record {
          cache = record {
            is = is;
            sizes = ap (λ (f : FrontState). f.sizes) front_is;
            running = ap (λ (f : FrontState). f.closed) front_is;
          };
          between = record {
            groups = tt;
            busy = refl;
            ahead = is_ahead;
            from_learnt = all_learnt rows number [] front
                (ap (λ (f : FrontState). f.learnt) front_is) is_ahead;
          };
          follows = follows;
          told = record {
            acknowledged_is = refl;
            sealed_is = sym (ap (λ (f : FrontState). f.sealed) front_is);
            sealed_told = sym (ap (λ (f : FrontState). f.sealed) front_is);
            failed_is = refl;
            failed_told = refl;
            noticed_is = sym (ap (λ (f : FrontState). f.broken) front_is);
          };
        });
  }
    where
      is_ahead : IsAhead rows number [] front
      is_ahead =
          ahead (record { sizes = s.found.sizes; rows = rows }) number front is file.cache
          o.front_is

      follows : FollowsFront next rows number [] front
      follows =
          subst (λ z. Follows z next rows number (map filled (pending [] front)))
          (sym (ap (λ (f : FrontState). f.sizes) front_is))
          (subst (λ l. Follows s.found.sizes next rows number (map filled (commands_of l)))
          (sym (ap (λ (f : FrontState). f.unsealed) front_is))
          (goes_on s.found.sizes k next rows number after refl refl
          (let known = some.stands.known in let n = number_is in omega (arith, known, n))))

  pub same_sizes : committer.sizes ≡ sizes
  same_sizes = ap (λ (c : CommitterState D). c.sizes) o.committer_is ∙ same.0

-- ---- nothing was accepted yet

pub fresh : (base : Base) (number : ℕ) (next : Machine) → Reopens (machine_from base) number next
    → next ≡ machine_from base
fresh base number next r =
    let least = r.least in
    let most = r.most in
    let same : number ≡ base.number = omega (arith, least, most) in
    let zero : base.number - base.number ≡ 0 = omega arith in
    r.next_is ∙ ap (λ (n : ℕ). at_rest n (n - base.number)) same ∙ ap (at_rest base.number) zero
  where
    at_rest : ℕ → ℕ → Machine
    at_rest n z = record {
      base = base;
      commands = take z [];
      acknowledged = n;
      sealed = n;
      failed = false;
      noticed = false;
    }

-- ---- a fault

not_both : {A E : Type 0} (r : Result A E) (x : A) (e : E) → r ≡ Ok x → r ≡ Err e → ⊥
not_both (Ok y) x e ok err = absurd (cc)
not_both (Err f) x e ok err = absurd (cc)

pub is_outside : StandsInVerdict → (sizes : Sizes) (k : Machine) (contents : List ℕ)
    → StandsForSome sizes k contents → (fault : OpenFault) → IsFaultIn fault (verdict contents)
    → IsOutside fault
is_outside in_verdict sizes k contents some fault told = by_fault fault told
  where
    right : verdict contents ≡ Ok (in_verdict sizes contents some.stands.state some.stands.arenas
        some.number some.stands.stands).0
    right =
        (in_verdict sizes contents some.stands.state some.stands.arenas some.number
        some.stands.stands).1.ok

    by_fault : (f : OpenFault) → IsFaultIn f (verdict contents) → IsOutside f
    by_fault (open_fault.File fault) wrong = not_both (verdict contents) _ _ right wrong
    by_fault open_fault.Device wrong = tt
    by_fault open_fault.NoMemory wrong = tt
