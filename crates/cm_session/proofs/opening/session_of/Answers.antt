use Rattle.std.proofs.Common.{◌≡◌, ℕ, List, [], sym, ap, subst, ◌∙◌, false}
use Rattle.cm_group.specs.Groups.{Handed}
use Rattle.cm_pool.specs.Geometry.{Sizes}
use Rattle.cm_state.specs.Stands.{Stands}
use Rattle.cm_verdict.specs.Verdict.{state_in, arenas_in}
use Rattle.cm_recover.specs.Opened.{OpensFile}
use Rattle.cm_commands.specs.Machine.{Base, Machine, machine_from}
use Rattle.cm_session.specs.Images.{StandsForSome}
use Rattle.cm_session.specs.Moves.{ReachesMachine, Reopening}
use Rattle.cm_session.specs.Session.{IsSession}
use Rattle.cm_front.specs.Front.{FrontState}
use Rattle.cm_commit.specs.States.{CommitterState}
use Rattle.cm_session.proofs.Reopened.{reopened, same_sizes, is_outside, fresh}
use Rattle.cm_session.proofs.Learnt.{past_learnt}
use Rattle.cm_session.proofs.Past.{out_of}
use Rattle.cm_session.proofs.opening.session_of.Goals as goal

pub returns-in-Err : goal.returns-in-Err
returns-in-Err g c = λ disk file.
    let view = g.D.Disk.view in
    let o = subst (OpensFile view disk) c.in-Err.is file in
    record {
      opened = λ sizes k some. tt;
      begins = tt;
      past = tt;
      idle = tt;
      stands = λ sizes k some.
          is_outside c.verdict_is_exact.ensures.ok sizes k (view.contents disk) some _ o.fault;
      fault = o.fault;
      run = o.run;
    }

pub returns : goal.returns
returns g c = λ disk file.
    let view = g.D.Disk.view in
    let o = subst (OpensFile view disk) c.in-Ok.is file in
    let front = c.in-Ok.opened.0 in
    let committer = c.in-Ok.opened.1 in
    let queue = c.args.queue.groups.items in
    let bytes = view.contents disk in
    let opens = o.opened in
    let live = c.found_is_live.ensures in
    let framed = c.found_is_framed.ensures.framed in
    let stands = c.verdict_is_exact.ensures.stands in
    let one = c.contents_determine_cache.ensures in
    let on = c.committed_rows_are_the_machines.ensures.opened in
    let is = c.invariant_holds.ensures in
    let reaches : (sizes : Sizes) (k : Machine) → StandsForSome sizes k bytes
    → ReachesMachine (Reopening sizes k bytes)
    (λ j. IsSession j front committer queue c.number-sealed.result false) =
    λ sizes k some.
    subst (λ (q : List Handed). ReachesMachine (Reopening sizes k bytes)
    (λ j. IsSession j front committer q c.number-sealed.result false)) (sym c.requires)
    (subst (λ (n : ℕ). ReachesMachine (Reopening sizes k bytes)
    (λ j. IsSession j front committer [] n false)) (sym c.number-sealed.ensures)
    (reopened one live framed stands c.words_tell_name.ensures c.opened_is_ahead.ensures on
    sizes k bytes some front committer opens is)) in
    let sizes_are : (sizes : Sizes) (k : Machine) → StandsForSome sizes k bytes
    → committer.sizes ≡ sizes =
    λ sizes k some. same_sizes one live framed stands c.words_tell_name.ensures
    c.opened_is_ahead.ensures on sizes k bytes some front committer opens is in
    let s = opens.standing in
    let base : Base = record { state = state_in s; number = s.found.number } in
    let some = c.held_cache_begins_machine.ensures s.found.sizes bytes (state_in s) (arenas_in s)
    s.found.number opens.stands in
    let first = reaches s.found.sizes (machine_from base) some in
    let matches = subst (λ (j : Machine).
    IsSession j front committer queue c.number-sealed.result false)
    (fresh base first.does.number first.next first.does.reopens) first.matches in
    record {
      opened = λ sizes k some. record {
        reaches = reaches sizes k some;
        sizes_are = sizes_are sizes k some;
        durable = o.stored;
      };
      begins = record {
        base = base;
        arenas = arenas_in s;
        stands = subst (λ (z : Sizes). Stands z bytes (state_in s) (arenas_in s) s.found.number)
            (sym (sizes_are s.found.sizes (machine_from base) some)) opens.stands;
        matches = matches;
      };
      past = past_learnt committer.rows committer.number (out_of committer queue) front
          (ap (λ (f : FrontState). f.learnt) opens.front_is.front_is
          ∙ sym (ap (λ (m : CommitterState _). m.number) opens.committer_is)) matches.between.ahead;
      idle = ap (λ (m : CommitterState _). m.underway) opens.committer_is;
      stands = λ sizes k some. tt;
      fault = tt;
      run = o.run;
    }
