-- A run with one more event.
-- For `World::run`, `World::step`.
use Rattle.std.proofs.Common.{◌≡◌, List, [], ◌∷◌, ◌++◌, map, length, refl, sym, ap, subst, ◌∙◌}
use Rattle.std.proofs.lemmas.List.{map-append, length-map}
use Rattle.cm_pool.specs.Geometry.{Sizes}
use Rattle.cm_commands.specs.Machine.{Machine}
use Rattle.cm_world.specs.declared.event.Event.{Event}
use Rattle.cm_world.specs.declared.reply.Reply.{Reply}
use Rattle.cm_world.specs.declared.world.World.{World}
use Rattle.cm_world.specs.Steps.{State, IsStep}
use Rattle.cm_world.specs.Runs.{Step, Chain, IsBegun, HasRun}
use Rattle.cm_world.specs.Moves.{state, EventMoves}

chain_more : (sizes : Sizes) (first last : State) (steps : List Step) (s : Step)
    → Chain sizes first steps last → s.before ≡ last → IsStep sizes s.event s.reply s.before s.after
    → Chain sizes first (steps ++ s ∷ []) s.after
chain_more sizes first last [] s chain begins is = (begins ∙ chain, is, refl)
chain_more sizes first last (t ∷ steps) s chain begins is =
    (chain.0, chain.1, chain_more sizes t.after last steps s chain.2 begins is)

-- there is one reply for each event
pub as_many : (sizes : Sizes) (events : List Event) (replies : List Reply) (w : World)
    → HasRun sizes events replies w → length replies ≡ length events
as_many sizes events replies w run =
    sym (ap length run.ran.replies_are)
    ∙ (length-map run.ran.steps (λ (s : Step). s.reply)
    ∙ (sym (length-map run.ran.steps (λ (s : Step). s.event)) ∙ ap length run.ran.events_are))

pub map_same : {A : Type 0} (xs : List A) → map (λ (x : A). x) xs ≡ xs
map_same [] = refl
map_same (x ∷ xs) = ap (λ l. x ∷ l) (map_same xs)

-- an event by another name
pub same_moves : (k : Machine) (old : World) (e f : Event) (r s : Reply) (a b : World) → e ≡ f
    → r ≡ s → a ≡ b → EventMoves k f s old b → EventMoves k e r old a
same_moves k old e f r s a b event reply world m =
    subst (λ z. EventMoves k z r old a) (sym event)
    (subst (λ z. EventMoves k f z old a) (sym reply)
    (subst (λ z. EventMoves k f s old z) (sym world) m))

-- a run without events
pub begun_run : (sizes : Sizes) (w : World) → IsBegun sizes w → HasRun sizes [] [] w
begun_run sizes w begun = record {
  last = begun.first;
  ran = record {
    first = begun.first;
    new = begun.new;
    steps = [];
    events_are = refl;
    replies_are = refl;
    chain = refl;
  };
  at = begun.at;
  sizes_are = begun.sizes_are;
}

pub run_more : (sizes : Sizes) (events : List Event) (replies : List Reply) (old new : World)
    (e : Event) (r : Reply) (run : HasRun sizes events replies old)
    → EventMoves run.last.machine e r old new
    → HasRun sizes (events ++ e ∷ []) (replies ++ r ∷ []) new
run_more sizes events replies old new e r run moves = record {
  last = s.after;
  ran = record {
    first = run.ran.first;
    new = run.ran.new;
    steps = run.ran.steps ++ s ∷ [];
    events_are =
        map-append (λ (t : Step). t.event) run.ran.steps (s ∷ [])
        ∙ ap (λ l. l ++ e ∷ []) run.ran.events_are;
    replies_are =
        map-append (λ (t : Step). t.reply) run.ran.steps (s ∷ [])
        ∙ ap (λ l. l ++ r ∷ []) run.ran.replies_are;
    chain = chain_more sizes run.ran.first run.last run.ran.steps s run.ran.chain begins
        (subst (λ z. IsStep z e r s.before s.after) run.sizes_are moves.step);
  };
  at = record { disk = refl; underway = refl; matches = moves.matches };
  sizes_are = moves.sizes_stay ∙ run.sizes_are;
}
  where
    s : Step
    s = record {
      event = e;
      reply = r;
      before = state old run.last.machine;
      after = state new moves.next;
    }

    begins : s.before ≡ run.last
    begins = (λ i. record {
      disk = run.at.disk i;
      machine = run.last.machine;
      underway = run.at.underway i;
    })
