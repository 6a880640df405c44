-- What passed between an import and its feed, group after group.
-- For `import`, `import_all`, `import_feed`, `import_next`.
use Rattle.std.proofs.Common.{◌≡◌, ℕ, false, List, [], ◌∷◌, ◌++◌, Option, Some, None, Result, Ok}
use Rattle.std.proofs.Common.{Err, refl, sym, ap, subst, ◌∙◌, append_assoc, append-nil, inl, inr}
use Rattle.cm_pool.specs.Geometry.{Sizes}
use Rattle.cm_disk.specs.Disk.{View}
use Rattle.cm_guards.specs.Calls.{LeavesOnly}
use Rattle.cm_importing.specs.Feeds.{FeedEvent, Given, Told, NoMore, Logs, Group, group_events}
use Rattle.cm_importing.specs.Groups.{Pause, IsReady, defines, StoresGroup, ImportsGroup}
use Rattle.cm_importing.specs.Runs.{ImportsEach, ImportsGroups, RunsTurn, RunsFeed, AddsLoader}
use Rattle.cm_importing.specs.Runs.{RunsLoader, Runs, RunsOnDisk, Imports}
use Rattle.cm_importing.specs.declared.fault.ImportFault.{ImportFault}
use Rattle.cm_importing.specs.declared.fault.ImportFault.TheVariants as fault

pub logs_none : (log : Option (List FeedEvent)) → Logs log log []
logs_none None = tt
logs_none (Some events) = sym (append-nil events)

pub logs_on : (a b c : Option (List FeedEvent)) (first second : List FeedEvent)
    → Logs a b first → Logs b c second → Logs a c (first ++ second)
logs_on None b c first second one two = tt
logs_on (Some had) None c first second one two = absurd one
logs_on (Some had) (Some has) None first second one two = absurd two
logs_on (Some had) (Some has) (Some holds) first second one two =
    two ∙ (ap (λ l. l ++ second) one ∙ append_assoc had first second)

group_events_more : (groups : List Group) (group : Group)
    → group_events (groups ++ group ∷ [])
    ≡ group_events groups ++ (Given group.classes ∷ Told group.outcomes ∷ [])
group_events_more [] group = refl
group_events_more (g ∷ groups) group =
    ap (λ l. Given g.classes ∷ Told g.outcomes ∷ l) (group_events_more groups group)

module _ {D : Type 0} (Leaves : D → D → (List ℕ → Type 0) → Type 0) (sizes : Sizes)
    (loader : List ℕ) where
  imports_more : (groups : List Group) (group : Group) (old between new : Pause D)
      → ImportsEach Leaves sizes loader groups old between
      → StoresGroup Leaves sizes (defines loader group.classes) group.outcomes between new
      → ImportsEach Leaves sizes loader (groups ++ group ∷ []) old new
  imports_more [] group old between new is more = (
    new,
    subst (λ (p : Pause D).
        StoresGroup Leaves sizes (defines loader group.classes) group.outcomes p new) is more,
    refl,
  )
  imports_more (g ∷ groups) group old between new is more =
      (is.0, is.1, imports_more groups group is.0 between new is.2 more)

  -- nothing was imported yet
  pub none_imported : (log : Option (List FeedEvent)) (old : Pause D)
      → ImportsGroups Leaves sizes loader log log [] old old
  none_imported log old = record { groups = []; stored = refl; logged = logs_none log }

  module _ (before after : Option (List FeedEvent)) (old between : Pause D)
      (so_far : ImportsGroups Leaves sizes loader before after [] old between) where
    -- the feed gives something, or nothing
    pub asked_for : (later : Option (List FeedEvent)) (events : List FeedEvent)
        → Logs after later events
        → ImportsGroups Leaves sizes loader before later events old between
    asked_for later events given = record {
      groups = so_far.groups;
      stored = so_far.stored;
      logged = subst (λ l. Logs before later (l ++ events))
          (append-nil (group_events so_far.groups))
          (logs_on before after later (group_events so_far.groups ++ []) events so_far.logged
          given);
    }

    -- a group was stored, and the feed was told
    pub told_of : (group : Group) (last : Option (List FeedEvent)) (new : Pause D)
        → Logs after last (Given group.classes ∷ Told group.outcomes ∷ [])
        → StoresGroup Leaves sizes (defines loader group.classes) group.outcomes between new
        → ImportsGroups Leaves sizes loader before last [] old new
    told_of group last new told stored = record {
      groups = so_far.groups ++ group ∷ [];
      stored = imports_more so_far.groups group old between new so_far.stored stored;
      logged = subst (λ l. Logs before last l)
          (sym (append-nil (group_events (so_far.groups ++ group ∷ []))
          ∙ group_events_more so_far.groups group))
          (subst (λ l. Logs before last (l ++ (Given group.classes ∷ Told group.outcomes ∷ [])))
          (append-nil (group_events so_far.groups))
          (logs_on before after last (group_events so_far.groups ++ [])
          (Given group.classes ∷ Told group.outcomes ∷ []) so_far.logged told));
    }

  -- ---- why an import ends

  pub turn_broken : (before after : Option (List FeedEvent)) (classes : List (List ℕ))
      (f : ImportFault) (old new : Pause D) → Logs before after (Given classes ∷ [])
      → ImportsGroup Leaves sizes (defines loader classes) (Err f) old new
      → RunsTurn Leaves sizes loader before after (Err f) old new
  turn_broken before after classes fault.Device old new given lost = (classes, given, lost)
  turn_broken before after classes fault.NoMemory old new given same =
      (Given classes ∷ [], inr (classes, refl), given, same)
  turn_broken before after classes (fault.Open f) old new given never = absurd never
  turn_broken before after classes (fault.Loader r) old new given never = absurd never

  pub feed_broken : (before after later : Option (List FeedEvent)) (f : ImportFault)
      (old between new : Pause D) → ImportsGroups Leaves sizes loader before after [] old between
      → IsReady between.machine → RunsTurn Leaves sizes loader after later (Err f) between new
      → RunsFeed Leaves sizes loader before later (Err f) old new
  feed_broken before after later fault.Device old between new so_far ready turn = record {
    classes = turn.0;
    between = between;
    imported = asked_for before after old between so_far later (Given turn.0 ∷ []) turn.1;
    lost = turn.2;
  }
  feed_broken before after later fault.NoMemory old between new so_far ready turn = record {
    rest = turn.0;
    imported = subst (λ (p : Pause D). ImportsGroups Leaves sizes loader before later turn.0 old p)
        (sym turn.3) (asked_for before after old between so_far later turn.0 turn.2);
    unasked = turn.1;
    ready = subst (λ (p : Pause D). IsReady p.machine) (sym turn.3) ready;
  }
  feed_broken before after later (fault.Open f) old between new so_far ready turn = absurd turn
  feed_broken before after later (fault.Loader r) old between new so_far ready turn = absurd turn

  pub feed_ended : (before after later : Option (List FeedEvent)) (number : ℕ)
      (old between new : Pause D) → ImportsGroups Leaves sizes loader before after [] old between
      → IsReady between.machine → RunsTurn Leaves sizes loader after later (Ok false) between new
      → number ≡ new.machine.acknowledged
      → RunsFeed Leaves sizes loader before later (Ok number) old new
  feed_ended before after later number old between new so_far ready turn told =
      let then = subst (λ (p : Pause D). IsReady p.machine) (sym turn.1) ready in (
        subst (λ (p : Pause D). ImportsGroups Leaves sizes loader before later (NoMore ∷ []) old p)
            (sym turn.1) (asked_for before after old between so_far later (NoMore ∷ []) turn.0),
        then,
        told ∙ (then.caught.stored ∙ then.all),
      )

  -- ---- with the loader

  pub runs_on : (before after : Option (List FeedEvent)) (result : Result ℕ ImportFault)
      (old between new : Pause D) → AddsLoader Leaves sizes loader old between
      → RunsFeed Leaves sizes loader before after result between new
      → Runs Leaves sizes loader before after result old new
  runs_on before after (Ok number) old between new added ran =
      record { between = between; added = added; ran = ran }
  runs_on before after (Err fault.Device) old between new added ran =
      inr (record { between = between; added = added; ran = ran })
  runs_on before after (Err fault.NoMemory) old between new added ran =
      record { between = between; added = added; ran = ran }
  runs_on before after (Err (fault.Open f)) old between new added ran = absurd ran
  runs_on before after (Err (fault.Loader r)) old between new added ran = absurd ran

  pub loader_ends : (log : Option (List FeedEvent)) (f : ImportFault) (old new : Pause D)
      → RunsLoader Leaves sizes loader (Err f) old new
      → Runs Leaves sizes loader log log (Err f) old new
  loader_ends log fault.Device old new ran = inl (record { ran = ran; unasked = refl })
  loader_ends log (fault.Loader r) old new ran = record { ran = ran; unasked = refl }
  loader_ends log fault.NoMemory old new ran = absurd ran
  loader_ends log (fault.Open f) old new ran = absurd ran

-- ---- on a disk

module _ {D : Type 0} (view : View D) (loader : List ℕ) (before after : Option (List FeedEvent))
    (disk left : D) where
  pub imports_from : (result : Result ℕ ImportFault)
      → RunsOnDisk view disk left
      (λ sizes. Runs (LeavesOnly view) sizes loader before after result)
      → Imports view loader before after disk result left
  imports_from (Ok number) r = r
  imports_from (Err fault.Device) r = r
  imports_from (Err fault.NoMemory) r = r
  imports_from (Err (fault.Loader refusal)) r = r
  imports_from (Err (fault.Open f)) r = absurd r.came
