-- What a crash may leave of a session's disk.
-- For `Session::advance`, `Session::committed`, `Session::images` and others.
use Rattle.std.proofs.Common.{◌≡◌, ℕ, ◌+◌, ◌≤◌, List, [], ◌∷◌, ◌++◌, length, map, inl, inr, refl}
use Rattle.std.proofs.Common.{Bool, Option, Some, None, sym, ap, subst, ◌∙◌, arith, append_assoc}
use Rattle.std.specs.Prelude.{◌⊎◌}
use Rattle.std.proofs.lemmas.List.{length-append}
use Rattle.cm_disk.specs.Disk.{View}
use Rattle.cm_class.specs.declared.class_file.ClassFile.{ClassFile}
use Rattle.cm_pool.specs.Geometry.{Sizes}
use Rattle.cm_layout.specs.declared.row.Row.{Row}
use Rattle.cm_layout.specs.declared.row.Row.TheVariants.{Loader, Class}
use Rattle.cm_layout.specs.Rows.{classes_in}
use Rattle.cm_layout.specs.Frames.{Frames}
use Rattle.cm_group.specs.Groups.{Carried, Handed}
use Rattle.cm_guards.specs.Calls.{LeavesOnly}
use Rattle.cm_state.specs.State.{class_shows, state_of}
use Rattle.cm_state.specs.Stands.{EachKeepsRules, arenas_among}
use Rattle.cm_commit.specs.Offers.{filled, rows_after_group}
use Rattle.cm_guards.specs.Stages.{Stage, Store, Turn, MakeDurable, Cut, turned, leaves}
use Rattle.cm_commit.specs.States.{Work, Storing, Trimming, CommitterState, ShowsCache, ShowsWith}
use Rattle.cm_commit.specs.States.{NoGroup, ShowsCommitted, MayLeave}
use Rattle.cm_front.specs.Front.{FrontState}
use Rattle.cm_handover.specs.Ahead.{pending}
use Rattle.cm_commands.specs.Machine.{Machine, accepted_to}
use Rattle.cm_handover.specs.Following.{AreRightClasses, Follows}
use Rattle.cm_handover.specs.Laws.{CommittedFollows, CommandsAreCounted, RowsAreAfter, IsAfter}
use Rattle.cm_session.specs.Images.{StandsFor, StandsForSome}
use Rattle.cm_session.specs.Session.{of_underway, commands_of, IsSession}

-- ---- rows that are after commands

each_keeps : (classes : List (Row ClassFile)) → AreRightClasses classes → EachKeepsRules classes
each_keeps [] right = tt
each_keeps (Loader r ∷ rows) right = each_keeps rows right
each_keeps (Class r c ∷ rows) right = (right.0.kept, each_keeps rows right.1)

pub shows : (sizes : Sizes) (k : Machine) (rows : List (Row (List ℕ))) (number : ℕ)
    (contents : List ℕ) → number ≤ accepted_to k → IsAfter sizes k rows number
    → ShowsCache sizes rows number contents → StandsFor sizes k number contents
shows sizes k rows number contents known is s = record {
  from = is.least;
  known = known;
  state = state_of class_shows is.classes;
  arenas = arenas_among (classes_in is.classes) is.classes;
  stands = record {
    rows = is.classes;
    framed = subst (λ l. Frames sizes contents l number) (s.records ∙ sym is.are.words)
        s.stands.framed;
    kept = each_keeps is.classes is.are.right;
    differ = is.are.cache.differ;
    state_is = refl;
    arenas_are = refl;
  };
  holds = is.holds;
}

-- ---- what is committed, and what is under way

at_gate : (stages : List Stage) (before after : List ℕ → Type 0) (image : List ℕ)
    → turned stages before after image → before image ⊎ after image
at_gate [] before after image l = l.which
at_gate (stage ∷ stages) before after image l = inl l

either : (left : List Stage) (before after : List ℕ → Type 0) (image : List ℕ)
    → leaves left before after image → before image ⊎ after image
either [] before after image l = inl l
either (Store writes ∷ stages) before after image l = inl l
either (Turn gate byte ∷ stages) before after image l = at_gate stages before after image l
either (MakeDurable ∷ stages) before after image l = at_gate stages before after image l
either (Cut len ∷ stages) before after image l = inl l

without_group : {D : Type 0} (s : CommitterState D) (u : Option Work) → NoGroup u
    → (image : List ℕ) → ShowsWith s u image → ShowsCommitted s image
without_group s None none image shows = shows
without_group s (Some Trimming) none image shows = shows
without_group s (Some (Storing group)) none image shows = absurd none

-- while no group is stored, a crash leaves what is committed
pub shows_committed : {D : Type 0} (s : CommitterState D) → NoGroup s.underway → (image : List ℕ)
    → MayLeave s image → ShowsCommitted s image
shows_committed s none image l =
    elim (either s.left (ShowsCommitted s) (ShowsWith s s.underway) image l) [
      | inl shows ↦ shows
      | inr shows ↦ without_group s s.underway none image shows
    ]

module _ {D : Type 0} (committed : CommittedFollows) (counted : CommandsAreCounted)
    (after : RowsAreAfter) (k : Machine) (front : FrontState) (committer : CommitterState D)
    (queue : List Handed) (sealed : ℕ) (failed : Bool)
    (i : IsSession k front committer queue sealed failed) where
  abbrev sizes : Sizes
  sizes = committer.sizes

  abbrev Waits : List Carried → Type 0
  Waits out = Follows sizes k committer.rows committer.number (map filled (pending out front))

  all_known : (out : List Carried) → Waits out
      → accepted_to k ≡ committer.number + length (pending out front)
  all_known out f = counted sizes k committer.rows committer.number (pending out front) f

  now : (out : List Carried) → Waits out → committer.number + length out ≡ front.sealed
      → (image : List ℕ) → ShowsCache sizes committer.rows committer.number image
      → StandsForSome sizes k image
  now out f to image s = record {
    number = committer.number;
    least = let is = i.told.acknowledged_is in omega (arith, is);
    most = let is = i.told.sealed_is in omega (arith, is, to);
    stands = shows sizes k committer.rows committer.number image
        (let all = all_known out f in omega (arith, all))
        (after sizes k committer.rows committer.number (pending out front) f) s;
  }

  then : (group : Handed) (rest : List Handed) → Waits (group.entries ++ commands_of rest)
      → committer.number + length (group.entries ++ commands_of rest) ≡ front.sealed
      → (image : List ℕ)
      → ShowsCache sizes (rows_after_group committer.rows group.entries)
      (committer.number + length group.entries) image
      → StandsForSome sizes k image
  then group rest f to image s = record {
    number = committer.number + length group.entries;
    least = let is = i.told.acknowledged_is in omega (arith, is);
    most =
        let is = i.told.sealed_is in
        let long = length-append group.entries (commands_of rest) in
        omega (arith, is, to, long);
    stands = shows sizes k (rows_after_group committer.rows group.entries)
        (committer.number + length group.entries) image
        (let all = all_known (group.entries ++ commands_of rest) f in
        let more = length-append (group.entries ++ commands_of rest) (commands_of front.unsealed) in
        let long = length-append group.entries (commands_of rest) in
        omega (arith, all, more, long))
        (after sizes k (rows_after_group committer.rows group.entries)
        (committer.number + length group.entries) (pending (commands_of rest) front) next) s;
  }
    where
      split : pending (group.entries ++ commands_of rest) front
          ≡ group.entries ++ pending (commands_of rest) front
      split = append_assoc group.entries (commands_of rest) (commands_of front.unsealed)

      next : Follows sizes k (rows_after_group committer.rows group.entries)
          (committer.number + length group.entries)
          (map filled (pending (commands_of rest) front))
      next =
          committed sizes k committer.rows committer.number group.entries
          (pending (commands_of rest) front)
          (subst (λ l. Follows sizes k committer.rows committer.number (map filled l)) split f)
          (let numbers = i.between.ahead.numbers in
          let last = i.cache.is.numbers in
          let here = i.between.ahead.sealed in
          let long = ap length split in
          let more =
          length-append (group.entries ++ commands_of rest) (commands_of front.unsealed) in
          let out = length-append
          (commands_of (of_underway committer.underway ++ queue)) (commands_of front.unsealed) in
          omega (arith, numbers, last, here, to, long, more, out))

  with_underway : (u : Option Work) → Waits (commands_of (of_underway u ++ queue))
      → committer.number + length (commands_of (of_underway u ++ queue)) ≡ front.sealed
      → (image : List ℕ) → ShowsWith committer u image → StandsForSome sizes k image
  with_underway None f to image s = now (commands_of queue) f to image s
  with_underway (Some Trimming) f to image s = now (commands_of queue) f to image s
  with_underway (Some (Storing group)) f to image s = then group queue f to image s

  waits : Waits (commands_of (of_underway committer.underway ++ queue))
  waits =
      subst (λ z. Follows z k committer.rows committer.number
      (map filled (pending (commands_of (of_underway committer.underway ++ queue)) front)))
      i.cache.sizes i.follows

  pub stands_for_some : (image : List ℕ) → MayLeave committer image → StandsForSome sizes k image
  stands_for_some image l =
      elim (either committer.left (ShowsCache sizes committer.rows committer.number)
      (ShowsWith committer committer.underway) image l) [
        | inl s ↦ now (commands_of (of_underway committer.underway ++ queue)) waits
            i.between.ahead.sealed image s
        | inr s ↦ with_underway committer.underway waits i.between.ahead.sealed image s
      ]

-- ---- at each moment

pub leaves_so : {D : Type 0} (view : View D) (old new : D)
    (P Q : List ℕ → Type 0) → ((image : List ℕ) → P image → Q image)
    → LeavesOnly view old new P → LeavesOnly view old new Q
leaves_so view old new P Q f l = record {
  later = l.later;
  each = λ image left. f image (l.each image left);
  before = λ t image le left.
      elim (l.before t image le left) [ inl past ↦ inl past | inr during ↦ inr (f image during) ];
}
