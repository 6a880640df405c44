-- What is found, handed out and learnt.
-- For `Front::find`, `Front::learn`, `Front::seal`.
use Rattle.std.proofs.Common.{◌≡◌, ℕ, ◌+◌, ◌-◌, ◌≤◌, Bool, true, false, cond, List, [], ◌∷◌, length}
use Rattle.std.proofs.Common.{Option, Some, None, refl, sym, ap, subst, ◌∙◌, arith}
use Rattle.std.specs.Prelude.{max, nat_lt}
use Rattle.std.specs.List.{AllByRecursion}
use Rattle.std.specs.Option.{option_and_then}
use Rattle.std.proofs.lemmas.Bool.{ltb-true}
use Rattle.cm_pool.specs.declared.chunk.Chunk.{Chunk}
use Rattle.cm_pool.specs.FreeSpace.{FreeSpace, IsFreeSpace, with_chunk}
use Rattle.cm_layout.specs.Rows.{number_of}
use Rattle.cm_layout.specs.declared.row.Row.{Row}
use Rattle.cm_rows.specs.Rows.{LiveRows}
use Rattle.cm_record.specs.Names.{class_name_in}
use Rattle.cm_index.specs.Index.{class_of}
use Rattle.cm_group.specs.Groups.{Handed, next_number}
use Rattle.cm_space.specs.Space.{SpaceState, WaitingChunks, with_chunks, waiting_chunks}
use Rattle.cm_space.specs.Space.{due, not_due, learnt}
use Rattle.cm_space.specs.Ownership.{IsSpace}
use Rattle.cm_state.specs.State.{words_show, state_of, class_in, class_among}
use Rattle.cm_state.specs.Laws.{ClassesAreFound}
use Rattle.cm_front.specs.Unsealed.{WaitingGroups}
use Rattle.cm_front.specs.Front.{IsFront, IsDueLater, front_of}
use Rattle.cm_front.specs.Accepting.{HandsOut}
use Rattle.cm_front.proofs.Causes.{one_class}

-- ---- lookup

pub nothing_there : ClassesAreFound (List ℕ) → (rows : List (Row (List ℕ))) (x name : List ℕ)
    → number_of x rows ≡ None → class_in (state_of words_show rows) x name ≡ None
nothing_there classes rows x name none =
    classes words_show rows x name
    ∙ ap (option_and_then (λ u. class_among words_show u name rows)) none

pub what_is_there : ClassesAreFound (List ℕ)
    → (rows : List (Row (List ℕ))) (x name : List ℕ) (u : ℕ)
    (o : Option (List ℕ)) → number_of x rows ≡ Some u → class_of class_name_in u name rows ≡ o
    → class_in (state_of words_show rows) x name ≡ o
what_is_there classes rows x name u o found is =
    classes words_show rows x name
    ∙ (ap (option_and_then (λ v. class_among words_show v name rows)) found
    ∙ (sym (one_class u name rows) ∙ is))

-- ---- handing out

pub handed : (book : LiveRows (List ℕ)) (space : SpaceState) (old new : WaitingGroups)
    (number sealed learnt k : ℕ) (broken closed : Bool) (oldest group : Handed)
    → old.groups ≡ oldest ∷ new.groups
    → group ≡ record { first = oldest.first; learnt = learnt; entries = oldest.entries }
    → k ≡ next_number oldest - 1
    → HandsOut (front_of book space old number sealed learnt broken closed) group
    (front_of book space new number k learnt broken closed)
handed book space old new number sealed learnt k broken closed oldest group is
    group_is k_is =
    record {
      oldest = oldest;
      rest = new.groups;
      is_oldest = is;
      group_is = group_is;
      after = ap (λ n. front_of book space new number n learnt broken closed) k_is;
    }

pub last_handed : (oldest group : Handed) (learnt first count : ℕ)
    → group ≡ record { first = oldest.first; learnt = learnt; entries = oldest.entries }
    → first ≡ group.first → count ≡ length group.entries → 1 ≤ length group.entries
    → first + (count - 1) ≡ next_number oldest - 1
last_handed oldest group learnt first count is first_is count_is some =
    let begin : first ≡ oldest.first = first_is ∙ ap (λ (g : Handed). g.first) is in
    let entries : length group.entries ≡ length oldest.entries =
    ap (λ (g : Handed). length g.entries) is in
    omega (arith, begin, entries, count_is, some)

-- ---- learning

same_geometry : (p : FreeSpace) (cs : List Chunk) → (with_chunks p cs).geometry ≡ p.geometry
same_geometry p [] = refl
same_geometry p (c ∷ cs) = same_geometry (with_chunk p c) cs

later : (learnt m n : ℕ) (ws : List WaitingChunks) → AllByRecursion (IsDueLater learnt n) ws
    → AllByRecursion (IsDueLater m n) (not_due m ws)
later learnt m n [] h = tt
later learnt m n (w ∷ ws) h = by_test (later learnt m n ws h.1) (nat_lt m w.number) refl
  where
    by_test : AllByRecursion (IsDueLater m n) (not_due m ws) → (t : Bool) → nat_lt m w.number ≡ t
        → AllByRecursion (IsDueLater m n) (cond t (w ∷ not_due m ws) (not_due m ws))
    by_test rest true e = (record { from = ltb-true m w.number e; to = h.0.to }, rest)
    by_test rest false e = rest

pub learnt_front : (book : LiveRows (List ℕ)) (space left : SpaceState) (unsealed : WaitingGroups)
    (number sealed old m k : ℕ) (broken closed : Bool)
    → IsFront (front_of book space unsealed number sealed old broken closed)
    → m ≡ max old k → k ≤ sealed → left ≡ learnt space m → IsSpace left → IsFreeSpace left.pool
    → IsFront (front_of book left unsealed number sealed m broken closed)
learnt_front book space left unsealed number sealed old m k broken closed f is below
    left_is whole
    free =
    let before = f.learnt in
    subst (λ t. IsFront (front_of book t unsealed number sealed m broken closed))
    (sym left_is)
    (record {
      lawful = f.lawful;
      rows = f.rows;
      right = f.right;
      space = record {
        is = subst IsSpace left_is whole;
        pool = subst (λ (t : SpaceState). IsFreeSpace t.pool) left_is free;
        geometry =
            same_geometry space.pool (waiting_chunks (due m space.waiting)) ∙ f.space.geometry;
        chains = f.space.chains;
      };
      known = f.known;
      waiting = later old m number space.waiting f.waiting;
      learnt = omega (arith, is, below, before);
      numbers = f.numbers;
      groups = f.groups;
    })
