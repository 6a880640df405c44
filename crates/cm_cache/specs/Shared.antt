-- What lies under the lock, and the passes through which it is used.
use Rattle.std.specs.Prelude.{◌≡◌, ℕ, ◌+◌, ◌≤◌, Bool, true, false, List, [], ◌∷◌, ◌++◌}
use Rattle.std.specs.Prelude.{length, map, refl}
use Rattle.std.specs.List.{All}
use Rattle.std.specs.Prelude.{Result, IfOk, IfErr}
use Rattle.std.specs.Coded.{Coded, code_by, coded×, coded_list, codes}
use Rattle.cm_commands.specs.declared.refusal.Refusal.{Refusal}
use Rattle.cm_commands.specs.declared.refusal.Refusal.TheVariants as refusal
use Rattle.cm_commands.specs.Refusals.{refusal_number}
use Rattle.cm_state.specs.Step.{Change}
use Rattle.cm_front.specs.Front.{FrontState}
use Rattle.cm_cache.specs.declared.board_view.Load.{Load}
use Rattle.cm_cache.specs.declared.board_view.Seen.{Seen}
use Rattle.cm_cache.specs.Board.{loads_after, HasLoadedSince}
use Rattle.cm_cache.specs.Holds.{Hold, hold_of, hold_code, NothingStood, StoodAgainst}

-- with how many passes a cache may be started
abbrev pub most_passes : ℕ
most_passes = 65536

-- how many commands were accepted through a pass, what it saw on the Board, whether a call with it
-- was left unsure, all changes that were accepted through it, each with its number, all that it
-- loaded from the Board, and each hold of the lock
pub record PassState : Type 0 where
  pub share : ℕ
  pub seen : Seen
  pub marked : Bool
  pub changes : List (Change (List ℕ) × ℕ)
  pub loads : List Load
  pub holds : List Hold

-- the numbers of these changes
abbrev pub numbers_of : List (Change (List ℕ) × ℕ) → List ℕ
numbers_of changes = map (λ (c : Change (List ℕ) × ℕ). c.1) changes

-- the numbers of all changes of these passes
abbrev pub numbers_of_passes : List PassState → List ℕ
numbers_of_passes [] = []
numbers_of_passes (p ∷ passes) = numbers_of p.changes ++ numbers_of_passes passes

-- the Board was read once more
abbrev pub looked : PassState → Seen → PassState
looked p seen = record p { seen = seen; loads = loads_after p.loads seen }

-- the lock was held once more
abbrev pub held : PassState → Seen → FrontState → PassState
held p seen front = record p { holds = p.holds ++ hold_of seen front ∷ [] }

-- one more command was accepted through it
abbrev pub counted : PassState → Change (List ℕ) → ℕ → PassState
counted p change n =
    record p { share = p.share + 1; changes = p.changes ++ (change, n) ∷ [] }

-- a pass with what another has seen, loaded and done under the lock
abbrev pub with_news : PassState → PassState → PassState
with_news p other =
    record p { seen = other.seen; loads = other.loads; holds = other.holds }

-- What a changing call returns, given its pass before and after it. `Ok`: the command was accepted
-- with this number through the pass, which has seen a receipt of at least that number. `Unsure`: it
-- was still accepted, and the pass is marked. In both cases nothing stood against it. Any other
-- refusal: nothing was accepted through the pass, for the reason that the cache had against it.
--
-- The lock was held once. What the cache learnt then is what the Board showed in this call: the
-- first loads of the call found it.
pub record ReportsChange (old : PassState) (change : Change (List ℕ)) (result : Result ℕ Refusal)
    (new : PassState) : Type 0 where
  pub stored : IfOk result (λ n. (n ≤ new.seen.receipt.number)
      × (new ≡ with_news (counted old change n) new))
  pub unsure : IfErr result (λ r. (n : ℕ) → r ≡ refusal.Unsure n
      → new ≡ record (with_news (counted old change n) new) { marked = true })
  pub refused : IfErr result (λ r. ¬ (refusal_number r ≡ 13) → new ≡ with_news old new)
  pub later : old.seen.receipt.number ≤ new.seen.receipt.number
  pub hold : Hold
  pub once : new.holds ≡ old.holds ++ hold ∷ []
  pub just_seen : HasLoadedSince (loads_after old.loads hold.seen) new.loads
  pub accepted : IfOk result (NothingStood hold change)
  pub still_accepted : IfErr result (λ r. (n : ℕ) → r ≡ refusal.Unsure n
      → NothingStood hold change n)
  pub reason : IfErr result (λ r. ¬ (refusal_number r ≡ 13) → StoodAgainst hold change r)

-- what a pass is as data, without the holds
pub pass_parts_code : Coded
    (ℕ × (Seen × (Bool × (List (Change (List ℕ) × ℕ) × List Load))))
pass_parts_code = Prim.hlevel codes

abbrev pub pass_code : Coded PassState
pass_code =
    code_by ((ℕ × (Seen × (Bool × (List (Change (List ℕ) × ℕ) × List Load)))) × List Hold)
    (coded× pass_parts_code (coded_list hold_code))
    (λ p. ((p.share, (p.seen, (p.marked, (p.changes, p.loads)))), p.holds))
    (λ t. record {
      share = t.0.0;
      seen = t.0.1.0;
      marked = t.0.1.1.0;
      changes = t.0.1.1.1.0;
      loads = t.0.1.1.1.1;
      holds = t.1;
    })
    (λ _. refl)

-- nothing was done yet through a pass
pub record IsNewPass (p : PassState) : Type 0 where
  pub share : p.share ≡ 0
  pub unmarked : p.marked ≡ false
  pub changes : p.changes ≡ []
  pub holds : p.holds ≡ []

-- as many new passes
pub record AreNewPasses (count : ℕ) (passes : List PassState) : Type 0 where
  pub length_is : length passes ≡ count
  pub new : All IsNewPass passes
