-- What is handed over is always what a committer accepts.
use Rattle.std.specs.Prelude.{ℕ, ◌+◌, ◌^◌, ◌≤◌, Bool, List, [], ◌++◌, length, Ok}
use Rattle.cm_layout.specs.declared.row.Row.{Row}
use Rattle.cm_group.specs.Groups.{Carried, Handed}
use Rattle.cm_rows.specs.Rows.{LiveRows}
use Rattle.cm_state.specs.State.{words_show}
use Rattle.cm_state.specs.Step.{Change}
use Rattle.cm_state.specs.Entries.{AreCacheRows}
use Rattle.cm_commit.specs.Offers.{MayJoinAll, rows_after_group}
use Rattle.cm_front.specs.Front.{FrontState, IsFront}
use Rattle.cm_front.specs.Accepting.{FrontAnswers, HandsOut, with_learnt}
use Rattle.cm_front.specs.Restoring.{Restores}
use Rattle.cm_handover.specs.Ahead.{IsAhead}

-- ---- the accepted cache

-- A cache that was just opened isn't ahead.
abbrev pub OpenedIsAhead : Type 0
OpenedIsAhead =
    (book : LiveRows (List ℕ)) (number : ℕ) (s : FrontState) → IsFront s
    → AreCacheRows words_show book.sizes number book.rows → Restores book number s
    → IsAhead book.rows number [] s

-- The cache stays ahead with each command that is accepted, and also when it hands out, learns what
-- is committed, or fails.
abbrev pub AcceptedIsAhead : Type 0
AcceptedIsAhead =
    (rows : List (Row (List ℕ))) (number : ℕ) (out : List Carried) (s new : FrontState)
    (change : Change (List ℕ)) (n : ℕ) → IsFront s → IsFront new
    → IsAhead rows number out s → FrontAnswers s change (Ok n) new → IsAhead rows number out new

abbrev pub HandedIsAhead : Type 0
HandedIsAhead =
    (rows : List (Row (List ℕ))) (number : ℕ) (out : List Carried) (s new : FrontState)
    (group : Handed) → IsFront s → IsAhead rows number out s → HandsOut s group new
    → IsAhead rows number (out ++ group.entries) new

abbrev pub LearntIsAhead : Type 0
LearntIsAhead =
    (rows : List (Row (List ℕ))) (number : ℕ) (out : List Carried) (s : FrontState) (learnt : ℕ)
    → IsFront s → IsAhead rows number out s → learnt ≤ number
    → IsAhead rows number out (with_learnt s learnt)

abbrev pub FailedIsAhead : Type 0
FailedIsAhead =
    (rows : List (Row (List ℕ))) (number : ℕ) (out : List Carried) (s : FrontState)
    (broken closed : Bool) → IsAhead rows number out s
    → IsAhead rows number out (record s { broken = broken; closed = closed })

-- ---- the committed rows

-- The oldest commands that were handed out, as one group, may be committed next.
pub record MayBeNext (rows : List (Row (List ℕ))) (number : ℕ) (group : Handed)
    (s : FrontState) : Type 0 where
  pub ends : number + length group.entries ≤ 2 ^ 63
  pub entries : MayJoinAll s.sizes rows rows number group.entries

abbrev pub HandedMayBeNext : Type 0
HandedMayBeNext =
    (rows : List (Row (List ℕ))) (number : ℕ) (group : Handed) (out : List Carried)
    (s : FrontState) → IsFront s → IsAhead rows number (group.entries ++ out) s
    → MayBeNext rows number group s

-- Once they are committed, the cache is ahead of the rows after them.
abbrev pub CommittedIsAhead : Type 0
CommittedIsAhead =
    (rows : List (Row (List ℕ))) (number : ℕ) (group : Handed) (out : List Carried)
    (s : FrontState) → IsFront s → IsAhead rows number (group.entries ++ out) s
    → IsAhead (rows_after_group rows group.entries) (number + length group.entries) out s
