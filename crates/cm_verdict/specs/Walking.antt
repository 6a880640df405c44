-- A walk in memory, and what the definitions say of it.
use Rattle.std.specs.Prelude.{◌≡◌, ◌≤◌, ◌+◌, ◌^◌, true, Result, Ok, Err}
use Rattle.cm_rows.specs.Rows.{is_above}
use Rattle.cm_verdict.specs.declared.fault.Damage.{Damage}
use Rattle.cm_verdict.specs.declared.fault.FileFault.{FileFault}
use Rattle.cm_verdict.specs.declared.walk.HalfWalk.{HalfWalk}
use Rattle.cm_verdict.specs.declared.walk.WalkStep.{WalkStep}
use Rattle.cm_verdict.specs.declared.walk.WalkStep.TheVariants.{On, End}
use Rattle.cm_verdict.specs.Walk.{Walked, Turn, Stop, Go, Bad}

abbrev pub walked : HalfWalk → Walked
walked h = record {
  version = h.version;
  slot = h.slot;
  rows = h.book.rows;
  number = h.number;
  live = h.live;
  left = h.left;
}

-- what holds between two turns: the rows are of these sizes, all loaders have numbers already used,
-- each slot since the base has given at most one number, and what is left lies in the half
pub record IsSteady (h : HalfWalk) : Type 0 where
  pub sizes : h.book.sizes ≡ h.geometry
  pub above : is_above (h.number + 1) h.book.rows ≡ true
  pub number : h.number ≤ 2 ^ 63 + h.slot
  pub slot : h.slot + h.left ≤ h.geometry.slots
  pub slots : h.geometry.slots ≤ 65536
  pub first : h.first ≤ 65536

-- a turn leaves the sizes, the version, and where the half lies as they were
pub record IsSameWalk (old new : HalfWalk) : Type 0 where
  pub geometry : new.geometry ≡ old.geometry
  pub version : new.version ≡ old.version
  pub first : new.first ≡ old.first

-- what slots of live rows or of a group say
abbrev pub IsWalkTurn : Result (Unit {0}) Damage → Walked → Turn → Type 0
IsWalkTurn (Ok u) next t = t ≡ Go next
IsWalkTurn (Err what) next t = t ≡ Bad what

-- what the next slots say; if the half ends, nothing has changed
abbrev pub IsTurn : Result WalkStep Damage → Walked → Walked → Turn → Type 0
IsTurn (Ok On) old next t = t ≡ Go next
IsTurn (Ok End) old next t = (t ≡ Stop) × (next ≡ old)
IsTurn (Err what) old next t = t ≡ Bad what

-- the result of a walk
abbrev pub IsWalk : Result HalfWalk FileFault → Result Walked FileFault → Type 0
IsWalk (Ok h) r = r ≡ Ok (walked h)
IsWalk (Err fault) r = r ≡ Err fault
