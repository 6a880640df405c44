-- A plan of device calls, as stages: what is written and synced, one gate's byte after another; and
-- what a crash leaves while the stages are carried out, from one fact on the contents, P, to
-- another, Q. The last gate turns P into Q; each gate before it leaves P, whatever byte is there.
use Rattle.std.specs.Prelude.{◌≡◌, ℕ, ◌+◌, ◌^◌, ◌≤◌, List, [], ◌∷◌, length, take}
use Rattle.std.specs.Prelude.{Result}
use Rattle.cm_disk.specs.Disk.{View, Unsynced, IsDurable}
use Rattle.cm_disk.specs.Calls.{overwritten, WritesOnce, CutsOnce, SyncsOnce}
use Rattle.cm_guards.specs.Guards.{Guard, Agrees, IsBounded, Keeps, EachImage}
use Rattle.cm_guards.specs.Gates.{OneOf, Turns}
use Rattle.cm_guards.specs.Plans.{Write, written, CanWrite}

-- `Store`: bytes that are written, then synced. `Turn`: one byte that is written, then synced.
-- `MakeDurable`: the sync of such a byte that is written already. `Cut`: a cut to a length, then a
-- sync.
pub data Stage : Type 0 where
  Store : List Write → Stage
  Turn : ℕ → ℕ → Stage
  MakeDurable : Stage
  Cut : ℕ → Stage

-- how many device calls a stage takes: each write or cut, and a sync
abbrev pub calls_in : Stage → ℕ
calls_in (Store writes) = length writes + 1
calls_in (Turn gate byte) = 2
calls_in MakeDurable = 1
calls_in (Cut len) = 2

abbrev pub calls_left : List Stage → ℕ
calls_left [] = 0
calls_left (stage ∷ stages) = calls_in stage + calls_left stages

-- the stages that are left after one more call
abbrev pub after_call : List Stage → List Stage
after_call [] = []
after_call (Store [] ∷ stages) = stages
after_call (Store (write ∷ writes) ∷ stages) = Store writes ∷ stages
after_call (Turn gate byte ∷ stages) = MakeDurable ∷ stages
after_call (MakeDurable ∷ stages) = stages
after_call (Cut len ∷ stages) = Store [] ∷ stages

-- the contents after all calls
abbrev pub gone_through : List Stage → List ℕ → List ℕ
gone_through [] contents = contents
gone_through (Store writes ∷ stages) contents = gone_through stages (written writes contents)
gone_through (Turn gate byte ∷ stages) contents =
    gone_through stages (overwritten gate (byte ∷ []) contents)
gone_through (MakeDurable ∷ stages) contents = gone_through stages contents
gone_through (Cut len ∷ stages) contents = gone_through stages (take len contents)

-- ---- one device call

-- the byte of a gate, as a write
abbrev pub gate_write : ℕ → ℕ → Write
gate_write gate byte = record { at = gate; bytes = byte ∷ [] }

-- a write of a plan was made, whether it succeeded or failed
abbrev pub MakesWrite : {D T E : Type 0} → View D → Write → D → D → Result T E → Type 0
MakesWrite view write old new result = WritesOnce view write.at write.bytes old new result

-- the next call of these stages was made
abbrev pub CallsOnce : {D T E : Type 0} → View D → List Stage → D → D → Result T E → Type 0
CallsOnce view [] old new result = ⊥
CallsOnce view (Store [] ∷ stages) old new result =
    SyncsOnce view old new result
CallsOnce view (Store (write ∷ writes) ∷ stages) old new
    result =
    MakesWrite view write old new result
CallsOnce view (Turn gate byte ∷ stages) old new result =
    MakesWrite view (gate_write gate byte) old new result
CallsOnce view (MakeDurable ∷ stages) old new result =
    SyncsOnce view old new result
CallsOnce view (Cut len ∷ stages) old new result =
    CutsOnce view len old new result

-- a disk of this length accepts the write
pub record TakesWrite (write : Write) (len : ℕ) : Type 0 where
  pub starts_within : write.at ≤ len
  pub within_limit : write.at + length write.bytes ≤ 2 ^ 40

-- a disk of this length accepts the next call of these stages
abbrev pub TakesCall : List Stage → ℕ → Type 0
TakesCall [] len = ⊥
TakesCall (Store [] ∷ stages) len = Unit {0}
TakesCall (Store (write ∷ writes) ∷ stages) len = TakesWrite write len
TakesCall (Turn gate byte ∷ stages) len = TakesWrite (gate_write gate byte) len
TakesCall (MakeDurable ∷ stages) len = Unit {0}
TakesCall (Cut to ∷ stages) len = to ≤ len

-- ---- what a crash may leave

-- what a crash may leave while a gate's byte is written, if these stages follow it
abbrev pub turned : List Stage → (List ℕ → Type 0) → (List ℕ → Type 0) → List ℕ → Type 0
turned [] P Q contents = OneOf P Q contents
turned (stage ∷ stages) P Q contents = P contents

-- what a crash may leave while these stages are left
abbrev pub leaves : List Stage → (List ℕ → Type 0) → (List ℕ → Type 0) → List ℕ → Type 0
leaves [] P Q contents = P contents
leaves (Store writes ∷ stages) P Q contents = P contents
leaves (Turn gate byte ∷ stages) P Q contents = turned stages P Q contents
leaves (MakeDurable ∷ stages) P Q contents = turned stages P Q contents
leaves (Cut len ∷ stages) P Q contents = P contents

-- ---- stages that are ready

-- what holds of the contents once a gate's byte is durable, if these stages follow it
abbrev pub claim_behind : List Stage → (List ℕ → Type 0) → (List ℕ → Type 0) → List ℕ → Type 0
claim_behind [] P Q contents = Q contents
claim_behind (stage ∷ stages) P Q contents = P contents

-- The fact holds of the contents, and of whatever agrees with them on what is guarded.
pub record Rests (g : Guard) (P : List ℕ → Type 0) (contents : List ℕ) : Type 0 where
  pub ends : IsBounded g
  pub long : g.needs ≤ length contents
  pub each : (other : List ℕ) → Agrees g contents other → P other

-- writes that touch nothing on which the fact rests; after them the next stages are ready
pub record IsStoreReady (P Behind : List ℕ → Type 0) (writes : List Write)
    (contents : List ℕ) : Type 0 where
  pub guard : Guard
  pub rests : Rests guard P contents
  pub can : CanWrite guard writes (length contents)
  pub behind : Behind (written writes contents)

-- a gate's byte, which turns one fact into the other
pub record IsTurnReady (P Next Behind : List ℕ → Type 0) (gate byte : ℕ)
    (contents : List ℕ) : Type 0 where
  pub holds : P contents
  pub turns : Turns P Next gate byte contents
  pub behind : Behind (overwritten gate (byte ∷ []) contents)

-- a cut after everything that the fact rests on
pub record IsCutReady (P Behind : List ℕ → Type 0) (len : ℕ) (contents : List ℕ) : Type 0 where
  pub guard : Guard
  pub rests : Rests guard P contents
  pub enough : guard.needs ≤ len
  pub within : len ≤ length contents
  pub behind : Behind (take len contents)

-- at the end: the second fact, and this many bytes
pub record IsThrough (Q : List ℕ → Type 0) (long : ℕ) (contents : List ℕ) : Type 0 where
  pub holds : Q contents
  pub size : length contents ≡ long

-- If everything is durable, these stages lead from P to Q, and to contents of this length. No plan
-- begins with the sync of a byte that is written already.
abbrev pub IsReady : (List ℕ → Type 0) → (List ℕ → Type 0) → ℕ → List Stage → List ℕ → Type 0
IsReady P Q long [] contents = IsThrough Q long contents
IsReady P Q long (Store writes ∷ stages) contents =
    IsStoreReady P (IsReady P Q long stages) writes contents
IsReady P Q long (Turn gate byte ∷ stages) contents =
    IsTurnReady P (claim_behind stages P Q) (IsReady P Q long stages) gate byte contents
IsReady P Q long (MakeDurable ∷ stages) contents = ⊥
IsReady P Q long (Cut len ∷ stages) contents =
    IsCutReady P (IsReady P Q long stages) len contents

-- ---- between two calls

-- bytes are written at places that aren't guarded
pub record IsStoring (P Behind : List ℕ → Type 0) (writes : List Write) (contents : List ℕ)
    (unsynced : Unsynced) : Type 0 where
  pub guard : Guard
  pub keeps : Keeps guard contents unsynced
  pub each : (other : List ℕ) → Agrees guard contents other → P other
  pub can : CanWrite guard writes (length contents)
  pub behind : Behind (written writes contents)

-- a gate's byte is written, but not yet synced
pub record IsSettling (P Behind : List ℕ → Type 0) (contents : List ℕ)
    (unsynced : Unsynced) : Type 0 where
  pub images : EachImage contents unsynced P
  pub behind : Behind contents

-- everything is durable
pub record AreAllStored (Ready : List ℕ → Type 0) (contents : List ℕ)
    (unsynced : Unsynced) : Type 0 where
  pub durable : IsDurable contents unsynced
  pub ready : Ready contents

abbrev pub StagesStand : (List ℕ → Type 0) → (List ℕ → Type 0) → ℕ → List Stage → List ℕ → Unsynced
    → Type 0
StagesStand P Q long [] contents unsynced = AreAllStored (IsReady P Q long []) contents unsynced
StagesStand P Q long (Store writes ∷ stages) contents unsynced =
    IsStoring P (IsReady P Q long stages) writes contents unsynced
StagesStand P Q long (Turn gate byte ∷ stages) contents unsynced =
    AreAllStored (IsReady P Q long (Turn gate byte ∷ stages)) contents unsynced
StagesStand P Q long (MakeDurable ∷ stages) contents unsynced =
    IsSettling (turned stages P Q) (IsReady P Q long stages) contents unsynced
StagesStand P Q long (Cut len ∷ stages) contents unsynced =
    AreAllStored (IsReady P Q long (Cut len ∷ stages)) contents unsynced
