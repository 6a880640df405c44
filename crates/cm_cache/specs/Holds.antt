-- What a changing call does while it holds the lock.
use Rattle.std.specs.Prelude.{ℕ, List, refl}
use Rattle.std.specs.Coded.{Coded, code_by, coded×, codes}
use Rattle.cm_commands.specs.declared.refusal.Refusal.{Refusal}
use Rattle.cm_state.specs.Step.{Change}
use Rattle.cm_front.specs.Front.{FrontState, front_code}
use Rattle.cm_front.specs.Accepting.{IsReason}
use Rattle.cm_cache.specs.declared.board_view.Seen.{Seen}
use Rattle.cm_cache.specs.Handing.{MayAccept, with_seen}

-- what was seen on the Board, and the accepted cache before it learnt of that
pub record Hold : Type 0 where
  pub seen : Seen
  pub front : FrontState

abbrev pub hold_of : Seen → FrontState → Hold
hold_of seen front = record { seen = seen; front = front }

pub seen_code : Coded Seen
seen_code = Prim.hlevel codes

-- a value of this kind as data
abbrev pub hold_code : Coded Hold
hold_code =
    code_by (Seen × FrontState) (coded× seen_code front_code) (λ h. (h.seen, h.front))
    (λ t. record { seen = t.0; front = t.1 })
    (λ _. refl)

-- the accepted cache once it has learnt of that
abbrev pub learnt_in : Hold → FrontState
learnt_in h = with_seen h.front h.seen

-- the refusal that the cache then had for the change
abbrev pub StoodAgainst : Hold → Change (List ℕ) → Refusal → Type 0
StoodAgainst h change r = IsReason (learnt_in h) change r

-- The cache then had no refusal for the change: it was neither stopped nor broken, and the region
-- had room. The number is the next one.
abbrev pub NothingStood : Hold → Change (List ℕ) → ℕ → Type 0
NothingStood h change n = MayAccept (learnt_in h) change n
