-- What each call of the accepted cache does.
use Rattle.std.specs.Prelude.{◌≡◌, ℕ, ◌+◌, ◌-◌, ◌^◌, ◌<◌, ◌⊎◌, max, nat_le, true}
use Rattle.std.specs.Prelude.{if◌then◌else◌, List, [], ◌∷◌}
use Rattle.std.specs.Prelude.{◌++◌, length, Option, Some, None, Result, Ok, Err}
use Rattle.cm_arena.specs.Placing.{Places, IsFull}
use Rattle.cm_arena.specs.Tightening.{IsTight}
use Rattle.cm_layout.specs.declared.row.Row.{Row}
use Rattle.cm_layout.specs.declared.row.Row.TheVariants.{Loader, Class}
use Rattle.cm_layout.specs.declared.entry.Entry.{Entry}
use Rattle.cm_layout.specs.declared.entry.Entry.TheVariants as entry
use Rattle.cm_layout.specs.Rows.{number_of, rows_after, without_loaders, group_limit}
use Rattle.cm_layout.specs.Rules.{are_live, differ}
use Rattle.cm_group.specs.Groups.{Carried, Handed, next_number, slots_taken, moved_with}
use Rattle.cm_space.specs.Space.{SpaceState, arena_of, with_arena, left_by, left_by_all, learnt}
use Rattle.cm_space.specs.Tightening.{MovesChunk}
use Rattle.cm_state.specs.State.{words_show}
use Rattle.cm_state.specs.Step.{Change, AddLoader, Define, Unload, Tighten, UnloadAll}
use Rattle.cm_state.specs.Entries.{MayFollow, change_of}
use Rattle.cm_commands.specs.declared.refusal.Refusal.{Refusal}
use Rattle.cm_commands.specs.declared.refusal.Refusal.TheVariants as refusal
use Rattle.cm_front.specs.Front.{FrontState, first_refusal}

-- ---- accepting

-- an entry with the records that it writes, if these rows are live before it
abbrev pub carried : List (Row (List ℕ)) → Entry (List ℕ) → Carried
carried rows e = record { entry = e; moved = moved_with rows e }

-- a group that begins with this number
abbrev pub begun_by : ℕ → Carried → Handed
begun_by n c = record { first = n; learnt = 0; entries = c ∷ [] }

abbrev pub with_carried : Handed → Carried → Handed
with_carried group c = record group { entries = group.entries ++ c ∷ [] }

-- the entry of this number joins the newest group as long as that has slots for it, and otherwise
-- begins one
abbrev pub joined_by : ℕ → List Handed → Carried → List Handed
joined_by n [] c = begun_by n c ∷ []
joined_by n (group ∷ []) c =
    if nat_le (slots_taken (group.entries ++ c ∷ [])) group_limit then with_carried group c ∷ []
    else group ∷ begun_by n c ∷ []
joined_by n (group ∷ next ∷ groups) c = group ∷ joined_by n (next ∷ groups) c

-- what an entry does to the space: a loader gets an arena, a class a place, and the chunks that an
-- unloaded loader or a move leaves wait for the entry's number
abbrev pub SpaceAfter : FrontState → Entry (List ℕ) → SpaceState → Type 0
SpaceAfter s (entry.Live (Loader r)) new = new ≡ with_arena s.space r.number []
SpaceAfter s (entry.Live (Class r words)) new =
    Places (arena_of s.space r.loader) s.space.pool (length words) r.place
    (arena_of new r.loader) new.pool
    × (new ≡ record (with_arena s.space r.loader (arena_of new r.loader)) { pool = new.pool })
SpaceAfter s (entry.Unload e) new = new ≡ left_by s.space (s.number + 1) e.loader
SpaceAfter s (entry.Move e) new =
    MovesChunk s.space e.loader (s.number + 1) (record { from = e.from; to = e.to }) new
SpaceAfter s (entry.UnloadAll e) new = new ≡ left_by_all s.space (s.number + 1) e.loaders

-- the cache with one more entry
abbrev pub accepted : FrontState → Entry (List ℕ) → SpaceState → FrontState
accepted s e space =
    record s {
      rows = rows_after s.rows e;
      number = s.number + 1;
      unsealed = joined_by (s.number + 1) s.unsealed (carried s.rows e);
      space = space;
    }

-- The entry may follow, a number is left for it, and it unloads exactly these loaders, which are
-- live and all different.
pub record Unloads (s : FrontState) (e : Entry (List ℕ)) (us : List ℕ) : Type 0 where
  pub may : MayFollow words_show s.sizes s.number s.rows e
  pub left : s.number < 2 ^ 63
  pub live : are_live us s.rows ≡ true
  pub differ : differ us ≡ true
  pub rows_are : rows_after s.rows e ≡ without_loaders us s.rows

-- the change is accepted with this number: it is an entry that may follow
pub record FrontAccepts (s : FrontState) (change : Change (List ℕ)) (n : ℕ)
    (new : FrontState) : Type 0 where
  pub number : n ≡ s.number + 1
  pub entry : Entry (List ℕ)
  pub change_is : change_of s.rows entry ≡ Some change
  pub may : MayFollow words_show s.sizes s.number s.rows entry
  pub space : SpaceAfter s entry new.space
  pub after : new ≡ accepted s entry new.space

-- The region has no chunk for the change: none for the class, or none to which the records on the
-- loader's last one may move.
abbrev pub HasNoChunk : FrontState → Change (List ℕ) → Type 0
HasNoChunk s (AddLoader x) = ⊥
HasNoChunk s (Define x words) =
    (u : ℕ) × (number_of x s.rows ≡ Some u)
    × IsFull (arena_of s.space u) s.space.pool (length words)
HasNoChunk s (Unload x) = ⊥
HasNoChunk s (Tighten x) =
    (u : ℕ) × (number_of x s.rows ≡ Some u) × IsTight (arena_of s.space u) s.space.pool
HasNoChunk s (UnloadAll xs) = ⊥

-- the refusal in that case
abbrev pub refusal_of_chunk : Change (List ℕ) → Refusal
refusal_of_chunk (AddLoader x) = refusal.RegionFull
refusal_of_chunk (Define x words) = refusal.RegionFull
refusal_of_chunk (Unload x) = refusal.RegionFull
refusal_of_chunk (Tighten x) = refusal.NoMove
refusal_of_chunk (UnloadAll xs) = refusal.RegionFull

-- The refusal is the first that applies. That there is no chunk, or that an allocation failed, is
-- returned only if none of the others applies, and the latter only if there is a chunk.
abbrev pub IsReason : FrontState → Change (List ℕ) → Refusal → Type 0
IsReason s change r =
    (first_refusal s change ≡ Some r)
    ⊎ ((first_refusal s change ≡ None)
    × (((r ≡ refusal_of_chunk change) × HasNoChunk s change)
    ⊎ ((r ≡ refusal.NoMemory) × ¬ HasNoChunk s change)))

abbrev pub FrontAnswers : FrontState → Change (List ℕ) → Result ℕ Refusal → FrontState → Type 0
FrontAnswers s change (Ok n) new =
    (first_refusal s change ≡ None) × (¬ HasNoChunk s change) × FrontAccepts s change n new
FrontAnswers s change (Err r) new = (new ≡ s) × IsReason s change r

-- ---- handing out and learning

-- the oldest group is handed out, with what is learnt by now
pub record HandsOut (s : FrontState) (group : Handed) (new : FrontState) : Type 0 where
  pub oldest : Handed
  pub rest : List Handed
  pub is_oldest : s.unsealed ≡ oldest ∷ rest
  pub group_is : group ≡ record oldest { learnt = s.learnt }
  pub after : new ≡ record s { unsealed = rest; sealed = next_number oldest - 1 }

abbrev pub Seals : FrontState → Option Handed → FrontState → Type 0
Seals s None new = (s.unsealed ≡ []) × (new ≡ s)
Seals s (Some group) new = HandsOut s group new

-- the learnt number rises to that of the receipt, and whatever waits for a number up to this is
-- freed
abbrev pub with_learnt : FrontState → ℕ → FrontState
with_learnt s number =
    record s { learnt = max s.learnt number; space = learnt s.space (max s.learnt number) }
