-- Sessions of any file that holds a cache.
use Rattle.std.specs.Prelude.{ℕ, List}
use Rattle.cm_pool.specs.Geometry.{Sizes}
use Rattle.cm_state.specs.State.{CacheState}
use Rattle.cm_state.specs.Stands.{Arenas, Stands}
use Rattle.cm_commands.specs.Machine.{machine_from}
use Rattle.cm_session.specs.Images.{StandsForSome}

-- Contents that stand for a cache do so for the machine that begins with this cache.
abbrev pub BeginsMachine : Type 0
BeginsMachine =
    (sizes : Sizes) (contents : List ℕ) (state : CacheState) (arenas : Arenas) (number : ℕ)
    → Stands sizes contents state arenas number
    → StandsForSome sizes (machine_from (record { state = state; number = number })) contents
