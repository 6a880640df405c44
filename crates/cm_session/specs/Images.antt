-- What a file's contents stand for, in terms of the machine's commands.
use Rattle.std.specs.Prelude.{ℕ, ◌≤◌, List}
use Rattle.cm_pool.specs.Geometry.{Sizes}
use Rattle.cm_state.specs.State.{CacheState}
use Rattle.cm_state.specs.Stands.{Arenas, Stands}
use Rattle.cm_commands.specs.Machine.{Machine, Holds, accepted_to, commands_to}

-- The contents stand for the loaders and classes after the machine's commands up to this number.
pub record StandsFor (sizes : Sizes) (k : Machine) (number : ℕ) (contents : List ℕ)
    : Type 0 where
  pub from : k.base.number ≤ number
  pub known : number ≤ accepted_to k
  pub state : CacheState
  pub arenas : Arenas
  pub stands : Stands sizes contents state arenas number
  pub holds : Holds sizes k.base (commands_to number k) state

-- The contents stand for the result of some number of the commands: all of them that were
-- acknowledged, and none that wasn't handed out.
pub record StandsForSome (sizes : Sizes) (k : Machine) (contents : List ℕ) : Type 0 where
  pub number : ℕ
  pub least : k.acknowledged ≤ number
  pub most : number ≤ k.sealed
  pub stands : StandsFor sizes k number contents
