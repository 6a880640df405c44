-- What a handle owns.
use Rattle.std.specs.Prelude.{Bool, true, false}
use base.Fml.{Fml, ftrue, fex}
use mir.Syntax.{Ty}
use denote.RattleType.{RattleType}
use denote.RawPtr.{Ptr}
use Rattle.std_alloc.specs.Box.Ownership.{box_owns}
use Rattle.std.specs.contracts.impls.GlobalAllocator.TheImpl.{ghosts}

abbrev pub freed : Ty → Ptr → Fml
freed = ghosts.dealloc_token (record { memory = record { seal = record {} } })

abbrev pub held : (Ty → Ptr → Fml) → (R : RattleType) → Ptr → Bool → Fml
held h R p false = ftrue
held h R p true = fex R.Denot (λ x. box_owns h R p x)
