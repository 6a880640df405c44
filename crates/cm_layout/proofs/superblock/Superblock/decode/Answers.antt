use Rattle.std.proofs.Common.{◌≡◌, sym, subst, Bool, true, false}
use Rattle.cm_pool.specs.Geometry.{Sizes}
use Rattle.cm_layout.specs.Superblock.{superblock_front}
use Rattle.cm_layout.proofs.Superblocks.{whole, parts}
use Rattle.cm_layout.proofs.superblock.Superblock.decode.Goals.{else-is_front-via-then-is_front+else-is_closing}
use Rattle.cm_layout.proofs.superblock.Superblock.decode.Goals.{else-is_front-via-else-is_front}
use Rattle.cm_layout.proofs.superblock.Superblock.decode.Goals as goal

no_both : {b : Bool} → b ≡ true → b ≡ false → ⊥
no_both t f = absurd (cc)

pub returns-then-is_closing-clause-found : goal.returns-then-is_closing-clause-found
returns-then-is_closing-clause-found c =
    whole c.args.block.now c.in_ok-front.front.now c.in_ok-front.rest.now
    c.in_ok-geometry.geometry c.in_ok-front.ensures.cases.0 c.in_ok-front.ensures.cases.1
    (c.is_front.ensures.0 c.if-is_front.true) (c.is_closing.ensures.0 c.if-is_closing.true)

pub returns-else-is_front-clause-only : goal.returns-else-is_front-clause-only
returns-else-is_front-clause-only c sizes lawful e =
    let split = parts c.args.block.now c.in_ok-front.front.now c.in_ok-front.rest.now sizes
    c.in_ok-front.ensures.cases.0 c.in_ok-front.ensures.cases.1 e in
    let same : c.in_ok-geometry.geometry ≡ sizes = c.in_ok-geometry.ensures sizes lawful split.0 in
    let front : c.in_ok-front.front.now ≡ superblock_front c.in_ok-geometry.geometry =
    subst (λ (g : Sizes). c.in_ok-front.front.now ≡ superblock_front g) (sym same) split.0 in
    elim c.else-is_front.branch [
      | else-is_front-via-then-is_front+else-is_closing w ↦
          absurd (no_both (w.is_closing.ensures.1 split.1) w.if-is_closing.false)
      | else-is_front-via-else-is_front w ↦
          absurd (no_both (c.is_front.ensures.1 front) w.if-is_front.false)
    ]
