use Rattle.std.proofs.Common.{◌∙◌, length, ap}
use Rattle.std.proofs.lemmas.Bool.{eqb-true}
use Rattle.cm_layout.proofs.Superblocks.{zeros_of, each_blank, length-blank}
use Rattle.cm_layout.proofs.superblock.are_zeros.Goals as goal

pub returns-then-bytes : goal.returns-then-bytes
returns-then-bytes c = (
  λ yes. zeros_of 4071 c.args.bytes.now c.if-bytes.true (c.is_each_zero.ensures.0 yes),
  λ is. c.is_each_zero.ensures.1 (each_blank 4071 c.args.bytes.now is),
)

pub returns-else-bytes : goal.returns-else-bytes
returns-else-bytes c = (
  λ yes. absurd (c.if-bytes.false (eqb-true _ _ yes)),
  λ is. absurd (c.if-bytes.false (ap length is ∙ length-blank 4071)),
)
