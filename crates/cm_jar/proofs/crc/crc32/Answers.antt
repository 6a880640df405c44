use Rattle.std.proofs.Common.{◌∙◌, ◌+◌, ℕ, bit_xor, ap, sym, arith, drop}
use Rattle.cm_jar.specs.Crc.{register_after}
use Rattle.cm_jar.proofs.CrcLaws.{register_goes_on, register_at_end}
use Rattle.cm_jar.proofs.crc.crc32.Goals as goal

pub loop-byte-preserved : goal.loop-byte-preserved
loop-byte-preserved c =
    ap (register_after (drop (c.loop-byte.byte-index + 1) c.args.bytes.now))
    c.register_with-register.ensures
    ∙ sym (register_goes_on c.args.bytes.now c.loop-byte.byte-index c.loop-byte.register
    (omega arith))
    ∙ c.loop-byte.invariant

pub returns : goal.returns
returns c =
    ap (λ (r : ℕ). bit_xor r 0xFFFF_FFFF)
    (sym (register_at_end c.args.bytes.now c.loop-byte.byte-index c.loop-byte.register
    (omega arith)) ∙ c.loop-byte.invariant)
