use Rattle.std.proofs.Common.{◌/◌, ◌∙◌, ℕ, bit_xor, ap, sym}
use Rattle.cm_jar.specs.Crc.{shifts}
use Rattle.cm_jar.proofs.CrcLaws.{shifts-8}
use Rattle.cm_jar.proofs.crc.register_with.Goals as goal

pub returns : goal.returns
returns c =
    let mixed : ℕ = bit_xor c.args.register c.from.result in
    ap (λ (x : ℕ). bit_xor x (mixed / 256)) c.shifted.ensures ∙ sym (shifts-8 mixed)
    ∙ ap (λ (b : ℕ). shifts 8 (bit_xor c.args.register b)) c.from.ensures
