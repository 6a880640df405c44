use Rattle.std.proofs.Common.{◌≡◌, ◌∙◌, ◌+◌, ◌*◌, ◌/◌, ◌%◌, get_or, ap, arith}
use Rattle.cm_record_layout.specs.Packing.{bytes_of, word_bytes}
use Rattle.cm_record_parts.proofs.TextBytes.{word_byte}
use Rattle.cm_record_parts.proofs.texts.byte_at.Goals as goal

pub returns : goal.returns
returns c =
    let at = c.args.at in
    let whole : 8 * (at / 8) + at % 8 ≡ at = omega arith in
    ap (λ w. get_or w (at % 8) 0) (c.bytes_of.ensures ∙ ap bytes_of c.word_at.ensures)
    ∙ (word_byte c.args.words.now (at / 8) (at % 8) (omega arith)
    ∙ ap (λ n. get_or (word_bytes c.args.words.now) n 0) whole)
