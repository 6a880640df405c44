use Rattle.std.proofs.Common.{◌≡◌, List, ℕ, length, subst}
use Rattle.cm_record_layout.specs.Packing.{word_bytes, packed_into}
use Rattle.cm_record.proofs.record.Record.bytes_tell_words.Goals as goal

pub returns : goal.returns
returns c =
    subst (λ (w : List ℕ). packed_into (length w) (word_bytes w) ≡ w) c.as_slice.ensures.words
    c.bytes_tell_words.ensures
