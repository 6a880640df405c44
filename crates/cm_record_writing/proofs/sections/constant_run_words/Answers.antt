use Rattle.std.proofs.Common.{◌∙◌, ap, sym, length}
use Rattle.cm_record_layout.specs.Packing.{run_words}
use Rattle.cm_record_layout.proofs.{packed_len}
use Rattle.cm_record_writing.proofs.sections.constant_run_words.Goals as goal

pub returns-in-Utf8 : goal.returns-in-Utf8
returns-in-Utf8 c =
    rw c.in-Utf8.is (c.run_words.ensures ∙ (ap
    (λ xs. run_words (length xs)) c.as_slice.ensures ∙ sym (packed_len c.in-Utf8.bytes)))
