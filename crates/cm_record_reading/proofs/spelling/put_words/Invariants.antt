use Rattle.std.proofs.Common.{◌≡◌, ◌++◌, take}
use Rattle.cm_record_layout.specs.Packing.{word_bytes}
use Rattle.cm_record_reading.proofs.spelling.put_words.Given as goal

-- the bytes of the words so far come after those that were in the buffer
abbrev pub invariant-loop-word : goal.invariant-loop-word
invariant-loop-word l =
    l.out.items ≡ l.fn.out.items ++ word_bytes (take l.word-index l.words)
