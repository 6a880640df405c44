use Rattle.std.proofs.Common.{◌≡◌, ◌≤◌, ◌+◌, ◌/◌, ◌%◌, ◌++◌, length}
use Rattle.cm_words.specs.Bytes.{packed_into}
use Rattle.cm_words.proofs.word_buf.WordBuf.extend_from_bytes.Given as goal

abbrev pub invariant-loop-eight : goal.invariant-loop-eight
invariant-loop-eight l = record {
  words : l.self.words ++ packed_into (length l.rest / 8) l.rest
      ≡ l.initial.self.words ++ packed_into (length l.bytes / 8) l.bytes;
  capacity : l.self.capacity ≡ l.initial.self.capacity;
  whole : length l.rest % 8 ≡ 0;
  room : length l.self.words + length l.rest / 8 ≤ l.self.capacity;
}

abbrev pub decreases-loop-eight : goal.decreases-loop-eight
decreases-loop-eight l = length l.rest
