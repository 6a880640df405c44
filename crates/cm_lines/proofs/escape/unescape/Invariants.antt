use Rattle.std.proofs.Common.{◌≡◌, drop}
use Rattle.cm_lines.specs.Escapes.{spelled_from, unescaped, IsDigitAwaited, named_by}
use Rattle.cm_lines.proofs.escape.unescape.Given as goal

-- the name so far and what is left spell the name
abbrev pub invariant-loop-byte : goal.invariant-loop-byte
invariant-loop-byte l = record {
  spelled : named_by l.name.items (spelled_from l.awaited (drop l.byte-index l.word))
      ≡ unescaped l.word;
  digit : IsDigitAwaited l.awaited;
}
