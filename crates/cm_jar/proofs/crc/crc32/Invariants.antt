use Rattle.std.proofs.Common.{◌≡◌, drop}
use Rattle.cm_jar.specs.Crc.{register_after}
use Rattle.cm_jar.proofs.crc.crc32.Given as goal

abbrev pub invariant-loop-byte : goal.invariant-loop-byte
invariant-loop-byte l =
    register_after (drop l.byte-index l.bytes) l.register ≡ register_after l.bytes 0xFFFF_FFFF
