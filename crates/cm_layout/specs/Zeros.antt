-- Bytes 00.
use Rattle.std.specs.Prelude.{ℕ, List, replicate}

abbrev pub zeros : ℕ → List ℕ
zeros n = replicate n 0

-- the same as `zeros`, under a name that keeps long lists of zeros folded
unfoldable pub blank : ℕ → List ℕ
blank n = zeros n
