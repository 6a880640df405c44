-- The parts of contents, each as a test of its number (JVMS SE 8, section 4.7).
use Rattle.std.specs.Prelude.{ℕ, Bool, true, List, [], ◌∷◌, Option, Some, None, if◌then◌else◌}
use Rattle.cm_attributes.specs.Contents.{◌>>=◌, u2_of}
unfoldable pub use Rattle.cm_attributes.specs.Contents.{past_parts, is_content}

-- the bytes after a number that passes a test
abbrev pub past_test : (ℕ → Bool) → List ℕ → Option (List ℕ)
past_test test bytes = u2_of bytes >>= λ n. if test n.0 then Some n.1 else None

-- the bytes after one number for each of the tests
abbrev pub past_tests : List (ℕ → Bool) → List ℕ → Option (List ℕ)
past_tests [] bytes = Some bytes
past_tests (test ∷ tests) bytes = past_test test bytes >>= λ rest. past_tests tests rest

abbrev pub any : ℕ → Bool
any n = true
