-- What is taken from a reader and given to a writer, if their bytes are known.
use Rattle.std.specs.Prelude.{◌≡◌, ◌≢◌, ◌<◌, ◌≤◌, ℕ, ◌++◌, Bool, true, false, List, [], ◌∷◌, length}
use Rattle.std.specs.Prelude.{Option, Some, None, IfSome, OnSome}
use Rattle.std.specs.List.{All}
use Rattle.std.specs.Io.KnownBytes.{Consumes, IsAtEnd, Appends}
use Rattle.cm_lines.specs.declared.line_buffer.LineBuffer.{LineBuffer}
use Rattle.cm_lines.specs.declared.input.Piece.{Piece}
use Rattle.cm_lines.specs.declared.input.Piece.TheVariants as piece
use Rattle.cm_lines.specs.Lines.{lines_of, line_limit}

-- ---- input and output

-- The script that a reader still has, and what a writer holds before a run and after it; nothing if
-- their bytes aren't known.
pub record Io : Type 0 where
  pub script : Option (List ℕ)
  pub before : Option (List ℕ)
  pub after : Option (List ℕ)

abbrev pub io : Option (List ℕ) → Option (List ℕ) → Option (List ℕ) → Io
io script before after = record { script = script; before = before; after = after }

-- ---- reading

-- the reader's script lost these lines at its front
abbrev pub TakesLines : Option (List ℕ) → Option (List ℕ) → List (List ℕ) → Type 0
TakesLines None new lines = Unit {0}
TakesLines (Some script) None lines = ⊥
TakesLines (Some script) (Some rest) lines = lines_of script ≡ lines ++ lines_of rest

abbrev pub HasNoLine : Option (List ℕ) → Type 0
HasNoLine known = IfSome known (λ script. lines_of script ≡ [])

-- the script's lines begin with these
abbrev pub ScriptBegins : Option (List ℕ) → List (List ℕ) → Type 0
ScriptBegins known lines =
    IfSome known (λ script. (more : List (List ℕ)) × (lines_of script ≡ lines ++ more))

-- what a buffer holds of a line: its bytes, or that they are too many
pub record HoldsLine (line : List ℕ) (buffer : LineBuffer) : Type 0 where
  pub bytes : buffer.is_long ≡ false → (buffer.bytes.items ≡ line) × (length line ≤ line_limit)
  pub long : buffer.is_long ≡ true → line_limit < length line

-- whether there was a line
abbrev pub ReadsLine : Option (List ℕ) → Option (List ℕ) → LineBuffer → Bool → Type 0
ReadsLine old new buffer true = (line : List ℕ) × TakesLines old new (line ∷ [])
    × HoldsLine line buffer
ReadsLine old new buffer false = HasNoLine old

abbrev pub Grows : LineBuffer → LineBuffer → List ℕ → Type 0
Grows old new bytes = (line : List ℕ) → HoldsLine line old → HoldsLine (line ++ bytes) new

-- what a piece of a line takes: its bytes, and the newline after them if there is one
abbrev pub taken_by : Piece → List ℕ → List ℕ
taken_by piece.End bytes = bytes
taken_by piece.More bytes = bytes
taken_by piece.Newline bytes = bytes ++ 10 ∷ []

pub record IsPiece (p : Piece) (front bytes : List ℕ) : Type 0 where
  pub taken : front ≡ taken_by p bytes
  pub inside : All (λ b. b ≢ 10) bytes
  pub end : p ≡ piece.End → bytes ≡ []

pub record TakesPiece (old new : Option (List ℕ)) (p : Piece) (bytes : List ℕ) : Type 0 where
  pub taken : Consumes old new (taken_by p bytes)
  pub inside : All (λ b. b ≢ 10) bytes
  pub end : p ≡ piece.End → (bytes ≡ []) × OnSome old (IsAtEnd new)

-- ---- writing

-- a beginning of the text was written
pub record WritesPart (held holds : Option (List ℕ)) (text : List ℕ) : Type 0 where
  pub part : List ℕ
  pub rest : List ℕ
  pub whole : text ≡ part ++ rest
  pub written : Appends held holds part
