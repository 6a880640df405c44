-- Class files one after another, each preceded by its length.
use Rattle.std.specs.Prelude.{◌≡◌, ℕ, ◌+◌, ◌^◌, ◌<◌, ◌≤◌, List, ◌++◌, length, take, drop, Option}
use Rattle.std.specs.Prelude.{Some, None, option_and_then, nat_lt, if◌then◌else◌, Result, Ok, Err}
use Rattle.std.specs.List.{flat_map, AllByRecursion}
use Rattle.std.specs.Int.{Width, w32, byte_len, to_be_bytes, from_be_bytes}
use Rattle.cm_stream.specs.declared.stream.StreamFault.{StreamFault}
use Rattle.cm_stream.specs.declared.stream.StreamFault.TheVariants.{InLength, InClass, NoMemory}

-- a class in a stream: its length in four bytes, and its bytes
abbrev pub frame : List ℕ → List ℕ
frame class = to_be_bytes w32 (length class) ++ class

-- the stream of these classes
abbrev pub stream_of : List (List ℕ) → List ℕ
stream_of classes = flat_map frame classes

-- a class whose length fits into four bytes
abbrev pub FitsStream : List ℕ → Type 0
FitsStream class = length class < 2 ^ 32

abbrev pub AllFit : List (List ℕ) → Type 0
AllFit classes = AllByRecursion FitsStream classes

-- what follows the last whole class ends inside a length
abbrev pub EndsInLength : List ℕ → Type 0
EndsInLength rest = (0 < length rest) × (length rest < 4)

-- what follows the last whole class ends inside a class: there is a length, and fewer bytes than it
-- says
abbrev pub EndsInClass : List ℕ → Type 0
EndsInClass rest = (4 ≤ length rest) × (length rest < 4 + from_be_bytes w32 (take 4 rest))

-- whole classes up to a place, followed by what ends too early
pub record EndsEarly (bytes : List ℕ) (at : ℕ) (EndsIn : List ℕ → Type 0) : Type 0 where
  pub classes : List (List ℕ)
  pub rest : List ℕ
  pub fit : AllFit classes
  pub whole : bytes ≡ stream_of classes ++ rest
  pub place : at ≡ length (stream_of classes)
  pub early : EndsIn rest

-- what a fault says about the bytes
abbrev pub IsStreamFault : List ℕ → StreamFault → Type 0
IsStreamFault bytes (InLength at) = EndsEarly bytes at EndsInLength
IsStreamFault bytes (InClass at) = EndsEarly bytes at EndsInClass
IsStreamFault bytes NoMemory = Unit {0}

-- the result for a stream of these classes, unless an allocation fails
abbrev pub GivesClasses : {X : Type 0} → (X → List (List ℕ)) → List (List ℕ) → Result X StreamFault
    → Type 0
GivesClasses view classes (Ok found) = view found ≡ classes
GivesClasses view classes (Err fault) = fault ≡ NoMemory

-- a number at the front of bytes, and the bytes after it
abbrev pub number_at : Width → List ℕ → Option (ℕ × List ℕ)
number_at w bytes =
    if nat_lt (length bytes) (byte_len w) then None
    else Some (from_be_bytes w (take (byte_len w) bytes), drop (byte_len w) bytes)

-- as many of the first bytes as a number says, and the bytes after them
abbrev pub piece_at : ℕ × List ℕ → Option (List ℕ × List ℕ)
piece_at n = if nat_lt (length n.1) n.0 then None else Some (take n.0 n.1, drop n.0 n.1)

-- the class at the front of a stream, and the bytes after it
unfoldable pub first_at : List ℕ → Option (List ℕ × List ℕ)
first_at bytes = option_and_then piece_at (number_at w32 bytes)
