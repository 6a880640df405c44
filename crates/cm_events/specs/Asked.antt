-- Which line of a simulation makes which request, by its words: these are separated by one space,
-- and none is empty.
use Rattle.std.specs.Prelude.{ℕ, Bool, ◌&&◌, nat_le, nat_lt, if◌then◌else◌, List, [], ◌∷◌, length}
use Rattle.std.specs.Prelude.{codes, Option, Some, None}
use Rattle.std.specs.Option.{option_map, option_and_then}
use Rattle.std.specs.Result.{result_ok}
use Rattle.std.specs.Str.{bytes_eq}
use Rattle.hex.specs.Hex.{decode_of}
use Rattle.cm_pool.specs.Geometry.{Sizes}
use Rattle.cm_lines.specs.Lines.{pieces, is_word, are_words, line_limit}
use Rattle.cm_events.specs.declared.line.EventLine.{EventLine}
use Rattle.cm_events.specs.declared.line.EventLine.TheVariants as line
use Rattle.cm_events.specs.Numbers.{number_in}

-- Requests: loaders, classes, and what they are looked up by, as bytes.
pub data EventAsked : Type 0 where
  AsksLoader : List ℕ → EventAsked
  -- a class of these bytes, to be defined in a loader
  AsksDefine : List ℕ → List ℕ → EventAsked
  AsksUnload : List ℕ → EventAsked
  AsksTighten : List ℕ → EventAsked
  AsksUnloadAll : List (List ℕ) → EventAsked
  AsksSeal : EventAsked
  AsksAdvance : EventAsked
  AsksTrim : EventAsked
  AsksLearn : EventAsked
  AsksLook : List ℕ → List ℕ → EventAsked
  AsksFault : ℕ → EventAsked
  AsksReopen : EventAsked
  -- a length, and the bytes that fill what is unsynced
  AsksCrash : ℕ → List ℕ → EventAsked

-- the bytes that digits spell
abbrev pub bytes_in : List ℕ → Option (List ℕ)
bytes_in digits = result_ok (decode_of digits)

-- the definition of a class with these digits in a loader
abbrev pub define_of : List ℕ → List ℕ → Option EventAsked
define_of loader digits = option_map (λ bytes. AsksDefine loader bytes) (bytes_in digits)

-- a crash that leaves this length; a dash denotes no bytes
abbrev pub crash_of : ℕ → List ℕ → Option EventAsked
crash_of len digits =
    if bytes_eq digits (codes "-") then Some (AsksCrash len [])
    else option_map (λ bytes. AsksCrash len bytes) (bytes_in digits)

-- ---- by the number of words

abbrev pub asked_alone : List ℕ → Option EventAsked
asked_alone verb =
    if bytes_eq verb (codes "seal") then Some AsksSeal
    else if bytes_eq verb (codes "advance") then Some AsksAdvance
    else if bytes_eq verb (codes "trim") then Some AsksTrim
    else if bytes_eq verb (codes "learn") then Some AsksLearn
    else if bytes_eq verb (codes "reopen") then Some AsksReopen
    else None

abbrev pub asked_of_one : List ℕ → List ℕ → Option EventAsked
asked_of_one verb word =
    if bytes_eq verb (codes "loader") && is_word word then Some (AsksLoader word)
    else if bytes_eq verb (codes "unload") && is_word word then Some (AsksUnload word)
    else if bytes_eq verb (codes "tighten") && is_word word then Some (AsksTighten word)
    else if bytes_eq verb (codes "fault") then option_map AsksFault (number_in word)
    else None

abbrev pub asked_of_two : List ℕ → List ℕ → List ℕ → Option EventAsked
asked_of_two verb word last =
    if bytes_eq verb (codes "define") && (is_word word && is_word last) then define_of word last
    else if bytes_eq verb (codes "look") && (is_word word && is_word last)
    then Some (AsksLook word last)
    else if bytes_eq verb (codes "crash") && is_word last
    then option_and_then (λ len. crash_of len last) (number_in word)
    else None

-- the request of a verb and the words after it, if the verb takes at most two
abbrev pub asked_of_few : List ℕ → List (List ℕ) → Option EventAsked
asked_of_few verb [] = asked_alone verb
asked_of_few verb (word ∷ []) = asked_of_one verb word
asked_of_few verb (word ∷ last ∷ []) = asked_of_two verb word last
asked_of_few verb (word ∷ last ∷ further ∷ more) = None

-- the request of the words that the line consists of
abbrev pub asked_of_words : List (List ℕ) → Option EventAsked
asked_of_words [] = None
asked_of_words (verb ∷ words) =
    if bytes_eq verb (codes "unloadall") && are_words words then Some (AsksUnloadAll words)
    else asked_of_few verb words

-- A line that is too long is no request, whatever it says.
abbrev pub event_of_line : List ℕ → Option EventAsked
event_of_line line =
    if nat_lt line_limit (length line) then None else asked_of_words (pieces 32 line)

-- ---- the program's values

-- the request of a line whose digits aren't decoded yet
abbrev pub asked_by_event : EventLine → Option EventAsked
asked_by_event (line.Loader name) = Some (AsksLoader name.now)
asked_by_event (line.Define loader digits) = define_of loader.now digits.now
asked_by_event (line.Unload name) = Some (AsksUnload name.now)
asked_by_event (line.Tighten name) = Some (AsksTighten name.now)
asked_by_event (line.UnloadAll names) = Some (AsksUnloadAll (pieces 32 names.now))
asked_by_event line.Seal = Some AsksSeal
asked_by_event line.Advance = Some AsksAdvance
asked_by_event line.Trim = Some AsksTrim
asked_by_event line.Learn = Some AsksLearn
asked_by_event (line.Look loader class) = Some (AsksLook loader.now class.now)
asked_by_event (line.Fault stores) = Some (AsksFault stores)
asked_by_event line.Reopen = Some AsksReopen
asked_by_event (line.Crash len digits) = crash_of len digits.now

-- ---- the first line

abbrev pub are_sizes : ℕ → ℕ → ℕ → Bool
are_sizes top roots slots =
    (nat_le 3 top && nat_le top 12) && (nat_le 1 roots && nat_le roots 256)
    && (nat_le 256 slots && nat_le slots 65536)

-- sizes within their limits
abbrev pub sizes_of : Option ℕ → Option ℕ → Option ℕ → Option Sizes
sizes_of None roots slots = None
sizes_of (Some top) None slots = None
sizes_of (Some top) (Some roots) None = None
sizes_of (Some top) (Some roots) (Some slots) =
    if are_sizes top roots slots then Some (record { top = top; roots = roots; slots = slots })
    else None

abbrev pub geometry_of_words : List (List ℕ) → Option Sizes
geometry_of_words [] = None
geometry_of_words (verb ∷ []) = None
geometry_of_words (verb ∷ top ∷ []) = None
geometry_of_words (verb ∷ top ∷ roots ∷ []) = None
geometry_of_words (verb ∷ top ∷ roots ∷ slots ∷ []) =
    if bytes_eq verb (codes "geometry")
    then sizes_of (number_in top) (number_in roots) (number_in slots) else None
geometry_of_words (verb ∷ top ∷ roots ∷ slots ∷ further ∷ more) = None

-- the sizes that a simulation's first line gives
abbrev pub geometry_of_line : List ℕ → Option Sizes
geometry_of_line line =
    if nat_lt line_limit (length line) then None else geometry_of_words (pieces 32 line)
