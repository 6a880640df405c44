-- How a script is cut into lines, and which line makes which request.
use Rattle.std.specs.Prelude.{ℕ, Bool, ◌&&◌, ◌==◌, nat_lt, if◌then◌else◌, List, [], ◌∷◌, length}
use Rattle.std.specs.Prelude.{codes, Option, Some, None}
use Rattle.std.specs.List.{slice_split, list_all}
use Rattle.std.specs.Str.{bytes_eq}
use Rattle.cm_lines.specs.declared.line.Line.{Line}
use Rattle.cm_lines.specs.declared.line.Line.TheVariants as line

-- a text cut at each byte of this value: the parts before them, and what is after the last
abbrev pub pieces : ℕ → List ℕ → List (List ℕ)
pieces at text = slice_split (λ b. b == at) text

-- ---- lines

-- all parts except an empty last one
abbrev pub without_empty_rest : List (List ℕ) → List (List ℕ)
without_empty_rest [] = []
without_empty_rest (rest ∷ []) = if nat_lt 0 (length rest) then rest ∷ [] else []
without_empty_rest (line ∷ next ∷ more) = line ∷ without_empty_rest (next ∷ more)

-- a script is cut at each newline; the last newline is optional
abbrev pub lines_of : List ℕ → List (List ℕ)
lines_of script = without_empty_rest (pieces 10 script)

-- how many bytes a line may have, without its newline
abbrev pub line_limit : ℕ
line_limit = 16777216

-- ---- a line's request

pub data Asked : Type 0 where
  AsksLoader : List ℕ → Asked
  AsksUnload : List ℕ → Asked
  AsksTighten : List ℕ → Asked
  AsksDefine : List ℕ → List ℕ → Asked
  AsksFind : List ℕ → List ℕ → Asked
  AsksUnloadAll : List (List ℕ) → Asked

abbrev pub is_word : List ℕ → Bool
is_word text = nat_lt 0 (length text)

-- one or more
abbrev pub are_words : List (List ℕ) → Bool
are_words texts = nat_lt 0 (length texts) && list_all is_word texts

-- the request of a verb and the words after it, if the verb takes one or two
abbrev pub request_of_few : List ℕ → List (List ℕ) → Option Asked
request_of_few verb [] = None
request_of_few verb (name ∷ []) =
    if bytes_eq verb (codes "loader") && is_word name then Some (AsksLoader name)
    else if bytes_eq verb (codes "unload") && is_word name then Some (AsksUnload name)
    else if bytes_eq verb (codes "tighten") && is_word name then Some (AsksTighten name)
    else None
request_of_few verb (name ∷ last ∷ []) =
    if bytes_eq verb (codes "define") && (is_word name && is_word last)
    then Some (AsksDefine name last)
    else if bytes_eq verb (codes "find") && (is_word name && is_word last)
    then Some (AsksFind name last)
    else None
request_of_few verb (name ∷ last ∷ further ∷ more) = None

-- the request of the words that the line consists of
abbrev pub request_of_words : List (List ℕ) → Option Asked
request_of_words [] = None
request_of_words (verb ∷ words) =
    if bytes_eq verb (codes "unloadall") && are_words words then Some (AsksUnloadAll words)
    else request_of_few verb words

-- Words are separated by exactly one space, and none is empty.
abbrev pub request_in : List ℕ → Option Asked
request_in line = request_of_words (pieces 32 line)

-- A line that is too long is no request, whatever it says.
abbrev pub asked_by : List ℕ → Option Asked
asked_by line = if nat_lt line_limit (length line) then None else request_in line

-- the requests that the program's values of a line denote
abbrev pub seen : Line → Asked
seen (line.Loader name) = AsksLoader name.now
seen (line.Unload name) = AsksUnload name.now
seen (line.Tighten name) = AsksTighten name.now
seen (line.Define loader digits) = AsksDefine loader.now digits.now
seen (line.Find loader class) = AsksFind loader.now class.now
seen (line.UnloadAll names) = AsksUnloadAll (pieces 32 names.now)
