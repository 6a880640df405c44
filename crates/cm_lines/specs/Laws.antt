-- Facts about the definitions themselves.
use Rattle.std.specs.Prelude.{◌≡◌, ◌≢◌, ◌<◌, ◌⊎◌, ◌↔◌, ℕ, ◌++◌, List, [], ◌∷◌, length, codes}
use Rattle.std.specs.Prelude.{Some}
use Rattle.std.specs.List.{All, flat_map}
use Rattle.cm_lines.specs.Escapes.{escaped, unescaped, with_upper_digits}
use Rattle.cm_lines.specs.Lines.{Asked, AsksLoader, AsksUnload, AsksTighten, AsksDefine, AsksFind}
use Rattle.cm_lines.specs.Lines.{AsksUnloadAll, request_in, lines_of}

-- ---- lines

-- each line with a newline after it
abbrev pub put_together : List (List ℕ) → List ℕ
put_together lines = flat_map (λ line. line ++ 10 ∷ []) lines

-- No line has a newline, and joined they are the script, or the script with a newline after it.
abbrev pub LinesMakeScript : Type 0
LinesMakeScript =
    (script : List ℕ)
    → All (λ line. All (λ b. b ≢ 10) line) (lines_of script)
    × ((put_together (lines_of script) ≡ script)
    ⊎ (put_together (lines_of script) ≡ script ++ 10 ∷ []))

abbrev pub IsWord : List ℕ → Type 0
IsWord text = (0 < length text) × All (λ b. b ≢ 32) text

abbrev pub AreWords : Asked → Type 0
AreWords (AsksLoader name) = IsWord name
AreWords (AsksUnload name) = IsWord name
AreWords (AsksTighten name) = IsWord name
AreWords (AsksDefine loader digits) = IsWord loader × IsWord digits
AreWords (AsksFind loader name) = IsWord loader × IsWord name
AreWords (AsksUnloadAll names) = (0 < length names) × All IsWord names

abbrev pub spelled : Asked → List ℕ
spelled (AsksLoader name) = codes "loader " ++ name
spelled (AsksUnload name) = codes "unload " ++ name
spelled (AsksTighten name) = codes "tighten " ++ name
spelled (AsksDefine loader digits) = codes "define " ++ (loader ++ 32 ∷ digits)
spelled (AsksFind loader name) = codes "find " ++ (loader ++ 32 ∷ name)
spelled (AsksUnloadAll names) = codes "unloadall" ++ flat_map (λ name. 32 ∷ name) names

-- A line is a request exactly if it spells that request, in words.
abbrev pub OneSpelling : Type 0
OneSpelling =
    (line : List ℕ) (request : Asked) → (request_in line ≡ Some request)
    ↔ ((line ≡ spelled request) × AreWords request)

-- ---- names

-- A name's spelling spells that name.
abbrev pub UnescapingUndoes : Type 0
UnescapingUndoes = (name : List ℕ) → All (λ b. b < 256) name → unescaped (escaped name) ≡ Some name

-- What spells a name is its spelling, apart from the case of the digits.
abbrev pub SpellingIsOne : Type 0
SpellingIsOne =
    (word name : List ℕ) → unescaped word ≡ Some name → with_upper_digits word ≡ escaped name
