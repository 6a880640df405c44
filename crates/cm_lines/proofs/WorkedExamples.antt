-- The definitions computed on lines and scripts.
use Rattle.std.proofs.Common.{◌≡◌, [], ◌∷◌, ◌++◌, Some, None, refl, replicate}
use Rattle.std.specs.Prelude.{codes}
use Rattle.cm_lines.specs.Escapes.{escaped, unescaped}
use Rattle.cm_lines.specs.Lines.{request_in, lines_of, AsksLoader, AsksUnload, AsksTighten}
use Rattle.cm_lines.specs.Lines.{AsksDefine, AsksFind, AsksUnloadAll}

-- ---- lines

asks_loader : request_in (codes "loader app") ≡ Some (AsksLoader (codes "app"))
asks_loader = refl

asks_unload : request_in (codes "unload app") ≡ Some (AsksUnload (codes "app"))
asks_unload = refl

asks_tighten : request_in (codes "tighten app") ≡ Some (AsksTighten (codes "app"))
asks_tighten = refl

asks_define : request_in (codes "define app cafebabe")
    ≡ Some (AsksDefine (codes "app") (codes "cafebabe"))
asks_define = refl

asks_find : request_in (codes "find app %c3%a9") ≡ Some (AsksFind (codes "app") (codes "%c3%a9"))
asks_find = refl

asks_unload_all : request_in (codes "unloadall app ext")
    ≡ Some (AsksUnloadAll (codes "app" ∷ codes "ext" ∷ []))
asks_unload_all = refl

asks_unload_all_of_one : request_in (codes "unloadall app")
    ≡ Some (AsksUnloadAll (codes "app" ∷ []))
asks_unload_all_of_one = refl

asks_unload_all_of_nine : request_in (codes "unloadall a a a a a a a a a")
    ≡ Some (AsksUnloadAll (replicate 9 (codes "a")))
asks_unload_all_of_nine = refl

two_bytes_escaped : escaped (0xC3 ∷ 0xA9 ∷ []) ≡ codes "%C3%A9"
two_bytes_escaped = refl

name_of_two_bytes : unescaped (codes "%c3%a9") ≡ Some (0xC3 ∷ 0xA9 ∷ [])
name_of_two_bytes = refl

two_words : request_in (codes "define app") ≡ None
two_words = refl

unload_alone : request_in (codes "unload") ≡ None
unload_alone = refl

unload_of_two : request_in (codes "unload a b") ≡ None
unload_of_two = refl

tighten_alone : request_in (codes "tighten") ≡ None
tighten_alone = refl

tighten_of_two : request_in (codes "tighten a b") ≡ None
tighten_of_two = refl

unload_all_alone : request_in (codes "unloadall") ≡ None
unload_all_alone = refl

unload_all_of_nothing : request_in (codes "unloadall ") ≡ None
unload_all_of_nothing = refl

unload_all_with_two_spaces : request_in (codes "unloadall a  b") ≡ None
unload_all_with_two_spaces = refl

unload_all_with_space_behind : request_in (codes "unloadall a b ") ≡ None
unload_all_with_space_behind = refl

no_name : request_in (codes "loader ") ≡ None
no_name = refl

two_spaces : request_in (codes "loader  app") ≡ None
two_spaces = refl

space_behind : request_in (codes "loader app ") ≡ None
space_behind = refl

space_in_front : request_in (codes " loader app") ≡ None
space_in_front = refl

four_words : request_in (codes "find app A B") ≡ None
four_words = refl

upper_case : request_in (codes "Loader app") ≡ None
upper_case = refl

nothing_asked : request_in [] ≡ None
nothing_asked = refl

-- ---- scripts

no_lines : lines_of [] ≡ []
no_lines = refl

newline_alone : lines_of (10 ∷ []) ≡ [] ∷ []
newline_alone = refl

two_lines : lines_of (codes "loader a" ++ 10 ∷ codes "loader b")
    ≡ codes "loader a" ∷ codes "loader b" ∷ []
two_lines = refl

two_lines_with_newlines : lines_of (codes "loader a" ++ 10 ∷ codes "loader b" ++ 10 ∷ [])
    ≡ codes "loader a" ∷ codes "loader b" ∷ []
two_lines_with_newlines = refl

line_between : lines_of (codes "a" ++ 10 ∷ 10 ∷ codes "b") ≡ codes "a" ∷ [] ∷ codes "b" ∷ []
line_between = refl

carriage_return : lines_of (codes "a" ++ 13 ∷ 10 ∷ []) ≡ (codes "a" ++ 13 ∷ []) ∷ []
carriage_return = refl
