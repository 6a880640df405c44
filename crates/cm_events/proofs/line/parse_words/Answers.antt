use Rattle.std.proofs.Common.{◌≡◌, ℕ, Bool, true, false, cond, ◌&&◌, List, [], ◌∷◌, Some, refl}
use Rattle.std.proofs.Common.{sym, ap, ◌∙◌}
use Rattle.std.specs.Prelude.{codes}
use Rattle.std.specs.Str.{bytes_eq}
use Rattle.cm_lines.proofs.{pieces_cut, pieces_none}
use Rattle.cm_events.specs.Asked.{AsksUnloadAll, asked_alone, asked_of_words}
use Rattle.cm_events.proofs.line.parse_words.Goals as goal

nothing_behind : (verb : List ℕ) → asked_of_words (verb ∷ []) ≡ asked_alone verb
nothing_behind verb = chosen (bytes_eq verb (codes "unloadall"))
  where
    chosen : (t : Bool)
        → cond (t && false) (Some (AsksUnloadAll [])) (asked_alone verb) ≡ asked_alone verb
    chosen true = refl
    chosen false = refl

pub returns-in-None : goal.returns-in-None
returns-in-None c =
    c.parse_lone_verb.ensures ∙ sym
    (ap asked_of_words (pieces_none 32 c.args.line.now c.in-None.ensures.none)
    ∙ nothing_behind c.args.line.now)

pub returns-in-Some : goal.returns-in-Some
returns-in-Some c =
    c.with_words.ensures ∙ sym
    (ap asked_of_words
    (pieces_cut 32 c.args.line.now c.in-Some.verb.now c.in-Some.rest.now c.in-Some.ensures.found
    c.in-Some.ensures.first))
