use Rattle.std.proofs.Common.{◌≡◌, ◌∷◌, sym, ap, ◌∙◌}
use Rattle.cm_lines.specs.Lines.{pieces}
use Rattle.cm_lines.proofs.{pieces_cut, pieces_none, pieces_some}
use Rattle.cm_events.specs.Asked.{geometry_of_words}
use Rattle.cm_events.proofs.geometry.parse_words.Goals as goal

pub returns-in_err-verb : goal.returns-in_err-verb
returns-in_err-verb c =
    rw c.from_residual.ensures
    (sym (ap geometry_of_words (pieces_none 32 c.args.line.now c.in_err-verb.ensures.none)))

pub returns-in_err-top : goal.returns-in_err-top
returns-in_err-top c =
    let verb = c.in_ok-verb.verb.now in
    let sizes = c.in_ok-verb.sizes.now in
    let first = pieces_cut 32 c.args.line.now verb sizes c.in_ok-verb.ensures.found
    c.in_ok-verb.ensures.first in
    let end = pieces_none 32 sizes c.in_err-top.ensures.none in
    rw c.from_residual-in_err-top.ensures
    (sym (ap geometry_of_words (first ∙ ap (λ those. verb ∷ those) end)))

pub returns-in_err-roots : goal.returns-in_err-roots
returns-in_err-roots c =
    let verb = c.in_ok-verb.verb.now in
    let sizes = c.in_ok-verb.sizes.now in
    let top = c.in_ok-top.top.now in
    let rest = c.in_ok-top.rest.now in
    let first = pieces_cut 32 c.args.line.now verb sizes c.in_ok-verb.ensures.found
    c.in_ok-verb.ensures.first in
    let second = pieces_cut 32 sizes top rest c.in_ok-top.ensures.found
    c.in_ok-top.ensures.first in
    let end = pieces_none 32 rest c.in_err-roots.ensures.none in
    rw c.from_residual-in_err-roots.ensures
    (sym
    (ap geometry_of_words
    (first ∙ ap (λ those. verb ∷ those) (second ∙ ap (λ those. top ∷ those) end))))

pub returns-in-None : goal.returns-in-None
returns-in-None c =
    let verb = c.in_ok-verb.verb.now in
    let sizes = c.in_ok-verb.sizes.now in
    let top = c.in_ok-top.top.now in
    let rest = c.in_ok-top.rest.now in
    let roots = c.in_ok-roots.roots.now in
    let slots = c.in_ok-roots.slots.now in
    let first = pieces_cut 32 c.args.line.now verb sizes c.in_ok-verb.ensures.found
    c.in_ok-verb.ensures.first in
    let second = pieces_cut 32 sizes top rest c.in_ok-top.ensures.found
    c.in_ok-top.ensures.first in
    let third = pieces_cut 32 rest roots slots c.in_ok-roots.ensures.found
    c.in_ok-roots.ensures.first in
    let end = pieces_none 32 slots c.in-None.ensures.none in
    c.of_words.ensures ∙ sym
    (ap geometry_of_words
    (first ∙ ap (λ those. verb ∷ those)
    (second ∙ ap (λ those. top ∷ those) (third ∙ ap (λ those. roots ∷ those) end))))

pub returns-in-Some : goal.returns-in-Some
returns-in-Some c =
    let verb = c.in_ok-verb.verb.now in
    let sizes = c.in_ok-verb.sizes.now in
    let top = c.in_ok-top.top.now in
    let rest = c.in_ok-top.rest.now in
    let roots = c.in_ok-roots.roots.now in
    let slots = c.in_ok-roots.slots.now in
    let fourth = c.in-Some.field-0.0.now in
    let further = c.in-Some.field-0.1.now in
    let first = pieces_cut 32 c.args.line.now verb sizes c.in_ok-verb.ensures.found
    c.in_ok-verb.ensures.first in
    let second = pieces_cut 32 sizes top rest c.in_ok-top.ensures.found
    c.in_ok-top.ensures.first in
    let third = pieces_cut 32 rest roots slots c.in_ok-roots.ensures.found
    c.in_ok-roots.ensures.first in
    let last = pieces_cut 32 slots fourth further c.in-Some.ensures.found c.in-Some.ensures.first in
    let end = pieces_some 32 further in
    let all : pieces 32 c.args.line.now ≡ verb ∷ top ∷ roots ∷ fourth ∷ end.0 ∷ end.1 =
    first ∙ ap (λ those. verb ∷ those)
    (second ∙ ap (λ those. top ∷ those)
    (third ∙ ap (λ those. roots ∷ those) (last ∙ ap (λ those. fourth ∷ those) end.2))) in
    sym (ap geometry_of_words all)
