use Rattle.std.proofs.Common.{◌≡◌, ◌∷◌, sym, ap, ◌∙◌}
use Rattle.cm_lines.specs.Lines.{request_of_few, pieces}
use Rattle.cm_lines.proofs.Cuts.{pieces_cut, pieces_none, pieces_some}
use Rattle.cm_lines.proofs.line.of_few_words.Goals as goal

pub returns-in-None : goal.returns-in-None
returns-in-None c =
    c.of_one_name.ensures ∙ sym
    (ap (request_of_few c.args.verb.now) (pieces_none 32 c.args.words.now c.in-None.ensures.none))

pub returns-in-None-cut : goal.returns-in-None-cut
returns-in-None-cut c =
    let name = c.in-Some.name.now in
    let last = c.in-Some.last.now in
    let more = pieces_cut 32 c.args.words.now name last c.in-Some.ensures.found
    c.in-Some.ensures.first in
    let end = pieces_none 32 last c.in-None-cut.ensures.none in
    c.of_two_names.ensures ∙ sym
    (ap (request_of_few c.args.verb.now) (more ∙ ap (λ those. name ∷ those) end))

pub returns-in-Some-cut : goal.returns-in-Some-cut
returns-in-Some-cut c =
    let name = c.in-Some.name.now in
    let last = c.in-Some.last.now in
    let third = c.in-Some-cut.field-0.0.now in
    let further = c.in-Some-cut.field-0.1.now in
    let more = pieces_cut 32 c.args.words.now name last c.in-Some.ensures.found
    c.in-Some.ensures.first in
    let those = pieces_cut 32 last third further c.in-Some-cut.ensures.found
    c.in-Some-cut.ensures.first in
    let end = pieces_some 32 further in
    let all : pieces 32 c.args.words.now ≡ name ∷ third ∷ end.0 ∷ end.1 =
    more ∙ ap (λ some. name ∷ some) (those ∙ ap (λ some. third ∷ some) end.2) in
    sym (ap (request_of_few c.args.verb.now) all)
