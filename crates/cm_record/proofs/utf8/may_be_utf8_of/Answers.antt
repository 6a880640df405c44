use Rattle.std.proofs.Common.{◌∙◌, sym, arith}
use Rattle.std.proofs.lemmas.Bool.{eq-eqb}
use Rattle.cm_record_layout.proofs.{directory_within, record_long}
use Rattle.cm_record.proofs.Utf8Words.{leads_to_none}
use Rattle.cm_record.proofs.utf8.may_be_utf8_of.Goals as goal

pub bounds-words-2 : goal.bounds-words-2
bounds-words-2 c = omega (arith, record_long c.args.words.now c.requires)

pub returns-then-index-first-clause-only : goal.returns-then-index-first-clause-only
returns-then-index-first-clause-only c = λ d is no.
    leads_to_none d c.args.words.now is c.args.index c.args.bytes.now
    (λ looks. omega (arith, looks.within, c.first.ensures, c.if-index-first.true))

pub bounds-words-index : goal.bounds-words-index
bounds-words-index c =
    omega (
      arith,
      directory_within c.args.words.now c.requires,
      c.first.ensures,
      c.if-index-first.false,
    )

pub returns-then-first-tag-clause-only : goal.returns-then-first-tag-clause-only
returns-then-first-tag-clause-only c = λ d is no.
    leads_to_none d c.args.words.now is c.args.index c.args.bytes.now
    (λ looks. let yes = eq-eqb _ _ (c.second.ensures ∙ looks.word.count_is) in
    let both = sym yes ∙ no in absurd (cc))

pub returns-else-first-tag-clause-only : goal.returns-else-first-tag-clause-only
returns-else-first-tag-clause-only c = λ d is no.
    leads_to_none d c.args.words.now is c.args.index c.args.bytes.now
    (λ looks. let yes =
    eq-eqb _ _ (c.first-2.ensures ∙ looks.word.tag ∙ sym c.tag.ensures.number) in let both =
    sym yes ∙ no in absurd (cc))
