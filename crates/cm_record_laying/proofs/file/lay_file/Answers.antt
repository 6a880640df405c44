use Rattle.std.proofs.Common.{◌≡◌, sym, ◌∙◌, arith}
use Rattle.std.proofs.lemmas.Option.{IfSome_then}
use Rattle.std.specs.Cmp.Lexicographic.{same_text}
use Rattle.cm_record_laying.specs.Heads.{head_of}
use Rattle.cm_record_laying.proofs.WholeFiles.{record_laid}
use Rattle.cm_record_laying.proofs.file.lay_file.Goals as goal

pub returns-then-eq : goal.returns-then-eq
returns-then-eq c =
    let told = c.in_ok-head.head in
    let begun = c.in_ok-sections.ensures in
    let same : c.in_ok-found.found ≡ told =
    same_text c.in_ok-found.found told (c.if-eq.ensures {u = tt}) in
    let numbers = c.in_ok-numbers.numbers in
    IfSome_then c.join.result c.join.ensures (λ words joined.
    record_laid numbers c.args.bytes.now told words.words c.in_ok-sections.sections
    c.lay_parts.new.sections (c.in_ok-numbers.ensures {u = tt}) begun.words begun.attributes
    begun.runs begun.attributes_at begun.runs_at
    (omega (arith, c.if-head-gt-MAX_WORDS.false))
    (sym same ∙ (c.in_ok-found.ensures {u = tt}
    ∙ (λ i. head_of numbers (c.len-attributes.ensures i) (c.len-runs.ensures i))))
    joined)
