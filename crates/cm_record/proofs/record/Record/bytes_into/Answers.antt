use Rattle.std.proofs.Common.{◌≡◌, ◌∙◌, ◌≤◌, ◌+◌, ◌-◌, ◌/◌, List, ℕ, length, ap, subst, arith}
use Rattle.std.proofs.lemmas.List.{take_all}
use Rattle.cm_record_layout.specs.Packing.{word_bytes, packed_into}
use Rattle.cm_record.proofs.record.Record.bytes_into.Goals as goal

pub returns-clause-words : goal.returns-clause-words
returns-clause-words c =
    let words = c.args.self.now in
    let own = c.self.inside.words.words in
    let many : length own ≤ 0 + length c.args.out.now / 8 - 0 =
    omega (arith, ap length c.self.view_is, c.requires) in
    let written : c.bytes_into.new.out ≡ word_bytes words =
    c.bytes_into.ensures ∙ ap word_bytes (take_all (0 + length c.args.out.now / 8 - 0) own many
    ∙ c.self.view_is) in
    ap (packed_into (length words)) written ∙ subst
    (λ (w : List ℕ). packed_into (length w) (word_bytes w) ≡ w) c.as_slice.ensures.words
    c.bytes_tell_words.ensures
