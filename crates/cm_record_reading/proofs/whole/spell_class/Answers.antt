use Rattle.std.proofs.Common.{arith}
use Rattle.cm_record_reading.proofs.Spelled.{spelled_is_record, refused_is_none}
use Rattle.cm_record_reading.proofs.whole.spell_class.Goals as goal

pub returns-clause-ok : goal.returns-clause-ok
returns-clause-ok c =
    let words = c.args.words.now in
    spelled_is_record words c.spell_words.new.out.items (omega (arith, c.type_inv.words 1))
    (omega (arith, c.type_inv.words 2)) c.requires c.spell_words.result
    (rw c.clear.ensures.items at c.spell_words.ensures)

pub returns-clause-not_a_record : goal.returns-clause-not_a_record
returns-clause-not_a_record c =
    refused_is_none c.args.words.now c.spell_words.new.out.items c.clear.new.self.items
    c.spell_words.result c.spell_words.ensures
