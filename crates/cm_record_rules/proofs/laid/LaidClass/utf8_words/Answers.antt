use Rattle.std.proofs.Common.{◌∙◌, ◌*◌, ap, drop, take}
use Rattle.cm_record_rules.specs.Plain.{count_characters}
use Rattle.cm_record_rules.proofs.Whole.{its_texts}
use Rattle.cm_record_rules.proofs.laid.LaidClass.utf8_words.Goals as goal

pub returns : goal.returns
returns c =
    ap count_characters (c.run_bytes.ensures
    ∙ ap (λ at. take c.args.len (drop (8 * at) c.self.inside.bytes.now)) c.word_at.ensures)
    ∙ its_texts c.args.self.now c.self.inside.words.now c.self.inside.bytes.now
    c.self.inside.tags.now c.self.invariant c.self.view_is c.args.len c.requires
