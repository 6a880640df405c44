use Rattle.std.proofs.Common.{arith}
use Rattle.cm_record_layout.proofs.{directory_within}
use Rattle.cm_record.proofs.utf8.is_utf8_of.Goals as goal

pub wide_words_before-wide-requires : goal.wide_words_before-wide-requires
wide_words_before-wide-requires c =
    omega (
      arith,
      directory_within c.args.words.now c.requires,
      c.may_be_utf8_of.ensures.there c.if-not-may_be_utf8_of.false,
    )

pub constant_at-requires-clause-within : goal.constant_at-requires-clause-within
constant_at-requires-clause-within c = directory_within c.args.words.now c.requires
