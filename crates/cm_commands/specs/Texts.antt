-- The text of why a command isn't done.
use Rattle.std.specs.Prelude.{ℕ, List, ◌++◌, codes}
use Rattle.std.specs.Fmt.{decimal}
use Rattle.cm_rules.specs.Texts.{bad_class_text}
use Rattle.cm_commands.specs.declared.refusal.Refusal.{Refusal}
use Rattle.cm_commands.specs.declared.refusal.Refusal.TheVariants as refusal

abbrev pub refusal_text : Refusal → List ℕ
refusal_text refusal.BadName = codes "name"
refusal_text refusal.LoaderExists = codes "loader exists"
refusal_text refusal.NoLoader = codes "no loader"
refusal_text refusal.ClassExists = codes "class exists"
refusal_text refusal.RecordTooLong = codes "record too long"
refusal_text refusal.RegionFull = codes "region full"
refusal_text refusal.JournalFull = codes "journal full"
refusal_text refusal.NoMove = codes "no move"
refusal_text refusal.NoMemory = codes "memory"
refusal_text refusal.Broken = codes "broken"
refusal_text refusal.Closed = codes "closed"
refusal_text refusal.NumbersSpent = codes "numbers spent"
refusal_text (refusal.Unsure n) = codes "unsure " ++ decimal n
refusal_text (refusal.BadClass bad) = bad_class_text bad
refusal_text refusal.BadLine = codes "line"
refusal_text refusal.BadList = codes "list"
