use Rattle.cm_plain_view.specs.Walks.{HasNoneBetween}
use Rattle.cm_plain_view.proofs.walking.next_class.Given as goal

abbrev pub invariant-loop-at : goal.invariant-loop-at
invariant-loop-at l = HasNoneBetween l.rows l.loader l.from l.at
