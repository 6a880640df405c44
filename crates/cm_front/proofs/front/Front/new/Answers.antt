use Rattle.std.proofs.Common.{ap, sym, subst}
use Rattle.cm_state.specs.State.{words_show}
use Rattle.cm_state.specs.Entries.{AreCacheRows}
use Rattle.cm_group.specs.Groups.{AreRight}
use Rattle.cm_front.proofs.front.Front.new.Goals as goal

pub restore-requires-clause-rows : goal.restore-requires-clause-rows
restore-requires-clause-rows c =
    let none = sym (ap (λ b. b.rows) c.in_ok-book.ensures) in
    subst (AreCacheRows words_show c.in_ok-book.book.sizes 0) none (record {
      live = tt;
      apart = λ r s in_r in_s meets. elim in_r [ ];
      differ = tt;
    })

pub restore-requires-clause-right : goal.restore-requires-clause-right
restore-requires-clause-right c = subst AreRight (sym (ap (λ b. b.rows) c.in_ok-book.ensures)) tt
