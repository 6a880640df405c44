use Rattle.std.proofs.Common.{List, ◌∷◌, subst, sym}
use Rattle.cm_group.specs.Groups.{Handed, IsGroup}
use Rattle.cm_session.specs.Session.{AreConsecutive}
use Rattle.cm_session.proofs.Queued.{behind_joined}
use Rattle.cm_session.proofs.joining.join_next.Goals as goal

pub returns-in-Ok-clause-behind : goal.returns-in-Ok-clause-behind
returns-in-Ok-clause-behind c =
    let rest = c.pop_front.new.self.items in
    let ok = c.in-Ok.ensures.ok in
    λ n b. subst (λ (g : Handed). AreConsecutive n (g ∷ rest)) (sym ok)
    (behind_joined n c.args.group.now c.in-Some.next rest
    (subst IsGroup ok c.invariant_holds.ensures)
    (subst (λ (q : List Handed). AreConsecutive n (c.args.group.now ∷ q)) c.in-Some.ensures.items
    b))
