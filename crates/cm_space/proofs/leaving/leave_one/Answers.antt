use Rattle.std.proofs.Common.{◌∙◌, sym, ap, subst, IsSome}
use Rattle.cm_space.proofs.Arenas.{get-lookup}
use Rattle.cm_space.proofs.Views.{one_left}
use Rattle.cm_space.proofs.leaving.leave_one.Goals as goal

pub unwrap-arena-requires : goal.unwrap-arena-requires
unwrap-arena-requires c =
    subst (λ o. IsSome o)
    (get-lookup c.args.arenas.now.entries c.args.loader ∙ sym c.remove.ensures.value)
    c.requires.known

pub returns-clause-left : goal.returns-clause-left
returns-clause-left c =
    one_left c.args.arenas.now.entries c.remove.new.self.entries c.args.waiting.now.items
    c.push_back_reserved.new.self.items c.args.loader c.args.number c.unwrap-arena.result
    (record { number = c.args.number; chunks = c.release-chunks.result })
    (sym c.remove.ensures.value ∙ c.unwrap-arena.ensures) c.remove.ensures.updates.0
    c.push_back_reserved.ensures.items
    (ap (λ cs. record { number = c.args.number; chunks = cs }) c.release-chunks.ensures)
