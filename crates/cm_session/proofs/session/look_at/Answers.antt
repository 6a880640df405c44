use Rattle.std.proofs.Common.{List, ℕ, ◌≤◌, length, refl, subst, sym, ◌∙◌}
use Rattle.cm_record.specs.Layout.{limit}
use Rattle.cm_commands.specs.declared.command.Command.{Command}
use Rattle.cm_commands.specs.Commands.{change_asked}
use Rattle.cm_state.specs.Step.{AddLoader, Unload, Tighten, UnloadAll}
use Rattle.cm_session.specs.Moves.{IsAsked}
use Rattle.cm_session.proofs.Commands.{is_asked}
use Rattle.cm_session.proofs.session.look_at.Goals as goal

pub returns-in-AddLoader : goal.returns-in-AddLoader
returns-in-AddLoader c =
    subst (λ (command : Command). IsAsked (change_asked command)) (sym c.in-AddLoader.is)
    (AddLoader _, refl)

pub returns-in-Define : goal.returns-in-Define
returns-in-Define c =
    subst (λ (command : Command). IsAsked (change_asked command)) (sym c.in-Define.is)
    (is_asked c.in-Define.field-0.now c.in-Define.class c.record.ensures.right
    (subst (λ (l : List ℕ). length l ≤ limit) (c.deref.ensures ∙ c.record.ensures.«record»)
    c.invariant_holds.ensures.short))

pub returns-in-Unload : goal.returns-in-Unload
returns-in-Unload c =
    subst (λ (command : Command). IsAsked (change_asked command)) (sym c.in-Unload.is)
    (Unload _, refl)

pub returns-in-Tighten : goal.returns-in-Tighten
returns-in-Tighten c =
    subst (λ (command : Command). IsAsked (change_asked command)) (sym c.in-Tighten.is)
    (Tighten _, refl)

pub returns-in-UnloadAll : goal.returns-in-UnloadAll
returns-in-UnloadAll c =
    subst (λ (command : Command). IsAsked (change_asked command)) (sym c.in-UnloadAll.is)
    (UnloadAll _, refl)
