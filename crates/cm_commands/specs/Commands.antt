-- Which change a command requests.
use Rattle.std.specs.Prelude.{ℕ, List}
use Rattle.cm_commands.specs.declared.command.Command.{Command}
use Rattle.cm_commands.specs.declared.command.Command.TheVariants as command
use Rattle.cm_state.specs.Step.{Change, AddLoader, Define, Unload, Tighten, UnloadAll}

-- a class is identified by the words of its record
abbrev pub change_asked : Command → Change (List ℕ)
change_asked (command.AddLoader x) = AddLoader x.now
change_asked (command.Define x class) = Define x.now class
change_asked (command.Unload x) = Unload x.now
change_asked (command.Tighten x) = Tighten x.now
change_asked (command.UnloadAll xs) = UnloadAll xs
