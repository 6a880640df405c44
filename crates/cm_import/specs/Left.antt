-- How many classes a feed of places may still give.
use Rattle.std.specs.Prelude.{ℕ, ◌+◌, ◌*◌, length, Option, Some, None}
use Rattle.cm_import.specs.declared.feed.FoundClasses.{FoundClasses}
use Rattle.cm_import.specs.declared.open_jar.OpenJar.{OpenJar}

-- of a jar that is open: more than it has
abbrev pub left_in : Option OpenJar → ℕ
left_in None = 0
left_in (Some jar) = jar.left + 1

-- of the open jar and of places that aren't read yet, each of which has fewer than 2^16
abbrev pub unread_of : {R : Type 0} → FoundClasses R → ℕ
unread_of f = 65537 * length f.places.items + left_in f.jar

-- and of classes that are ready
abbrev pub left_of : {R : Type 0} → FoundClasses R → ℕ
left_of f = length f.preparer.ready.items + unread_of f
