-- Names of loaders.
use Rattle.std.specs.Prelude.{ℕ, ◌==◌, Bool, ◌&&◌, nat_le, nat_lt, if◌then◌else◌, List, length}
use Rattle.std.specs.List.{list_all}

-- how many bytes of a name a loader's own slot has room for
abbrev pub name_room : ℕ
name_room = 48

-- how many bytes of a name there is room for with a continuation slot
abbrev pub long_name_room : ℕ
long_name_room = 96

-- the most bytes that a loader's name has
abbrev pub name_limit : ℕ
name_limit = long_name_room

-- the most bytes that a loader's name has in entries of a version: version 1 has no continuation
-- slots
abbrev pub limit_of : ℕ → ℕ
limit_of version = if version == 1 then name_room else name_limit

-- the name continues in a continuation slot
abbrev pub is_long : List ℕ → Bool
is_long name = nat_lt name_room (length name)

-- how many slots a loader of this name takes
abbrev pub slots_of_name : List ℕ → ℕ
slots_of_name name = if is_long name then 2 else 1

-- a byte from 21 to 7E, in hexadecimal: a visible character of ASCII
abbrev pub is_visible : ℕ → Bool
is_visible b = nat_le 33 b && nat_le b 126

abbrev pub is_loader_name : List ℕ → Bool
is_loader_name name =
    nat_le 1 (length name) && nat_le (length name) name_limit && list_all is_visible name

-- how many loaders are unloaded at once at most
abbrev pub unload_limit : ℕ
unload_limit = 7
