-- Names of loaders with a tag: a name, an `@`, and 16 hexadecimal digits in lower case.
use Rattle.std.specs.Prelude.{ℕ, ◌+◌, ◌==◌, Bool, ◌&&◌, ◌||◌, nat_le, List, length, take, drop}
use Rattle.std.specs.Prelude.{slice_index}
use Rattle.std.specs.List.{list_all}
use Rattle.std.specs.Str.{bytes_eq}

abbrev pub is_digit : ℕ → Bool
is_digit b = (nat_le 48 b && nat_le b 57) || (nat_le 97 b && nat_le b 102)

abbrev pub is_tagged : List ℕ → List ℕ → Bool
is_tagged name base =
    (length name == length base + 17) && bytes_eq (take (length base) name) base
    && (slice_index name (length base) == 64)
    && list_all is_digit (drop (length base + 1) name)
