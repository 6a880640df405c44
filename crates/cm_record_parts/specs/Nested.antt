-- The attributes of a method's code, in the content of its Code (JVMS 4.7.3).
use Rattle.std.specs.Prelude.{ℕ, ◌+◌, ◌*◌, List, length, take, drop, Option, Some, None}
use Rattle.std.specs.Prelude.{nat_lt, if◌then◌else◌}
use Rattle.cm_class.specs.declared.class_file.Attribute.{Attribute as ClassAttribute}
use Rattle.cm_record.specs.Code.{u2_at, u4_at}
use Rattle.cm_record_parts.specs.declared.nested.NestedAttributes.{NestedAttributes}

-- where the handlers end, if there is a count of them
abbrev pub handlers_end : List ℕ → ℕ
handlers_end bytes = 10 + u4_at bytes 4 + 8 * u2_at bytes (8 + u4_at bytes 4)

-- The attributes of the code: after max stack, max locals, the code and the handlers stands their
-- count. None if the bytes end before.
abbrev pub nested_in : List ℕ → Option NestedAttributes
nested_in bytes =
    if nat_lt (length bytes) 8 then None
    else if nat_lt (length bytes) (10 + u4_at bytes 4) then None
    else if nat_lt (length bytes) (2 + handlers_end bytes) then None
    else Some (record {
      from = 2 + handlers_end bytes;
      count = u2_at bytes (handlers_end bytes);
    })

-- the attribute that begins at a byte; none if the bytes end before it does
abbrev pub nested_at : List ℕ → ℕ → Option ClassAttribute
nested_at bytes from =
    if nat_lt (length bytes) (6 + from) then None
    else if nat_lt (length bytes) (6 + from + u4_at bytes (2 + from)) then None
    else Some (record {
      name = u2_at bytes from;
      bytes = take (u4_at bytes (2 + from)) (drop (6 + from) bytes);
    })
