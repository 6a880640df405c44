-- Which kinds of bytes don't occur among some bytes.
use Rattle.std.specs.Prelude.{ℕ, drop, Bool, List, not, ◌&&◌, ◌==◌, if◌then◌else◌}
use Rattle.std.specs.List.{list_all}
use lib.Lanes.{zip2}
use Rattle.std.specs.Int.{w64, trailing_zeros}
use Rattle.cm_descriptors.specs.declared.marks.ByteMarks.{ByteMarks}
use Rattle.cm_descriptors.specs.Forms.{dot, slash, semicolon, bracket, less, greater, is_within}

abbrev pub is_plain : ℕ → Bool
is_plain b = is_within 0x01 0x7F b

abbrev pub is_no_slash : ℕ → Bool
is_no_slash b = not (b == slash)

abbrev pub is_no_stop : ℕ → Bool
is_no_stop b = not (b == dot) && not (b == semicolon) && not (b == bracket)

abbrev pub is_no_angle : ℕ → Bool
is_no_angle b = not (b == less) && not (b == greater)

unfoldable pub marks_of : List ℕ → ByteMarks
marks_of bytes = record {
  plain = list_all is_plain bytes;
  no_slash = list_all is_no_slash bytes;
  no_stop = list_all is_no_stop bytes;
  no_angle = list_all is_no_angle bytes;
}

-- the marks of some bytes and of others together
unfoldable pub both_marks : ByteMarks → ByteMarks → ByteMarks
both_marks a b = record {
  plain = a.plain && b.plain;
  no_slash = a.no_slash && b.no_slash;
  no_stop = a.no_stop && b.no_stop;
  no_angle = a.no_angle && b.no_angle;
}

-- the place of the lowest bit that is set, or n
abbrev pub first_set : ℕ → ℕ → ℕ
first_set mask n = if mask == 0 then n else trailing_zeros w64 mask

-- each byte with the one after it
abbrev pub neighbours : List ℕ → List (ℕ × ℕ)
neighbours bytes = zip2 (λ (a : ℕ) (b : ℕ). (a, b)) bytes (drop 1 bytes)

-- not both bytes are slashes
abbrev pub not_both_slashes : ℕ × ℕ → Bool
not_both_slashes p = not (p.0 == slash && p.1 == slash)
