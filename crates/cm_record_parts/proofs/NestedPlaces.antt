-- The places of a code's attributes, in the content of its Code.
-- For `nested_attribute`.
use Rattle.std.proofs.Common.{◌≡◌, ◌≤◌, ◌+◌, ◌-◌, ℕ, List, length, take, drop}
use Rattle.std.proofs.Common.{Some, false, refl, sym, ◌∙◌, ap, arith, drop-drop}
use Rattle.std.specs.Prelude.{nat_lt}
use Rattle.std.proofs.lemmas.List.{drop-take, take-take, length-drop, length-take-le}
use Rattle.std.proofs.lemmas.Bool.{le-ltb}
use Rattle.cm_record_layout.specs.Packing.{word_bytes}
use Rattle.cm_record.specs.Code.{u2_at, u4_at}
use Rattle.cm_record_parts.specs.declared.places.Place.{Place}
use Rattle.cm_record_parts.specs.Places.{LieAt}
use Rattle.cm_record_parts.specs.Nested.{nested_at}

-- bytes within some bytes
pub lie_within : (words bytes : List ℕ) (outer place : Place) (from : ℕ)
    → LieAt words outer bytes → from + place.len ≤ length bytes → place.at ≡ outer.at + from
    → LieAt words place (take place.len (drop from bytes))
lie_within words bytes outer place from lies fits at =
    let all = word_bytes words in
    let size : outer.len ≡ length bytes = lies.len in
    let inside : place.len ≤ outer.len - from = omega (arith, size, fits) in
    let parts : from + (outer.len - from) ≡ outer.len = omega (arith, size, fits) in
    record {
      within = omega (arith, lies.within, size, fits, at);
      len =
          sym (length-take-le place.len (drop from bytes)
          (omega (arith, length-drop from bytes, fits)));
      are =
          ap (λ n. take place.len (drop n all)) at
          ∙ (ap (take place.len) (sym (drop-drop from outer.at all))
          ∙ (sym (take-take place.len (outer.len - from) (drop from (drop outer.at all)) inside)
          ∙ (ap (take place.len) (sym (drop-take from (outer.len - from) (drop outer.at all))
          ∙ (ap (λ n. drop from (take n (drop outer.at all))) parts
          ∙ ap (drop from) lies.are)))));
    }

pub nested_is : (bytes : List ℕ) (from : ℕ) → 6 + from ≤ length bytes
    → 6 + from + u4_at bytes (2 + from) ≤ length bytes
    → nested_at bytes from
    ≡ Some (record {
      name = u2_at bytes from;
      bytes = take (u4_at bytes (2 + from)) (drop (6 + from) bytes);
    })
nested_is bytes from head whole =
    let first : nat_lt (length bytes) (6 + from) ≡ false =
    le-ltb (length bytes) (6 + from) head in
    let second : nat_lt (length bytes) (6 + from + u4_at bytes (2 + from)) ≡ false =
    le-ltb (length bytes) (6 + from + u4_at bytes (2 + from)) whole in
    rw (first, second) refl
