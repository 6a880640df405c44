use Rattle.std.proofs.Common.{◌≡◌, ◌++◌, List, ℕ, length, take, drop, refl, ap, ◌∙◌, arith}
use Rattle.std.proofs.Common.{length-take, length-drop}
use Rattle.std.proofs.lemmas.Bool.{le-leb}
use Rattle.cm_layout.specs.Zeros.{zeros}
use Rattle.cm_layout.proofs.SlotsJoined.{put_second}
use Rattle.cm_layout.proofs.loader_row.name_room_in.Goals as goal

pub returns-then-slots : goal.returns-then-slots
returns-then-slots c =
    let slots = c.args.slots.now in
    let first : List ℕ = take 48 (drop 16 slots) in
    let one : length first ≡ 48 =
    omega (arith, length-take 48 (drop 16 slots), length-drop 16 slots, c.requires) in
    put_second 48 first _ c.copy_from_slice.new.self (zeros 48) one c.copy_from_slice.ensures.after
    refl
    ∙ (ap (λ (l : List ℕ). first ++ l) c.copy_from_slice-then-slots.ensures.after
    ∙ rw (le-leb 128 (length slots) c.if-slots.true) refl)
