use Rattle.std.proofs.Common.{◌≤◌, length, arith}
use Rattle.cm_disk.proofs.Choices.{picked, picked_bytes, chosen_by_picked, length_picked, loose_few}
use Rattle.cm_disk.proofs.laws.image_has_a_choice.Goals as goal

pub returns : goal.returns
returns c = λ contents image unsynced is.
    let fill = picked unsynced image (length image) in
    let short : length fill ≤ length image =
    omega (
      arith,
      length_picked unsynced image (length image),
      loose_few unsynced (length image),
    ) in (
      fill,
      picked_bytes unsynced image (length image) is.bytes,
      short,
      chosen_by_picked contents image unsynced is,
    )
