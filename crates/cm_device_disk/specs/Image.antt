-- What is still known about a device's bytes.
use Rattle.std.specs.Prelude.{ℕ, Bool, false, nat_le, List, [], ◌++◌, length, drop, Option}
use Rattle.std.specs.Prelude.{Some, None}
use Rattle.cm_device_disk.specs.declared.image.Image.{Image}
use Rattle.cm_device_disk.specs.declared.image.Image.TheVariants.{Read, Length, Lost}
use Rattle.cm_device_disk.specs.declared.word_run.WordRun.{WordRun}

-- these contents, with the image's bytes in place of the first ones
abbrev pub image_bytes : {F : Type 0} → Image F → List ℕ → List ℕ
image_bytes (Read bytes runs len) contents =
    bytes.items ++ drop (length bytes.items) contents
image_bytes (Length len) contents = contents
image_bytes (Lost cause) contents = contents

-- the length according to the image; `length_now` if it has none
abbrev pub image_length : {F : Type 0} → Image F → ℕ → ℕ
image_length (Read bytes runs len) length_now = len
image_length (Length len) length_now = len
image_length (Lost cause) length_now = length_now

-- the words that it has besides these
abbrev pub image_runs : {F : Type 0} → Image F → List WordRun
image_runs (Read bytes runs len) = runs.items
image_runs (Length len) = []
image_runs (Lost cause) = []

-- how many of the first bytes it has
abbrev pub image_held : {F : Type 0} → Image F → ℕ
image_held (Read bytes runs len) = length bytes.items
image_held (Length len) = 0
image_held (Lost cause) = 0

-- the image has the first n bytes
abbrev pub image_holds : {F : Type 0} → Image F → ℕ → Bool
image_holds (Read bytes runs len) n = nat_le n (length bytes.items)
image_holds (Length len) n = false
image_holds (Lost cause) n = false

abbrev pub image_cause : {F : Type 0} → Image F → Option F
image_cause (Read bytes runs len) = None
image_cause (Length len) = None
image_cause (Lost cause) = Some cause
