-- How a buffer keeps its words: its block begins with them, and the other places are empty.
use Rattle.std.specs.Prelude.{◌≡◌, ℕ, ◌^◌, ◌*◌, ◌<◌, ◌≤◌, length}
use Rattle.std.specs.declared.alloc.Global.{Global}
use Rattle.cm_words.specs.Places.{somes, filled}
use Rattle.cm_words.specs.declared.block.Base.{Base}
use Rattle.cm_words.specs.declared.block.Cells.{Cells}
use Rattle.cm_words.specs.declared.block.Deed.{Deed}

pub record IsBuffer (base : Base ℕ) (cells : Cells ℕ) (deed : Deed ℕ Global) (alloc : Global)
    (len capacity : ℕ) : Type 0 where
  pub place : cells.at ≡ base.ptr
  pub deed_place : deed.at ≡ base.ptr
  pub deed_len : deed.len ≡ capacity
  pub deed_alloc : deed.alloc ≡ alloc
  pub count : len ≡ length (somes cells.slots)
  pub room : len ≤ capacity
  pub small : capacity * 8 < 2 ^ 63
  pub laid : cells.slots ≡ filled (somes cells.slots) capacity
