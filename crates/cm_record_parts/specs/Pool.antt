-- The constants of a pool, one after the other.
use Rattle.std.specs.Prelude.{◌≡◌, ◌<◌, ℕ, ◌+◌, List, get_or, not, Option, Some, None}
use Rattle.std.specs.Prelude.{IsSome, ◌&&◌, ◌==◌, if◌then◌else◌}
use Rattle.cm_class.specs.declared.class_file.ClassFile.{ClassFile}
use Rattle.cm_record.specs.Constants.{constant_kept, is_wide_word}
use Rattle.cm_record_parts.specs.declared.constants.PoolConstant.{PoolConstant}

-- how far after the constant at an index the next one is
abbrev pub step_of : List ℕ → ℕ → ℕ
step_of words index =
    if not (index == 0) && is_wide_word (get_or words (8 + index) 0) then 2 else 1

-- The index is that of a constant, or 0.
abbrev pub IsStart : ClassFile → ℕ → Type 0
IsStart c after = (after ≡ 0 → ⊥) → IsSome (constant_kept c after)

-- the first constant after an index
pub record IsNext (c : ClassFile) (after : ℕ) (found : PoolConstant) : Type 0 where
  pub later : after < found.index
  pub is : constant_kept c found.index ≡ Some found.constant
  pub first : (k : ℕ) → after < k → k < found.index → constant_kept c k ≡ None

-- what is found after an index: none only if there is none
abbrev pub FindsNext : ClassFile → ℕ → Option PoolConstant → Type 0
FindsNext c after None = (k : ℕ) → after < k → constant_kept c k ≡ None
FindsNext c after (Some found) = IsNext c after found
