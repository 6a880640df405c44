-- The calls of a list that are still to be made.
use Rattle.std.specs.Prelude.{◌≡◌, false, Option, None, slice_get, if◌then◌else◌}
use Rattle.cm_disk.specs.Calls.{DiskCall}
use Rattle.cm_deferred_disk.specs.Listed.{listed}
use Rattle.cm_stepped.specs.declared.call_list.CallList.{CallList}

-- the call that is to be made now
abbrev pub next_call : CallList → Option DiskCall
next_call list =
    if list.is_broken then None else slice_get (listed list.disk.device) list.made

-- none of its calls was made yet
pub record IsUnbegun (list : CallList) : Type 0 where
  pub made : list.made ≡ 0
  pub works : list.is_broken ≡ false
