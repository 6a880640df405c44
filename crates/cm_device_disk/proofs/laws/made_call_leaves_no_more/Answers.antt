use Rattle.cm_device_disk.proofs.Noting.{made_leaves}
use Rattle.cm_device_disk.proofs.laws.made_call_leaves_no_more.Goals as goal

pub returns : goal.returns
returns c = made_leaves
