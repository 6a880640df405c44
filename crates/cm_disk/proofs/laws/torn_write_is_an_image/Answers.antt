use Rattle.std.proofs.Common.{arith}
use Rattle.cm_disk.proofs.Images.{torn_same}
use Rattle.cm_disk.proofs.laws.torn_write_is_an_image.Goals as goal

pub returns : goal.returns
returns c = λ at n contents image unsynced durable bytes torn. record {
  no_shorter = omega (arith, durable.least, torn.no_shorter);
  no_longer = omega (arith, durable.greatest, torn.no_longer);
  bytes = bytes;
  same = λ i lt closed. torn_same at n contents image torn (unsynced.is_open i) i closed;
}
