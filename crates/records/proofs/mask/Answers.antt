-- The table has the mask of each length at its place.
use Rattle.std.proofs.Common.{arith}
use Rattle.records.proofs.Masks.{mask_in}
use Rattle.records.proofs.mask.Goals as goal

pub returns : goal.returns
returns c = rw c.mask_table.ensures (mask_in _ _ (omega arith) c.requires)
