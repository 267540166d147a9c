-- `records::mask_table` meets its contract: the table's rule is one test, computed over all its 33 entries.
-- Assumes nothing.
use mathlib.Core.Path.{refl}
use Rattle.records.specs.Masks.{mask_table}
use Rattle.records.proofs.mask_table.Goals as goal

pub returns : goal.returns
unfolding mask_table
returns c = refl
