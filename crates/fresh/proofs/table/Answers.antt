-- Arrays of zeros are the fresh ledger, and scratch of the asked length.
use native.Mathlib.Omega.{arith}
use Rattle.rules.specs.Numbers.{own_slots}
use Rattle.fresh.proofs.Tables.{zeroed_fresh}
use Rattle.fresh.proofs.table.Goals as goal

pub table_in-requires : goal.table_in-requires
table_in-requires c = zeroed_fresh own_slots (omega arith) (omega arith)
