-- The whole call is refused by its rules, or the path is walked: what is answered is the hop found there, by its value.
use Rattle.std.proofs.Common.{arith}
use Rattle.ledger.proofs.Batch.{lookup_found}
use Rattle.ledger.proofs.lookup.Goals as goal

pub returns : goal.returns
returns c = lookup_found _ _ c.in_ok-check.ensures.0 _ c.path_of.ensures _ (omega (arith, c.longest_match-found.ensures))
