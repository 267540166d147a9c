-- The address stands in the highest 32 bits.
use Rattle.std.proofs.Common.{arith}
use Rattle.ledger.proofs.Paths.{path_bits_lem}
use Rattle.ledger.proofs.path_of.Goals as goal

pub returns : goal.returns
returns c = path_bits_lem _ _ (omega (arith, c.from.ensures, c.ranges.address))
