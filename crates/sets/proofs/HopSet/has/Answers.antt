-- The flag is discard's; the digit that the shift brings down in its word is another hop's.
use Rattle.sets.proofs.Members.{has_discard, has_digit}
use Rattle.sets.proofs.HopSet.has.Goals as goal

pub returns-then-hop-eq-DISCARD : goal.returns-then-hop-eq-DISCARD
returns-then-hop-eq-DISCARD c = has_discard _ _ c.if-hop-eq-DISCARD.true

pub returns : goal.returns
returns c = has_digit _ _ c.if-hop-eq-DISCARD.false
