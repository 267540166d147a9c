-- The walk down ends at the last slot on the path; each turn hangs the next one below it, and the ledger is as it was. At the end
-- the hop is set, or no slot was left.
use Rattle.std.proofs.Common.{arith}
use Rattle.editing.proofs.Ending.{announce_refused, announce_taken}
use Rattle.editing.proofs.MemoryMut.announce.Goals as goal

pub returns-in_default-clause-announced : goal.returns-in_default-clause-announced
returns-in_default-clause-announced c =
    announce_refused _ _ _ _ c.requires _ _ _ _ c.loop-depth.invariant.reworked c.loop-depth.invariant.reaches c.loop-depth-test.true
    _ _ c.in_default.ensures.step c.prune.ensures.reworked

pub returns-clause-announced : goal.returns-clause-announced
returns-clause-announced c =
    announce_taken _ _ _ _ c.requires _ _ _ _ c.loop-depth.invariant.reworked c.loop-depth.invariant.reaches
    _ (omega arith) (omega (arith, c.loop-depth-test.false, c.loop-depth.invariant.reaches.short))
