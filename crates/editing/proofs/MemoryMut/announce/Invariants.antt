-- The walk down ends at the last slot on the path; each turn hangs the next one below it, and the ledger is as it was. At the end
-- the hop is set, or no slot was left.
use Rattle.memory.specs.Path.{path_bit}
use Rattle.memory.specs.Reach.{Reaches}
use Rattle.editing.specs.Held.{memory_held, SameLoans}
use Rattle.editing.specs.Routes.{Reworked}
use Rattle.editing.proofs.MemoryMut.announce.Given as goal

abbrev pub invariant-loop-depth : goal.invariant-loop-depth
invariant-loop-depth l = record {
  same_loans : SameLoans l.initial.self l.self;
  reworked : Reworked l.width (memory_held l.initial.self) (memory_held l.self) 0 l.slot;
  reaches : Reaches (memory_held l.self).tree (path_bit l.path) l.size l.depth l.slot;
}
