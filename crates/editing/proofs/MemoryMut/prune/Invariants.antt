-- Each turn frees one bare slot and goes to its parent, which its mark names.
use Rattle.memory.specs.Path.{path_bit}
use Rattle.editing.specs.Held.{memory_held, SameLoans}
use Rattle.editing.specs.Routes.{Reworked, OnPath}
use Rattle.editing.proofs.MemoryMut.prune.Given as goal

abbrev pub invariant-loop-depth : goal.invariant-loop-depth
invariant-loop-depth l = record {
  same_loans : SameLoans l.initial.self l.self;
  reworked : Reworked l.width (memory_held l.initial.self) (memory_held l.self) l.slot l.at;
  on : OnPath l.width (memory_held l.self) (path_bit l.path) l.depth l.at;
}
