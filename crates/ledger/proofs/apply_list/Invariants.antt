-- So many records are applied, and applying the rest to what is held now gives the whole answer (Ahead of Batch).
use Rattle.editing.specs.Held.{memory_held, SameLoans}
use Rattle.ledger.proofs.Batch.{Ahead}
use Rattle.ledger.proofs.apply_list.Given as goal

abbrev pub invariant-loop-count : goal.invariant-loop-count
invariant-loop-count l = record {
  same_loans : SameLoans l.initial.memory l.memory;
  ahead : Ahead (memory_held l.initial.memory) l.list l.records (memory_held l.memory) l.count;
}
