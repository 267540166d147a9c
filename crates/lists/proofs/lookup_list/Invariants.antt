-- From each place on, the rest of the records gives the whole answer (Ahead of Scan).
use Rattle.lists.proofs.Scan.{Ahead}
use Rattle.lists.proofs.lookup_list.Given as goal

abbrev pub invariant-loop-place : goal.invariant-loop-place
invariant-loop-place l = Ahead l.list l.records l.address l.place l.best
