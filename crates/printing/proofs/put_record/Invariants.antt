-- At each turn the output has the address's bytes passed; the four behind them make the record.
use Rattle.printing.proofs.Writing.{Written}
use Rattle.printing.proofs.put_record.Given as goal

abbrev pub invariant-loop-i : goal.invariant-loop-i
invariant-loop-i l = Written l.initial.output l.at l.bytes l.path l.size l.output l.i
