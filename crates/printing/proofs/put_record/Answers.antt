-- At each turn the output has the address's bytes passed; the four behind them make the record.
use Rattle.std.proofs.Common.{arith, ap, get_or}
use Rattle.printing.proofs.Writing.{written_none, written_more, written_all}
use Rattle.printing.proofs.put_record.Goals as goal

pub loop-i-init : goal.loop-i-init
loop-i-init c = written_none c.requires

pub loop-i-preserved : goal.loop-i-preserved
loop-i-preserved c =
    written_more c.requires c.loop-i.invariant (omega arith) c.byte_of.ensures

pub returns : goal.returns
returns c =
    written_all c.requires _ _ c.loop-i.invariant (omega arith)
    (omega (arith, ap (λ bs. get_or bs 0 0) c.to_be_bytes.ensures, c.requires.two_bytes))
    (omega (arith, ap (λ bs. get_or bs 1 0) c.to_be_bytes.ensures, c.requires.two_bytes))
