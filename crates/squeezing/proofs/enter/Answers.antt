-- The test at the hop in force above decides; the record is the printed one.
use mathlib.Core.Path.{refl}
use native.Mathlib.Omega.{arith}
use Rattle.squeezing.proofs.Entering.{enters_none, can_print, enters_one}
use Rattle.squeezing.proofs.enter.Goals as goal

pub returns-then-has : goal.returns-then-has
returns-then-has c =
    enters_none _ _ _ _ c.args.standing.hop _ _ _ c.has.ensures c.if-has.true _ refl refl

pub put_record-requires : goal.put_record-requires
put_record-requires c =
    can_print _ _ _ _ c.args.standing.hop _ _ _ c.has.ensures c.if-has.false _ c.least-hop.ensures c.requires.0

pub returns : goal.returns
returns c =
    enters_one _ _ _ _ c.args.standing.hop _ _ _ c.has.ensures c.if-has.false _ c.least-hop.ensures _ _ c.put_record.ensures refl (omega arith)
