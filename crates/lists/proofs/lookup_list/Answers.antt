-- At each place the record there is a fault, the lookup's answer, or one route more (Scan).
use Rattle.std.proofs.Common.{refl, ap, arith}
use Rattle.std.proofs.lemmas.Result.{err_from_is_err_and}
use Rattle.records.specs.Promise.{InBounds}
use Rattle.records.proofs.Promise.{reads_as}
use Rattle.lists.specs.Best.{hop_by}
use Rattle.lists.proofs.Scan.{bad_length, at_first, faulty_here, withdrawal_here, announcement_here, at_last}
use Rattle.lists.proofs.lookup_list.Goals as goal

pub returns-in_err-records : goal.returns-in_err-records
returns-in_err-records c =
    let e = err_from_is_err_and c.from_residual.result c.from_residual.ensures.1 in
    rw (e.1, e.2) (bad_length _ _ _ c.in_err-records.ensures)

pub loop-place-init : goal.loop-place-init
loop-place-init c = at_first _ _ _ c.in_ok-records.ensures

pub better-best-requires : goal.better-best-requires
unfolding InBounds
better-best-requires c = record { proper = (reads_as c.in-Ok-Announces.field-0-is c.in-Ok-Announces.ensures).bounds.prefix }

pub returns-in-Ok-Withdraws : goal.returns-in-Ok-Withdraws
returns-in-Ok-Withdraws c =
    rw c.at.ensures (withdrawal_here c.loop-place.invariant c.loop-place-test.true refl (reads_as c.in-Ok-Withdraws.field-0-is c.in-Ok-Withdraws.ensures) (omega arith))

pub returns-in-Err : goal.returns-in-Err
returns-in-Err c = rw c.at-in-Err.ensures (faulty_here c.loop-place.invariant c.loop-place-test.true refl c.in-Err.ensures (omega arith))

pub loop-place-preserved : goal.loop-place-preserved
loop-place-preserved c =
    announcement_here c.loop-place.invariant c.loop-place-test.true refl (reads_as c.in-Ok-Announces.field-0-is c.in-Ok-Announces.ensures) c.better-best.ensures

pub returns-in-Some : goal.returns-in-Some
returns-in-Some c = rw (← ap hop_by c.in-Some.is) (at_last c.loop-place.invariant c.loop-place-test.false)

pub returns-in-None : goal.returns-in-None
returns-in-None c = rw (← ap hop_by c.in-None.is) (at_last c.loop-place.invariant c.loop-place-test.false)
