-- The invariant: so many records are applied, and applying the rest to what is held now gives the whole answer (Ahead of Batch).
use Rattle.std.proofs.Common.{◌≡◌, refl, subst, arith, Ok, Err}
use Rattle.std.proofs.Math.Option.{none}
use Rattle.std.proofs.lemmas.Result.{err_from_is_err_and}
use Rattle.memory.specs.Layout.{Whole}
use Rattle.editing.specs.Held.{memory_held}
use Rattle.editing.proofs.Walking.{loans_then}
use Rattle.lent.specs.Lent.{lent_fault, Checked}
use Rattle.ledger.proofs.Batch.{refused_whole, refused_list, begin, go_on, stopped, finished}
use Rattle.ledger.proofs.apply_list.Goals as goal
use Rattle.ledger.proofs.apply_list.Goals.{In_ok-check}

pub returns-in_err-check-clause-updated : goal.returns-in_err-check-clause-updated
returns-in_err-check-clause-updated c =
    let e = err_from_is_err_and c.from_residual.result c.from_residual.ensures.1 in
    rw (e.1, e.2) (refused_whole _ _ _ (subst (λ m. Checked m (Err c.in_err-check.field-0.0)) c.view.ensures c.in_err-check.ensures))

-- what the check has found of the memory
checked : (c : In_ok-check) → (lent_fault (memory_held c.args.memory.now) ≡ none) × Whole (memory_held c.args.memory.now)
checked c = subst (λ m. Checked m (Ok c.in_ok-check.field-0)) c.view.ensures c.in_ok-check.ensures

pub returns-in_err-records-clause-updated : goal.returns-in_err-records-clause-updated
returns-in_err-records-clause-updated c =
    let e = err_from_is_err_and c.from_residual-in_err-records.result c.from_residual-in_err-records.ensures.1 in
    rw (e.1, e.2) (refused_list _ _ (checked (goal.at.returns-in_err-records-clause-updated c).In_ok-check) _ c.in_err-records.ensures)

pub loop-count-init : goal.loop-count-init
loop-count-init c = record {
  same_loans = record { lo = refl; hi = refl; up = refl; hop = refl };
  ahead = begin _ _ (checked (goal.at.loop-count-init c).In_ok-check) _ c.in_ok-records.ensures;
}

pub apply_record-requires : goal.apply_record-requires
apply_record-requires c = c.loop-count.invariant.ahead.kept.whole

pub returns-in-Err-clause-same_loans : goal.returns-in-Err-clause-same_loans
returns-in-Err-clause-same_loans c = loans_then _ _ _ c.loop-count.invariant.same_loans c.in-Err.ensures.same_loans

pub returns-in-Err-clause-updated : goal.returns-in-Err-clause-updated
returns-in-Err-clause-updated c =
    stopped _ _ (checked (goal.at.returns-in-Err-clause-updated c).In_ok-check) c.loop-count.invariant.ahead c.loop-count-test.true refl _ c.in-Err.ensures.applied

pub loop-count-preserved : goal.loop-count-preserved
loop-count-preserved c = record {
  same_loans = loans_then _ _ _ c.loop-count.invariant.same_loans c.in_default.ensures.same_loans;
  ahead = go_on _ _ (checked (goal.at.loop-count-preserved c).In_ok-check) c.loop-count.invariant.ahead c.loop-count-test.true refl _ c.in_default.ensures.applied;
}

pub returns-clause-same_loans : goal.returns-clause-same_loans
returns-clause-same_loans c = c.loop-count.invariant.same_loans

pub returns-clause-updated : goal.returns-clause-updated
returns-clause-updated c =
    finished _ _ (checked (goal.at.returns-clause-updated c).In_ok-check) c.loop-count.invariant.ahead (omega (arith, c.loop-count-test.false))
