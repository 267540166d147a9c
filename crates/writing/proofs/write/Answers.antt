-- The checks in order, each refusal one law of proofs/Steps; the rest is squeeze's.
use Rattle.std.proofs.Common.{refl, arith}
use Rattle.std.proofs.lemmas.Result.{err_from_is_err_and}
use Rattle.writing.proofs.Steps.{refuse_scratch, refuse_lent, begun}
use Rattle.writing.proofs.write.Goals as goal

pub returns-then-scratch-up : goal.returns-then-scratch-up
returns-then-scratch-up c =
    rw c.at.ensures (refuse_scratch _ _ _ _ _ (λ e. absurd (omega (arith, e, c.if-scratch-up.true))) refl refl)

pub returns-in_err-check : goal.returns-in_err-check
returns-in_err-check c =
    let e = err_from_is_err_and c.from_residual.result c.from_residual.ensures.1 in
    rw (e.1, e.2) (refuse_lent _ _ (omega (arith, c.if-scratch-up.false)) _ _ c.in_err-check.ensures)

pub squeeze-requires : goal.squeeze-requires
squeeze-requires c =
    begun _ _ (omega (arith, c.if-scratch-up.false)) c.in_ok-check.ensures
