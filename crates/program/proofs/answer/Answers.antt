-- What the table call answers is told, each answer by its law.
use Rattle.std.proofs.Common.{arith}
use Rattle.program.proofs.Telling.{answers_short, answers_long, answers_table, room_to_tell, place_fits, answers_refusal}
use Rattle.program.proofs.answer.Goals as goal

pub returns-then-output-lt-MOST_INPUT : goal.returns-then-output-lt-MOST_INPUT
returns-then-output-lt-MOST_INPUT c = answers_short _ _ c.if-output-lt-MOST_INPUT.true

pub refuse-requires-clause-place : goal.refuse-requires-clause-place
refuse-requires-clause-place c = rw c.at.ensures (omega arith)

pub returns-then-input-gt-MOST_INPUT : goal.returns-then-input-gt-MOST_INPUT
returns-then-input-gt-MOST_INPUT c =
    answers_long _ _ _ _ c.if-output-lt-MOST_INPUT.false (omega (arith, c.if-input-gt-MOST_INPUT.true)) _ c.at.ensures c.refuse.ensures

pub overflow_mul-result : goal.overflow_mul-result
overflow_mul-result c =
    omega (arith, (answers_table _ _ c.if-output-lt-MOST_INPUT.false (omega (arith, c.if-input-gt-MOST_INPUT.false)) _ _ c.in-Ok.ensures).0)

pub refuse-requires-in-Err-clause-room : goal.refuse-requires-in-Err-clause-room
refuse-requires-in-Err-clause-room c =
    room_to_tell _ _ c.if-output-lt-MOST_INPUT.false (omega (arith, c.if-input-gt-MOST_INPUT.false)) _ _ c.in-Err.ensures

pub refuse-requires-in-Err-clause-place : goal.refuse-requires-in-Err-clause-place
refuse-requires-in-Err-clause-place c =
    place_fits _ _ c.if-output-lt-MOST_INPUT.false (omega (arith, c.if-input-gt-MOST_INPUT.false)) _ _ c.in-Err.ensures

pub returns-in-Ok : goal.returns-in-Ok
returns-in-Ok c =
    (answers_table _ _ c.if-output-lt-MOST_INPUT.false (omega (arith, c.if-input-gt-MOST_INPUT.false)) _ _ c.in-Ok.ensures).1

pub returns-in-Err : goal.returns-in-Err
returns-in-Err c =
    answers_refusal _ _ c.if-output-lt-MOST_INPUT.false (omega (arith, c.if-input-gt-MOST_INPUT.false)) _ _ c.in-Err.ensures _ _ c.refuse-in-Err.ensures
