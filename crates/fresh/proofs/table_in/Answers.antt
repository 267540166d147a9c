-- The update is refused, and that is the answer; or it is complete, and the writing's answer is.
use Rattle.std.proofs.Common.{refl}
use Rattle.fresh.proofs.Tables.{stops, follows}
use Rattle.fresh.proofs.table_in.Goals as goal

pub returns-in-Err : goal.returns-in-Err
returns-in-Err c =
    stops _ _ _ _ _ c.requires _ c.in-Err.ensures _ refl

pub returns-in-Ok : goal.returns-in-Ok
returns-in-Ok c =
    follows _ _ _ _ _ c.requires _ c.in-Ok.ensures _ refl _ _ _ c.write.ensures
