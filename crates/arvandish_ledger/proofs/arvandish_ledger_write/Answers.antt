-- The call's own promise, and the struct that tells its answer.
use Rattle.arvandish_ledger.proofs.arvandish_ledger_write.Goals as goal

pub returns : goal.returns
returns c = record { answer = c.write.result; meets = c.write.ensures; told = c.from.ensures }
