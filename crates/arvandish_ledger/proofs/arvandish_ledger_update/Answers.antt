-- The call's own promise, and the struct that tells its answer.
use Rattle.arvandish_ledger.proofs.arvandish_ledger_update.Goals as goal

pub returns : goal.returns
returns c = record { answer = c.update.result; meets = c.update.ensures; told = c.from.ensures }
