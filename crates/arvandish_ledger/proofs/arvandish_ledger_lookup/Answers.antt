-- The call's own promise, and the struct that tells its answer.
use Rattle.arvandish_ledger.proofs.arvandish_ledger_lookup.Goals as goal

pub returns : goal.returns
returns c = record { answer = c.lookup.result; meets = c.lookup.ensures; told = c.from.ensures }
