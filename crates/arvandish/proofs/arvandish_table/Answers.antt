-- The call inside fixes answer and output; the struct is the one for the answer.
use Rattle.arvandish.proofs.Tables.{told_table}
use Rattle.arvandish.proofs.arvandish_table.Goals as goal

pub returns : goal.returns
returns c = told_table _ _ _ _ _ c.table.ensures c.from.ensures
