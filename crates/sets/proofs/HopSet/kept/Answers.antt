-- The words are read one after the other, and the flag behind them.
use borrow.Author.Rules.{rules}
use Rattle.sets.proofs.Members.{kept_is}
use Rattle.sets.proofs.HopSet.kept.Goals as goal

pub returns : goal.returns
returns c = kept_is _ _ c.requires c.from_fn.result (search rules) (λ i l. search rules)
