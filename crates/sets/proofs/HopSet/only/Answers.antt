-- Discard is the flag alone; of another hop one word is a power of two, and nothing of it is shifted out.
use borrow.Author.Rules.{rules}
use Rattle.sets.proofs.Members.{only_discard, only_is}
use Rattle.sets.proofs.HopSet.only.Goals as goal

pub returns-then-hop-eq-DISCARD : goal.returns-then-hop-eq-DISCARD
returns-then-hop-eq-DISCARD c = only_discard _ c.if-hop-eq-DISCARD.true

pub returns : goal.returns
returns c = only_is _ c.if-hop-eq-DISCARD.false c.requires c.from_fn.result (search rules) (λ k l. search rules)
