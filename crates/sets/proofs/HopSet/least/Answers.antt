-- Discard is the least hop there is; otherwise the words are looked at in turn, and all before the one that has a digit are 0.
use Rattle.sets.proofs.Digits.{in_word}
use Rattle.sets.proofs.Members.{least_discard, least_is, least_empty}
use borrow.Author.Rules.{rules}
use Rattle.sets.proofs.HopSet.least.Goals as goal

pub returns-then-self : goal.returns-then-self
returns-then-self c = least_discard _ c.if-self.true

pub returns-then-word-ne0 : goal.returns-then-word-ne0
returns-then-word-ne0 c =
    let turn = c.loop-word in
    least_is c.args.self turn.below turn.word-index turn.invariant c.if-self.false (search rules) c.if-word-ne0.true (in_word (search rules))

pub returns : goal.returns
returns c =
    let turn = c.loop-word in
    least_empty c.args.self turn.below turn.word-index turn.invariant c.if-self.false (search rules)
