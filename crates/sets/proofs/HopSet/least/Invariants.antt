-- Discard is the least hop there is; otherwise the words are looked at in turn, and all before the one that has a digit are 0.
use Rattle.sets.proofs.Members.{Looked}
use Rattle.sets.proofs.HopSet.least.Given as goal

abbrev pub invariant-loop-word : goal.invariant-loop-word
invariant-loop-word l = Looked l.fn.self l.below l.word-index
