-- The words are stored one after the other, and the flag behind them.
use Prim.Native.Nat.{◌*◌}
use Rattle.rules.specs.Numbers.{set_words}
use Rattle.sets.proofs.Filling.{Filled}
use Rattle.sets.proofs.Members.{word_of}
use Rattle.sets.proofs.HopSet.keep.Given as goal

abbrev pub invariant-loop-k : goal.invariant-loop-k
invariant-loop-k l = Filled (word_of l.fn.self) (set_words * l.slot) l.initial.scratch l.k l.scratch
