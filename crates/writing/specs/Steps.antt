-- The contract of the step inside.
use Rattle.std.specs.Prelude.{◌≡◌, List, ℕ, length}
use Rattle.std.proofs.Math.Option.{none}
use Rattle.rules.specs.Numbers.{scratch_words}
use Rattle.memory.specs.Layout.{Memory, slots, Whole}
use Rattle.lent.specs.Lent.{lent_fault}

-- what the checks have found once writing begins: nothing is refused by 1 or 2
pub record Begun (m : Memory) (scratch : List ℕ) : Type 0 where
  pub sized : length scratch ≡ scratch_words (slots m.tree)
  pub fine : lent_fault m ≡ none
  pub whole : Whole m
