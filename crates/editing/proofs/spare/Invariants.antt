-- The chain's first slot has no mark; else every slot before the present one is in use.
use Rattle.std.proofs.Common.{◌≡◌, ℕ, ◌<◌, false}
use Rattle.memory.specs.Views.{memory_in}
use Rattle.editing.specs.Spare.{idle}
use Rattle.editing.proofs.spare.Given as goal

abbrev pub invariant-loop-slot : goal.invariant-loop-slot
invariant-loop-slot l = (j : ℕ) → 0 < j → j < l.slot → (j ≡ l.tip → ⊥) → idle l.width (memory_in l.memory) j ≡ false
