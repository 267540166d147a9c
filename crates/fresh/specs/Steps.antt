-- The contract of the step inside.
use Rattle.std.specs.Prelude.{◌≡◌, List, ℕ, ◌≤◌, ◌<◌, length}
use Rattle.rules.specs.Numbers.{most_slots, scratch_words}
use Rattle.memory.specs.Layout.{Memory, slots, zeroed}

-- what the step is lent: zeroed slices that refusal 1 lets through, and scratch of the asked length
pub record Fresh (m : Memory) (scratch : List ℕ) : Type 0 where
  pub zeros : m ≡ zeroed (slots m.tree)
  pub some_slot : 0 < slots m.tree
  pub few : slots m.tree ≤ most_slots
  pub sized : length scratch ≡ scratch_words (slots m.tree)
