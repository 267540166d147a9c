-- The views that code reads memory through, and how it answers a slot that may be none.
use Rattle.std.specs.Prelude.{◌≡◌, ℕ, ◌<◌, Option, MatchOption}
use Rattle.memory.specs.declared.TreeView.{TreeView}
use Rattle.memory.specs.declared.MemoryView.{MemoryView}
use Rattle.memory.specs.Layout.{Tree, Memory, tree_of, slots}

-- what a view shows
abbrev pub tree_in : TreeView → Tree
tree_in v = tree_of v.lo.now v.hi.now v.up.now

abbrev pub memory_in : MemoryView → Memory
memory_in v = record { tree = tree_in v.tree; hop = v.hop.now }

-- Slot k of a tree, as code answers it: `None` where k is the number of slots, which is no slot.
abbrev pub SlotOrNone : Tree → ℕ → Option ℕ → Type 0
SlotOrNone t k answer = MatchOption answer (k ≡ slots t) (λ s. (s ≡ k) × (s < slots t))
