-- Lent memory that may be changed, as contracts see it.
use Rattle.std.specs.Prelude.{◌≡◌}
use Rattle.memory.specs.Layout.{Memory, memory_of}
use Rattle.editing.specs.declared.MemoryMut.{MemoryMut}

-- what it holds
abbrev pub memory_held : MemoryMut → Memory
memory_held m = memory_of m.lo.now m.hi.now m.up.now m.hop.now

-- the slices are still those that the caller lent, so that what is written is written there
pub record SameLoans (a b : MemoryMut) : Type 0 where
  pub lo : b.lo.ghost_name ≡ a.lo.ghost_name
  pub hi : b.hi.ghost_name ≡ a.hi.ghost_name
  pub up : b.up.ghost_name ≡ a.up.ghost_name
  pub hop : b.hop.ghost_name ≡ a.hop.ghost_name
