-- A WALK down a path, from slot 0 as far as there are slots.
use Rattle.std.specs.Prelude.{◌≡◌, ℕ, ◌<◌, ◌≤◌, Bool}
use Rattle.theory.specs.Bits.{front}
use Rattle.memory.specs.Layout.{Tree, slots, child, find}

-- How far a path of so many bits has slots: its first d bits have one, and where that is not all of them, one bit more has none.
pub record Reaches (t : Tree) (f : ℕ → Bool) (size d slot : ℕ) : Type 0 where
  pub short : d ≤ size
  pub there : slot ≡ find t (front f d)
  pub below : slot < slots t
  pub ends : d < size → child t (f d) slot ≡ slots t
