-- Lent memory: how many elements each of its four slices has.
use Rattle.std.specs.Prelude.{ℕ, ◌-◌, List, [], ◌∷◌}
use Rattle.telling.specs.declared.slots.Lengths.{Lengths}

abbrev pub lengths_of : ℕ → ℕ → ℕ → ℕ → Lengths
lengths_of lo hi up hop = record { lo = lo; hi = hi; up = up; hop = hop }

-- Each of the four has n, but that one has one less: each of them in turn.
abbrev pub one_less : ℕ → List Lengths
one_less n = lengths_of (n - 1) n n n ∷ lengths_of n (n - 1) n n ∷ lengths_of n n (n - 1) n ∷ lengths_of n n n (n - 1) ∷ []
