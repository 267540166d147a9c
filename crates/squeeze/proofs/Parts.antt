-- A part from the start has as many elements as it is said to have, where the list has so many.
use mathlib.Core.Path.{◌≡◌}
use mathlib.Core.List.{List}
use Prim.Native.Nat.{ℕ, ◌≤◌}
use native.Mathlib.Omega.{arith}
use lib.ListN.{length, take, length-take}

pub counts_part : (n : ℕ) (xs : List ℕ) → n ≤ length xs → n ≡ length (take n xs)
counts_part n xs few = omega (arith, few, length-take n xs)
