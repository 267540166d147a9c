-- What printing does to a lent output, and what setting a bit does to a path.
use Rattle.std.specs.Prelude.{◌≡◌, false, cond, ◌||◌, List, ◌++◌, ℕ, ◌+◌, ◌-◌, ◌*◌, ◌/◌, ◌%◌, ◌^◌, ◌≤◌, ◌<◌, length, take, drop, eqb, ltb}
use Rattle.rules.specs.Numbers.{width, record_bytes}
use Rattle.memory.specs.declared.Path.{Path}
use Rattle.memory.specs.Path.{path_bit, path_bits}

-- the list with these bytes put over its elements from a place on
unfoldable pub patch : ℕ → List ℕ → List ℕ → List ℕ
patch at bytes l = take at l ++ (bytes ++ drop (at + length bytes) l)

-- a path with one bit set, the rest as it was
pub record BitSet (path : Path) (place : ℕ) (r : Path) : Type 0 where
  pub bit_by_bit : (i : ℕ) → i < path_bits → path_bit r i ≡ (eqb i place || path_bit path i)

-- a path's bits from a place on up to the width are 0
abbrev pub ClearFrom : Path → ℕ → ℕ → Type 0
ClearFrom path size w = (i : ℕ) → size ≤ i → i < w → path_bit path i ≡ false

-- what printing asks: room, and a path that is a prefix of `size` bits of an address of k bytes
pub record CanPrint (output : List ℕ) (at k : ℕ) (path : Path) (size hop : ℕ) : Type 0 where
  pub room : at + record_bytes k ≤ length output
  pub fits : width k ≤ path_bits
  pub short : size ≤ width k
  pub clear : ClearFrom path size (width k)
  pub two_bytes : hop < 65536

-- a path's bytes, and the one at a place, counted from the first: 8 of them in `high`, the next 8 in `low`
abbrev pub path_bytes : ℕ
path_bytes = 16

unfoldable pub path_byte : Path → ℕ → ℕ
path_byte p i = cond (ltb i 8) (p.high / 2 ^ (56 - 8 * i)) (p.low / 2 ^ (120 - 8 * i)) % 256
