-- A path: the bits of an address from the first on, as many as the walk asks for.
use Rattle.std.specs.Prelude.{ℕ, ◌-◌, ◌/◌, ◌%◌, ◌^◌, Bool, cond, ◌==◌, nat_lt}
use Rattle.memory.specs.declared.Path.{Path}

-- a path has room for the longest address that is foreseen
abbrev pub path_bits : ℕ
path_bits = 128

-- the bit at a place, counted from the first: 64 of them in `high`, the next 64 in `low`
unfoldable pub path_bit : Path → ℕ → Bool
path_bit p i = cond (nat_lt i 64) (p.high / 2 ^ (63 - i)) (p.low / 2 ^ (127 - i)) % 2 == 1
