-- How many of a list's first bytes are taken.
use Rattle.std.specs.Prelude.{◌≡◌, ℕ, ◌≤◌, min, List, length, take, ℤ, pos, negsuc}

-- The first n bytes are there. The second part follows from the first.
abbrev pub IsPrefixLen : ℕ → List ℕ → Type 0
IsPrefixLen n xs = (n ≤ length xs) × (n ≡ length (take n xs))

-- As many as are asked for and are there, and none where a number below 0 is asked for.
abbrev pub clamp_len : ℤ → ℕ → ℕ
clamp_len (pos k) most = min k most
clamp_len (negsuc k) most = 0
