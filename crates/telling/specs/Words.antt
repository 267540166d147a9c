-- Pseudo-random words.
use Rattle.std.specs.Prelude.{ℕ, zero, suc, ◌*◌, ◌/◌, ◌%◌, ◌^◌, bit_xor}

-- Marsaglia's xorshift of 32 bits: 13 to the left, 17 to the right and 5 to the left.
abbrev pub shifted_left : ℕ → ℕ → ℕ
shifted_left k x = bit_xor x (x * 2 ^ k % 2 ^ 32)

abbrev pub shifted_right : ℕ → ℕ → ℕ
shifted_right k x = bit_xor x (x / 2 ^ k)

abbrev pub xorshift : ℕ → ℕ
xorshift x = shifted_left 5 (shifted_right 17 (shifted_left 13 x))

-- The word that n draws leave.
abbrev pub drawn : ℕ → ℕ → ℕ
drawn zero x = x
drawn (suc n) x = xorshift (drawn n x)
