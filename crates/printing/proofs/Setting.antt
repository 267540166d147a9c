-- A path's bit set by `|`: the half where it stands has that bit more, the other half stays.
use mathlib.Core.Path.{◌≡◌, sym, ap, ◌∙◌}
use mathlib.Core.Bool.{◌||◌, or_comm}
use mathlib.Core.Logic.{inl, inr}
use Prim.Native.Nat.{ℕ, ◌-◌, ◌*◌, ◌%◌, ◌^◌, ◌≤◌, ◌<◌}
use native.Mathlib.Omega.{arith}
use native.Mathlib.Nat.{one-mul}
use lib.Pow.{shl_exact}
use lib.Bits.{bit_or}
use lib.Dec.{eqb, ltb}
use borrow.Author.Tests.{ltb-true, ltb-false, eqb-true, eqb-false, eq-eqb, ne_eqb}
use Rattle.theory.proofs.Hops.{by_test}
use Rattle.memory.specs.declared.Path.{Path}
use Rattle.memory.specs.Path.{path_bit, path_bits}
use Rattle.printing.specs.Printing.{BitSet}
use Rattle.printing.proofs.Digits.{bit, or_bit, power_bit}

-- a 1, shifted within a word of 64 bits
abbrev shifted : ℕ → ℕ
shifted s = 1 * 2 ^ s % 2 ^ 64

-- the word x, whose last bit is the path's bit `last`
module _ (x last place i : ℕ) (IsPlace-in : place ≤ last) (i-in : i ≤ last) where
  -- places are counted from the first bit, weights from the last
  mirrored : eqb (last - i) (last - place) ≡ eqb i place
  mirrored =
      elim (by_test (eqb i place)) [
        | inl e ↦ eq-eqb (last - i) (last - place) (ap (λ n. last - n) (eqb-true i place e)) ∙ sym e
        | inr e ↦ ne_eqb (last - i) (last - place) (λ q. eqb-false i place e (omega arith)) ∙ sym e
      ]

  word_set : last - place < 64 → bit (bit_or x (shifted (last - place))) (last - i) ≡ (eqb i place || bit x (last - i))
  word_set fits =
      ap (λ y. bit (bit_or x y) (last - i)) (shl_exact {a = 1} 1 (last - place) 64 (omega arith) (omega arith) ∙ one-mul (2 ^ (last - place)))
      ∙ or_bit x (2 ^ (last - place)) (last - i)
      ∙ or_comm (bit x (last - i)) (bit (2 ^ (last - place)) (last - i))
      ∙ ap (λ b. b || bit x (last - i)) (power_bit (last - place) (last - i) ∙ mirrored)

module _ (path : Path) (place : ℕ) where
  pub set_high : place < 64 → BitSet path place (record { high = bit_or path.high (shifted (63 - place)); low = path.low })
  unfolding path_bit
  set_high near = record {
    bit_by_bit = λ i l.
        elim (by_test (ltb i 64)) [
          | inl q ↦ let here = ltb-true i 64 q in rw q (word_set path.high 63 place i (omega arith) (omega arith) (omega arith))
          | inr q ↦ let there = ltb-false i 64 q in rw (q, ne_eqb i place (λ e. omega arith))
        ];
  }

  pub set_low : 64 ≤ place → place < path_bits → BitSet path place (record { high = path.high; low = bit_or path.low (shifted (127 - place)) })
  unfolding path_bit
  set_low far fits = record {
    bit_by_bit = λ i l.
        elim (by_test (ltb i 64)) [
          | inl q ↦ let there = ltb-true i 64 q in rw (q, ne_eqb i place (λ e. omega arith))
          | inr q ↦ rw q (word_set path.low 127 place i (omega arith) (omega arith) (omega arith))
        ];
  }
