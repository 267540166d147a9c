-- Bits of numbers, by their weight: the same bits are the same number, and `|` has those of both its operands.
use mathlib.Core.Path.{◌≡◌, refl, sym, ap, ap₂, ◌∙◌}
use mathlib.Core.Bool.{Bool, ◌||◌}
use mathlib.Core.Logic.{inl, inr}
use Prim.Native.Nat.{ℕ, zero, suc, ◌+◌, ◌*◌, ◌/◌, ◌%◌, ◌^◌, ◌<◌}
use native.Mathlib.Omega.{arith}
use native.Mathlib.Nat.{le_refl, div-one, div-eq_of_lt, mod-one, mod-lt, mul-mod_left, mul-div-mul_right, pow-suc, pow-succ'}
use lib.Pow.{pow_pos, shr-shr}
use lib.Arith.{mod-mul}
use lib.Bits.{bit_or, or_shr, or_mod}
use lib.Dec.{eqb, eqb-zero-suc, eqb-suc-zero, eqb-suc-suc}
use borrow.Author.Tests.{eqb-true, eqb-false}
use Rattle.theory.proofs.Hops.{by_test}

-- the bit of weight 2 ^ e
abbrev pub bit : ℕ → ℕ → Bool
bit x e = eqb (x / 2 ^ e % 2) 1

-- a shift moves it
pub shift_bit : (x s e n : ℕ) → s + e ≡ n → bit (x / 2 ^ s) e ≡ bit x n
shift_bit x s e n moved = ap (λ y. eqb (y % 2) 1) (shr-shr x s e ∙ ap (λ k. x / 2 ^ k) moved)

digit_small : (x : ℕ) → x % 2 < 2
digit_small x = mod-lt x {m = 2} (omega arith)

-- the same bits are the same number, as far as these go
same_digit : (p q : ℕ) → p < 2 → q < 2 → eqb p 1 ≡ eqb q 1 → p ≡ q
same_digit p q hp hq e =
    elim (by_test (eqb p 1)) [
      | inl h ↦ eqb-true p 1 h ∙ sym (eqb-true q 1 (sym e ∙ h))
      | inr h ↦ let p-other = eqb-false p 1 h in let q-other = eqb-false q 1 (sym e ∙ h) in omega arith
    ]

top_digit : (w x : ℕ) → x % 2 ^ suc w ≡ x / 2 ^ w % 2 * 2 ^ w + x % 2 ^ w
top_digit w x = ap (λ k. x % k) (pow-succ' 2 w) ∙ mod-mul x {m = 2} {c = 2 ^ w} (omega arith) (pow_pos w)

pub same_bits : (w x y : ℕ) → ((e : ℕ) → e < w → bit x e ≡ bit y e) → x % 2 ^ w ≡ y % 2 ^ w
same_bits zero x y same = mod-one x ∙ sym (mod-one y)
same_bits (suc w) x y same =
    let top = same_digit (x / 2 ^ w % 2) (y / 2 ^ w % 2) (digit_small (x / 2 ^ w)) (digit_small (y / 2 ^ w)) (same w (le_refl (suc w))) in
    top_digit w x
    ∙ ap₂ (λ q r. q * 2 ^ w + r) top (same_bits w x y (λ e l. same e (omega arith)))
    ∙ sym (top_digit w y)

-- the bits of `|`
or_digits : (p q : ℕ) → p < 2 → q < 2 → eqb (bit_or p q) 1 ≡ (eqb p 1 || eqb q 1)
or_digits zero q hp hq = refl
or_digits (suc zero) zero hp hq = refl
or_digits (suc zero) (suc zero) hp hq = refl
or_digits (suc zero) (suc (suc q)) hp hq = absurd (omega arith)
or_digits (suc (suc p)) q hp hq = absurd (omega arith)

pub or_bit : (x y e : ℕ) → bit (bit_or x y) e ≡ (bit x e || bit y e)
or_bit x y e =
    ap (λ n. eqb (n % 2) 1) (or_shr x y e)
    ∙ ap (λ n. eqb n 1) (or_mod (x / 2 ^ e) (y / 2 ^ e) 1)
    ∙ or_digits (x / 2 ^ e % 2) (y / 2 ^ e % 2) (digit_small (x / 2 ^ e)) (digit_small (y / 2 ^ e))

-- a power of 2 has one
pub power_bit : (s e : ℕ) → bit (2 ^ s) e ≡ eqb e s
power_bit zero zero = refl
power_bit zero (suc e) =
    let small : 1 < 2 ^ suc e = omega (arith, pow-suc 2 e, pow_pos e) in
    ap (λ n. eqb (n % 2) 1) (div-eq_of_lt small) ∙ sym (eqb-suc-zero e)
power_bit (suc s) zero =
    ap (λ n. eqb (n % 2) 1) (div-one (2 ^ suc s) ∙ pow-suc 2 s) ∙ ap (λ n. eqb n 1) (mul-mod_left (2 ^ s) 2) ∙ sym (eqb-zero-suc s)
power_bit (suc s) (suc e) =
    ap₂ (λ p q. eqb (p / q % 2) 1) (pow-suc 2 s) (pow-suc 2 e)
    ∙ ap (λ n. eqb (n % 2) 1) (mul-div-mul_right (2 ^ s) (2 ^ e) (omega arith))
    ∙ power_bit s e
    ∙ sym (eqb-suc-suc e s)
