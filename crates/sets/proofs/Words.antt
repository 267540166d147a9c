-- How a word's digits are a set: each operation on words is one on the sets of their digits. Said over the number of digits; proofs/Digits
-- has the same over the number of words.
use mathlib.Core.Path.{◌≡◌, refl, sym, ap, ap₂, fun_ext, ◌∙◌}
use mathlib.Core.Logic.{inl, inr}
use mathlib.Core.Bool.{Bool, true, false, not, cond, ◌&&◌, ◌||◌}
use Prim.Native.Nat.{ℕ, zero, suc, ◌*◌, ◌/◌, ◌%◌, ◌^◌, ◌<◌}
use native.Mathlib.Omega.{arith}
use native.Mathlib.Nat.{div-one, zero-div}
use native.Mathlib.Numerals.{add-one, one-add}
use lib.Dec.{eqb, eqb-zero-suc, eqb-suc-zero, eqb-suc-suc}
use lib.Bits.{bit_and, bit_or, and_shr, or_shr, and_mod, or_mod, shifted_half, shifted_even}
use lib.Count.{under, count_trailing_zeros}
use lib.Pow.{shr-shr, shr_lt, shl_exact}
use borrow.Author.Tests.{eqb-true, eqb-false, ne_eqb}
use Rattle.theory.specs.Hops.{only, some_below, least, common, union}
use Rattle.theory.proofs.Hops.{by_test}
use Rattle.sets.specs.Sets.{digits}

-- the lowest digit, those above it, and back as a number
lowest_digit : (x : ℕ) → digits x 0 ≡ eqb (x % 2) 1
lowest_digit x = ap (λ q. eqb (q % 2) 1) (div-one x)

higher_digit : (x k : ℕ) → digits x (suc k) ≡ digits (x / 2) k
higher_digit x k = ap (λ q. eqb (q % 2) 1) (ap (λ j. x / 2 ^ j) (sym (one-add k)) ∙ sym (shr-shr x 1 k))

as_digit : (x : ℕ) → x % 2 ≡ cond (eqb (x % 2) 1) 1 0
as_digit x =
    elim (by_test (eqb (x % 2) 1)) [
      | inl e ↦ rw e (eqb-true (x % 2) 1 e)
      | inr e ↦ let other = eqb-false (x % 2) 1 e in rw e (omega arith)
    ]

-- AN OPERATION THAT WORKS ON EACH DIGIT APART
module _ (op : ℕ → ℕ → ℕ) (test : Bool → Bool → Bool)
    (shifted : (a b k : ℕ) → op a b / 2 ^ k ≡ op (a / 2 ^ k) (b / 2 ^ k))
    (cut : (a b k : ℕ) → op a b % 2 ^ k ≡ op (a % 2 ^ k) (b % 2 ^ k))
    (on-digits : (p q : Bool) → eqb (op (cond p 1 0) (cond q 1 0)) 1 ≡ test p q) where
  digit_of : (a b k : ℕ) → digits (op a b) k ≡ test (digits a k) (digits b k)
  digit_of a b k =
      let x = a / 2 ^ k in
      let y = b / 2 ^ k in
      ap (λ q. eqb q 1) (ap (λ q. q % 2) (shifted a b k) ∙ cut x y 1 ∙ ap₂ op (as_digit x) (as_digit y)) ∙ on-digits (digits a k) (digits b k)

both_set : (p q : Bool) → eqb (bit_and (cond p 1 0) (cond q 1 0)) 1 ≡ (p && q)
both_set false false = refl
both_set false true = refl
both_set true false = refl
both_set true true = refl

either_set : (p q : Bool) → eqb (bit_or (cond p 1 0) (cond q 1 0)) 1 ≡ (p || q)
either_set false false = refl
either_set false true = refl
either_set true false = refl
either_set true true = refl

pub digits_and : (a b : ℕ) → digits (bit_and a b) ≡ common (digits a) (digits b)
digits_and a b = fun_ext (digit_of bit_and (λ p q. p && q) and_shr and_mod both_set a b)

pub digits_or : (a b : ℕ) → digits (bit_or a b) ≡ union (digits a) (digits b)
digits_or a b = fun_ext (digit_of bit_or (λ p q. p || q) or_shr or_mod either_set a b)

-- ZERO has no digit, and A POWER OF TWO has one.
pub digits_zero : digits 0 ≡ (λ k. false)
digits_zero = fun_ext (λ k. ap (λ q. eqb (q % 2) 1) (zero-div (2 ^ k)))

digit_of_power : (j k : ℕ) → digits (1 * 2 ^ j) k ≡ eqb k j
digit_of_power zero zero = refl
digit_of_power zero (suc k) = higher_digit 1 k ∙ ap (λ q. eqb (q % 2) 1) (zero-div (2 ^ k)) ∙ sym (eqb-suc-zero k)
digit_of_power (suc j) zero = lowest_digit (1 * 2 ^ suc j) ∙ ap (λ q. eqb q 1) (shifted_even 1 j) ∙ sym (eqb-zero-suc j)
digit_of_power (suc j) (suc k) =
    higher_digit (1 * 2 ^ suc j) k ∙ ap (λ x. digits x k) (shifted_half 1 j) ∙ digit_of_power j k ∙ sym (eqb-suc-suc k j)

pub digits_power : (n j : ℕ) → j < n → digits (1 * 2 ^ j % 2 ^ n) ≡ only j
digits_power n j l = ap digits (shl_exact 1 j n (omega arith) (omega arith)) ∙ fun_ext (digit_of_power j)

-- A WORD IS 0 exactly where it has no digit.
not_zero : (x : ℕ) → (eqb (x % 2) 1 || not (eqb (x / 2) 0)) ≡ not (eqb x 0)
not_zero x =
    elim (by_test (eqb x 0)) [
      | inl e ↦ rw (eqb-true x 0 e)
      | inr e ↦
          elim (by_test (eqb (x % 2) 1)) [
            | inl odd ↦ rw (odd, e)
            | inr even ↦
                let some = eqb-false x 0 e in
                let none = eqb-false (x % 2) 1 even in
                rw (even, e, ne_eqb (x / 2) 0 (λ z. some (omega arith)))
          ]
    ]

pub some_digit : (n x : ℕ) → x < 2 ^ n → some_below n (digits x) ≡ not (eqb x 0)
some_digit zero x l = let none : x ≡ 0 = omega arith in rw none
some_digit (suc n) x l =
    let rest : some_below n (λ k. digits x (suc k)) ≡ not (eqb (x / 2) 0) =
    ap (some_below n) (fun_ext (higher_digit x)) ∙ some_digit n (x / 2) (shr_lt n 1 (rw add-one l)) in
    rw (lowest_digit x, rest) (not_zero x)

-- THE LEAST DIGIT: below it there are only zeros, and in a word without a digit all are zeros.
zeros_under : (p : Bool) (t : ℕ) → under (cond p 1 0) t ≡ cond p zero (suc t)
zeros_under false t = refl
zeros_under true t = refl

pub least_digit : (n x : ℕ) → count_trailing_zeros n x ≡ least n (digits x)
unfolding count_trailing_zeros
least_digit zero x = refl
least_digit (suc n) x =
    let above = count_trailing_zeros n (x / 2) in
    let rest : least n (λ k. digits x (suc k)) ≡ above = ap (least n) (fun_ext (higher_digit x)) ∙ sym (least_digit n (x / 2)) in
    rw (lowest_digit x, rest) (ap (λ d. under d above) (as_digit x) ∙ zeros_under (eqb (x % 2) 1) above)
