-- Strings and numbers: a string of w bits is the number of its address, and the other way round.
use mathlib.Core.Path.{◌≡◌, refl, sym, ap, ap₂, ◌∙◌}
use mathlib.Core.Bool.{Bool, true, false, cond, not}
use mathlib.Core.List.{[], ◌∷◌}
use mathlib.Core.Logic.{inl, inr, ◌≢◌}
use Prim.Native.Nat.{ℕ, zero, suc, ◌+◌, ◌-◌, ◌*◌, ◌/◌, ◌%◌, ◌^◌, ◌≤◌, ◌<◌}
use native.Mathlib.Omega.{arith}
use native.Mathlib.Nat.{suc_inj, sub-zero, mod-one, mod-lt, zero-mod, zero-mul, pow-succ', zero-add, add_comm, one-mul, le_refl, add-mul-mod_self_right, suc-sub-suc, two-pow-succ, mul_assoc, mul_right_comm, pow-suc, add-mul-div_right, div-eq_of_lt, add-div_left}
use lib.ListN.{length, take, drop}
use lib.Pow.{pow_pos, pow-add}
use lib.Arith.{mod-mul}
use lib.Dec.{eqb}
use borrow.Author.Tests.{ne_eqb, eqb-true, eqb-false}
use Rattle.theory.specs.Bits.{Bits, bits_of, address_of, some_of}
use Rattle.theory.proofs.Hops.{by_test}

pub address_below : (w : ℕ) (s : Bits) → address_of w s < 2 ^ w
address_below zero s = omega arith
address_below (suc w) [] = pow_pos (suc w)
address_below (suc w) (true ∷ s) = let h = address_below w s in omega (arith, two-pow-succ w)
address_below (suc w) (false ∷ s) = let h = address_below w s in omega (arith, two-pow-succ w)

-- 2 ^ w is a multiple of 2 ^ v where v is at most w
pow_multiple : (w v : ℕ) → v ≤ w → 2 ^ w ≡ 2 ^ (w - v) * 2 ^ v
pow_multiple w v l = ap (λ k. 2 ^ k) (omega arith) ∙ pow-add 2 (w - v) v

-- the bits behind a prefix's length are zero in its address
pub address_tail : (w : ℕ) (s : Bits) → length s ≤ w → address_of w s % 2 ^ (w - length s) ≡ 0
address_tail zero [] l = refl
address_tail zero (b ∷ s) l = absurd (omega arith)
address_tail (suc w) [] l = zero-mod (2 ^ (suc w - 0))
address_tail (suc w) (false ∷ s) l = rw (suc-sub-suc w (length s), zero-add) (address_tail w s (omega arith))
address_tail (suc w) (true ∷ s) l =
    let m = pow_multiple w (w - length s) (omega arith) in
    rw (suc-sub-suc w (length s), add_comm (2 ^ w) (address_of w s))
    (ap (λ k. (address_of w s + k) % 2 ^ (w - length s)) m
    ∙ add-mul-mod_self_right (address_of w s) (2 ^ (w - (w - length s))) (2 ^ (w - length s))
    ∙ address_tail w s (omega arith))

pub bits_length : (w x : ℕ) → length (bits_of w x) ≡ w
bits_length zero x = refl
bits_length (suc w) x = ap suc (bits_length w x)

shuffle : (k p q : ℕ) {r : ℕ} → r ≡ q * 2 → k * (p * r) ≡ (k * p * 2) * q
shuffle k p q e = rw e (ap (λ m. k * m) (sym (mul_assoc p q 2)) ∙ ap (λ m. k * m) (mul_right_comm p q 2) ∙ sym (mul_assoc k (p * 2) q) ∙ ap (λ m. m * q) (sym (mul_assoc k p 2)))

-- the bit of weight 2 ^ w does not see what is added at 2 ^ v above it
bit_add : (w v k r : ℕ) → w < v → (r + k * 2 ^ v) / 2 ^ w % 2 ≡ r / 2 ^ w % 2
bit_add w v k r l =
    let j = v - suc w in
    let e : k * 2 ^ v ≡ (k * 2 ^ j * 2) * 2 ^ w =
    ap (λ i. k * 2 ^ i) (omega arith) ∙ ap (λ p. k * p) (pow-add 2 j (suc w)) ∙ shuffle k (2 ^ j) (2 ^ w) (pow-suc 2 w) in
    ap (λ p. (r + p) / 2 ^ w % 2) e
    ∙ ap (λ q. q % 2) (add-mul-div_right r (k * 2 ^ j * 2) (pow_pos w))
    ∙ add-mul-mod_self_right (r / 2 ^ w) (k * 2 ^ j) 2

-- so a number's w low bits do not see what is added at 2 ^ v, v at least w
pub bits_add : (w v k r : ℕ) → w ≤ v → bits_of w (r + k * 2 ^ v) ≡ bits_of w r
bits_add zero v k r l = refl
bits_add (suc w) v k r l = ap₂ (λ q t. eqb q 1 ∷ t) (bit_add w v k r l) (bits_add w v k r (omega arith))

-- the top bit of a number below 2 ^ suc w
top_bit : (w : ℕ) (b : Bool) (r : ℕ) → r < 2 ^ w → eqb ((cond b (2 ^ w) 0 + r) / 2 ^ w % 2) 1 ≡ b
top_bit w false r l = ap (λ q. eqb (q % 2) 1) (ap (λ k. k / 2 ^ w) (zero-add r) ∙ div-eq_of_lt l)
top_bit w true r l = ap (λ q. eqb (q % 2) 1) (add-div_left r (pow_pos w) ∙ ap (λ k. k + 1) (div-eq_of_lt l))

-- the bits of a prefix's address, one bit down
bits_down : (w : ℕ) (b : Bool) (s : Bits) → bits_of (suc w) (address_of (suc w) (b ∷ s)) ≡ b ∷ bits_of w (address_of w s)
bits_down w b s = ap₂ ◌∷◌ (top_bit w b (address_of w s) (address_below w s)) (low b)
  where
    low : (b : Bool) → bits_of w (cond b (2 ^ w) 0 + address_of w s) ≡ bits_of w (address_of w s)
    low false = rw zero-add
    low true = rw add_comm (rw (← one-mul (2 ^ w)) (bits_add w w 1 (address_of w s) (le_refl w)))

-- a prefix is the first bits of its address ..
pub prefix_of_address : (w : ℕ) (s : Bits) → length s ≤ w → take (length s) (bits_of w (address_of w s)) ≡ s
prefix_of_address zero [] l = refl
prefix_of_address zero (b ∷ s) l = absurd (omega arith)
prefix_of_address (suc w) [] l = refl
prefix_of_address (suc w) (b ∷ s) l = ap (take (suc (length s))) (bits_down w b s) ∙ ap (λ t. b ∷ t) (prefix_of_address w s (omega arith))

-- .. and a full string all of them
pub bits_address : (w : ℕ) (a : Bits) → length a ≡ w → bits_of w (address_of w a) ≡ a
bits_address zero [] e = refl
bits_address zero (b ∷ a) e = absurd (omega arith)
bits_address (suc w) [] e = absurd (omega arith)
bits_address (suc w) (b ∷ a) e = bits_down w b a ∙ ap (λ t. b ∷ t) (bits_address w a (suc_inj e))

-- Bits behind a length: none is set exactly when the number over 2 ^ (w - length) leaves nothing.
bits_drop : (w l x : ℕ) → l ≤ w → drop l (bits_of w x) ≡ bits_of (w - l) x
bits_drop w zero x h = ap (λ v. bits_of v x) (sym (sub-zero w))
bits_drop zero (suc l) x h = absurd (omega arith)
bits_drop (suc w) (suc l) x h = bits_drop w l x (omega arith) ∙ ap (λ v. bits_of v x) (sym (suc-sub-suc w l))

bits_set : (v x : ℕ) → some_of (λ b. b) (bits_of v x) ≡ not (eqb (x % 2 ^ v) 0)
bits_set zero x = ap (λ k. not (eqb k 0)) (sym (mod-one x))
bits_set (suc v) x =
    let q = x / 2 ^ v % 2 in
    let small = mod-lt (x / 2 ^ v) {m = 2} (omega arith) in
    let digits = ap (λ k. x % k) (pow-succ' 2 v) ∙ mod-mul x {m = 2} {c = 2 ^ v} (omega arith) (pow_pos v) in
    elim (by_test (eqb q 1)) [
      | inl e ↦
          let one = eqb-true q 1 e in
          let some : x % 2 ^ suc v ≢ 0 = λ z. omega (arith, digits, ap (λ k. k * 2 ^ v) one, pow_pos v) in
          ap (λ b. cond b true (some_of (λ b. b) (bits_of v x))) e ∙ sym (ap not (ne_eqb (x % 2 ^ suc v) 0 some))
      | inr e ↦
          let other = eqb-false q 1 e in
          let none : q ≡ 0 = omega arith in
          let rest : x % 2 ^ suc v ≡ x % 2 ^ v = digits ∙ ap (λ k. k * 2 ^ v + x % 2 ^ v) none ∙ rw (zero-mul (2 ^ v)) (zero-add (x % 2 ^ v)) in
          ap (λ b. cond b true (some_of (λ b. b) (bits_of v x))) e ∙ bits_set v x ∙ sym (ap (λ k. not (eqb k 0)) rest)
    ]

pub bits_behind : (w l x : ℕ) → l ≤ w → some_of (λ b. b) (drop l (bits_of w x)) ≡ not (eqb (x % 2 ^ (w - l)) 0)
bits_behind w l x h = ap (some_of (λ b. b)) (bits_drop w l x h) ∙ bits_set (w - l) x

-- so a prefix's address has none
pub address_clear : (w : ℕ) (s : Bits) → length s ≤ w → some_of (λ b. b) (drop (length s) (bits_of w (address_of w s))) ≡ false
address_clear w s l = bits_behind w (length s) (address_of w s) l ∙ ap (λ k. not (eqb k 0)) (address_tail w s l)
