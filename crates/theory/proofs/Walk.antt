-- A path's bits, walked from the first one: what its first d bits are, kept last bit first as a walk leaves them, and that
-- longest match is what the walk has in force at its end. It holds because one step puts one bit behind those before it.
use mathlib.Core.Path.{◌≡◌, refl, sym, ap, ap₂, ◌∙◌}
use mathlib.Core.Bool.{Bool, false}
use mathlib.Core.Logic.{inl, inr}
use mathlib.Core.List.{[], ◌∷◌, ◌++◌, reverse, reverse-cons, reverse-reverse}
use Prim.Native.Nat.{ℕ, zero, suc, ◌-◌, ◌/◌, ◌%◌, ◌^◌, ◌≤◌, ◌<◌}
use native.Mathlib.Omega.{arith}
use lib.ListN.{length, take, get_or, length-reverse}
use lib.Seq.{take_all, take-suc, take-append-le}
use lib.Dec.{eqb}
use borrow.Author.Tests.{eqb-true, eqb-false}
use Rattle.theory.specs.Bits.{Bits, same, bits_of, front, prefix_of}
use Rattle.theory.specs.Ledger.{Ledger, or_else, below, longest}
use Rattle.theory.proofs.Hops.{by_test, never}
use Rattle.theory.proofs.Strings.{same_self, same_true}
use Rattle.theory.proofs.Address.{bits_length}

-- what is in force after d bits: what is held there, or else what was in force one bit before
module _ {A : Type 0} where
  abbrev pub best : Ledger A → A → (ℕ → Bool) → ℕ → A
  best L d f zero = or_else (L []) d
  best L d f (suc k) = or_else (L (prefix_of f (suc k))) (best L d f k)

-- Reversing makes no strings equal.
pub same_reverse : (s t : Bits) → same (reverse s) (reverse t) ≡ same s t
same_reverse s t =
    elim (by_test (same s t)) [
      | inl e ↦ rw (e, same_true s t e) (same_self (reverse t))
      | inr e ↦
          elim (by_test (same (reverse s) (reverse t))) [
            | inl q ↦
                let equal = sym (reverse-reverse s) ∙ ap reverse (same_true (reverse s) (reverse t) q) ∙ reverse-reverse t in
                never (rw equal (same_self t)) e
            | inr q ↦ q ∙ sym e
          ]
    ]

-- The first d bits are d, and they are those of the path up to there.
pub front_length : (f : ℕ → Bool) (d : ℕ) → length (front f d) ≡ d
front_length f zero = refl
front_length f (suc d) = ap suc (front_length f d)

pub front_front : (f g : ℕ → Bool) (d : ℕ) → ((i : ℕ) → i < d → f i ≡ g i) → front f d ≡ front g d
front_front f g zero h = refl
front_front f g (suc d) h = ap₂ ◌∷◌ (h d (omega arith)) (front_front f g d (λ i l. h i (omega arith)))

pub prefix_length : (f : ℕ → Bool) (d : ℕ) → length (prefix_of f d) ≡ d
prefix_length f d = length-reverse (front f d) ∙ front_length f d

-- one step puts one bit behind
pub prefix_suc : (f : ℕ → Bool) (d : ℕ) → prefix_of f (suc d) ≡ prefix_of f d ++ (f d ∷ [])
prefix_suc f d = reverse-cons (f d) (front f d)

pub prefix_take : (f : ℕ → Bool) (k w : ℕ) → k ≤ w → take k (prefix_of f w) ≡ prefix_of f k
prefix_take f zero w l = refl
prefix_take f (suc k) zero l = absurd (omega arith)
prefix_take f (suc k) (suc w) l =
    elim (by_test (eqb k w)) [
      | inl e ↦ rw (eqb-true k w e) (take_all (suc w) (prefix_of f (suc w)) (omega (arith, prefix_length f (suc w))))
      | inr e ↦
          let other = eqb-false k w e in
          ap (take (suc k)) (prefix_suc f w)
          ∙ take-append-le (suc k) (prefix_of f w) (f w ∷ []) (omega (arith, prefix_length f w))
          ∙ prefix_take f (suc k) w (omega arith)
    ]

-- Where the path's bits are a number's, highest first, its first d bits are the number's.
bit_at : (w x d : ℕ) → d < w → get_or (bits_of w x) d false ≡ eqb (x / 2 ^ (w - 1 - d) % 2) 1
bit_at zero x d l = absurd (omega arith)
bit_at (suc w) x zero l = ap (λ k. eqb (x / 2 ^ k % 2) 1) (omega arith)
bit_at (suc w) x (suc d) l = bit_at w x d (omega arith) ∙ ap (λ k. eqb (x / 2 ^ k % 2) 1) (omega arith)

pub prefix_bits : (w x : ℕ) (f : ℕ → Bool) → ((i : ℕ) → i < w → f i ≡ eqb (x / 2 ^ (w - 1 - i) % 2) 1)
    → (d : ℕ) → d ≤ w → prefix_of f d ≡ take d (bits_of w x)
prefix_bits w x f h zero l = refl
prefix_bits w x f h (suc d) l =
    prefix_suc f d
    ∙ ap₂ (λ s b. s ++ (b ∷ [])) (prefix_bits w x f h d (omega arith)) (h d l ∙ sym (bit_at w x d l))
    ∙ sym (take-suc (bits_of w x) d false (omega (arith, bits_length w x)))

-- Longest match is what is in force at the end of the walk.
module _ {A : Type 0} where
  longest_behind : (L : Ledger A) (d : A) (s : Bits) (b : Bool) → longest L d (s ++ (b ∷ [])) ≡ or_else (L (s ++ (b ∷ []))) (longest L d s)
  longest_behind L d [] b = refl
  longest_behind L d (c ∷ s) b = longest_behind (below c L) (or_else (L []) d) s b

  pub longest_walk : (L : Ledger A) (d : A) (f : ℕ → Bool) (w : ℕ) → longest L d (prefix_of f w) ≡ best L d f w
  longest_walk L d f zero = refl
  longest_walk L d f (suc w) =
      ap (longest L d) (prefix_suc f w)
      ∙ longest_behind L d (prefix_of f w) (f w)
      ∙ ap₂ (λ s x. or_else (L s) x) (sym (prefix_suc f w)) (longest_walk L d f w)
