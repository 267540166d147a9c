-- AN OPERATION ON EACH WORD of two sets, over how many words there are: behind the last there are zeros, and the operation makes zero of them.
use mathlib.Core.Path.{◌≡◌, refl, sym, ap, ap₂, ◌∙◌}
use mathlib.Core.Logic.{inl, inr}
use mathlib.Core.Bool.{◌&&◌, ◌||◌}
use mathlib.Core.List.{List}
use Prim.Native.Nat.{ℕ, ◌<◌}
use native.Mathlib.Omega.{arith}
use lib.Bits.{bit_and, bit_or}
use lib.Dec.{ltb}
use lib.ListN.{length, get_or, get_or-eq_default}
use borrow.Author.Tests.{ltb-true, ltb-false}
use Rattle.theory.specs.Hops.{common, union}
use Rattle.theory.proofs.Hops.{by_test}
use Rattle.sets.specs.Sets.{digits_of}
use Rattle.sets.proofs.Words.{digits_and, digits_or}
use Rattle.sets.proofs.Digits.{digits_each}

abbrev pub Each : (ℕ → ℕ → ℕ) → ℕ → List ℕ → List ℕ → List ℕ → Type 0
Each op n a b words = (k : ℕ) → k < n → get_or words k 0 ≡ op (get_or a k 0) (get_or b k 0)

module _ (n : ℕ) (a b words : List ℕ) (long : length a ≡ n) (long' : length b ≡ n) (long'' : length words ≡ n) where
  everywhere : (op : ℕ → ℕ → ℕ) → op 0 0 ≡ 0 → Each op n a b words → (k : ℕ) → get_or words k 0 ≡ op (get_or a k 0) (get_or b k 0)
  everywhere op nothing each k =
      elim (by_test (ltb k n)) [
        | inl e ↦ each k (ltb-true k n e)
        | inr e ↦
            let behind = ltb-false k n e in
            get_or-eq_default words 0 (omega arith)
            ∙ sym (ap₂ op (get_or-eq_default a 0 (omega arith)) (get_or-eq_default b 0 (omega arith)) ∙ nothing)
      ]

  pub each_common : Each bit_and n a b words → digits_of words ≡ common (digits_of a) (digits_of b)
  each_common each = digits_each bit_and (λ p q. p && q) (λ x y j. ap (λ d. d j) (digits_and x y)) a b words (everywhere bit_and refl each)

  pub each_union : Each bit_or n a b words → digits_of words ≡ union (digits_of a) (digits_of b)
  each_union each = digits_each bit_or (λ p q. p || q) (λ x y j. ap (λ d. d j) (digits_or x y)) a b words (everywhere bit_or refl each)
