-- WORDS WRITTEN ONE AFTER THE OTHER, from a place on: the first k of them are there, and every other word is as it was.
use mathlib.Core.Path.{◌≡◌, refl, sym, ap, ◌∙◌}
use mathlib.Core.Logic.{inl, inr}
use mathlib.Core.List.{List}
use Prim.Native.Nat.{ℕ, ◌+◌, ◌-◌, ◌<◌, ◌≤◌, min}
use native.Mathlib.Omega.{arith}
use lib.Dec.{eqb}
use lib.ListN.{length, get_or, set, take, drop, length-take, length-drop, length-set}
use lib.Seq.{get_or-set_same, get_or-set_other, get_or-take, get_or-drop, ext_get_or}
use borrow.Author.Tests.{eqb-true, eqb-false}
use Rattle.theory.proofs.Hops.{by_test}

pub record Filled (word : ℕ → ℕ) (at : ℕ) (before : List ℕ) (k : ℕ) (after : List ℕ) : Type 0 where
  pub written : (i : ℕ) → i < k → get_or after (at + i) 0 ≡ word i
  pub others : (i : ℕ) → (at ≤ i → i < at + k → ⊥) → get_or after i 0 ≡ get_or before i 0
  pub same_length : length after ≡ length before

module _ (word : ℕ → ℕ) (at : ℕ) (before : List ℕ) where
  pub filled_none : Filled word at before 0 before
  filled_none = record { written = λ i l. absurd (omega arith); others = λ i outside. refl; same_length = refl }

  module _ (k : ℕ) {after : List ℕ} (so_far : Filled word at before k after) (room : at + k < length before) where
    pub filled_more : (place v : ℕ) → place ≡ at + k → v ≡ word k → Filled word at before (k + 1) (set after place v)
    filled_more place v there is = record {
      written = λ i l.
          elim (by_test (eqb i k)) [
            | inl e ↦
                let last = eqb-true i k e in
                ap (λ j. get_or (set after place v) j 0) (omega arith) ∙ get_or-set_same after place v 0 (omega (arith, so_far.same_length)) ∙ is ∙ ap word (sym last)
            | inr e ↦
                let earlier = eqb-false i k e in
                get_or-set_other after place (at + i) v 0 (λ q. earlier (omega arith)) ∙ so_far.written i (omega arith)
          ];
      others = λ i outside. get_or-set_other after place i v 0 (λ e. outside (omega arith) (omega arith)) ∙ so_far.others i (λ low high. outside low (omega arith));
      same_length = length-set after place v ∙ so_far.same_length;
    }

-- A PART of a list, n words from a place on, is known by those words.
pub part_is : (n at : ℕ) (l words : List ℕ) → length (take n (drop at l)) ≡ length words
    → ((i : ℕ) → i < n → get_or l (at + i) 0 ≡ get_or words i 0) → take n (drop at l) ≡ words
part_is n at l words long each =
    ext_get_or 0 (take n (drop at l)) words long (λ i within.
    let below : i < n = omega (arith, within, length-take n (drop at l)) in
    get_or-take n (drop at l) i 0 below ∙ get_or-drop at l i 0 ∙ each i below)

pub same_part : (n at : ℕ) (l l' : List ℕ) → length l' ≡ length l → ((i : ℕ) → i < n → get_or l' (at + i) 0 ≡ get_or l (at + i) 0)
    → take n (drop at l') ≡ take n (drop at l)
same_part n at l l' same each =
    part_is n at l' (take n (drop at l)) (part_length l' ∙ ap (λ k. min n (k - at)) same ∙ sym (part_length l)) (λ i below.
    each i below ∙ sym (get_or-take n (drop at l) i 0 below ∙ get_or-drop at l i 0))
  where
    part_length : (l : List ℕ) → length (take n (drop at l)) ≡ min n (length l - at)
    part_length l = length-take n (drop at l) ∙ ap (min n) (length-drop at l)
