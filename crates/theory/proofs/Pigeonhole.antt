-- Counting by slots: strings that have slots of their own among n are at most n, and n different strings and one more are
-- more than n. It holds because one string taken out of a test makes its count over all strings smaller by exactly 1.
use mathlib.Core.Path.{◌≡◌, refl, sym, ◌∙◌}
use mathlib.Core.Bool.{Bool, true, false, not, ◌&&◌}
use mathlib.Core.List.{List, [], ◌∷◌}
use mathlib.Core.Logic.{inl, inr}
use Prim.Native.Nat.{ℕ, zero, suc, ◌+◌, ◌≤◌, ◌<◌}
use native.Mathlib.Omega.{arith}
use lib.ListN.{length}
use lib.Dec.{eqb}
use borrow.Author.Tests.{eqb-true, eq-eqb}
use Rattle.theory.specs.Bits.{Bits, same, strings, count, some_of}
use Rattle.theory.proofs.Hops.{by_test, never, not_true, and_both}
use Rattle.theory.proofs.Strings.{same_self, same_true, strings_once, some_of_string, string_of_some}

-- below n + 1 and not n is below n
lower : (m n : ℕ) → m < suc n → (m ≡ n → ⊥) → m < n
lower m n l other = omega arith

-- where no element passes, none is counted
count_none : {A : Type 0} (p : A → Bool) (xs : List A) → some_of p xs ≡ false → count p xs ≡ 0
count_none p [] e = refl
count_none p (x ∷ xs) e =
    elim (by_test (p x)) [ inl q ↦ never refl (rw q at e) | inr q ↦ rw q (omega (arith, count_none p xs (rw q at e))) ]

-- the test that one string is taken out of
abbrev pub without : Bits → (Bits → Bool) → Bits → Bool
without x P s = P s && not (same x s)

pub without_other : (x : Bits) (P : Bits → Bool) (s : Bits) → P s ≡ true → (s ≡ x → ⊥) → without x P s ≡ true
without_other x P s e other =
    elim (by_test (same x s)) [ inl q ↦ absurd (other (sym (same_true x s q))) | inr q ↦ rw (e, q) ]

module _ (x : Bits) (P : Bits → Bool) (e : P x ≡ true) where
  taken_out : (ss : List Bits) → count P ss ≡ count (same x) ss + count (without x P) ss
  taken_out [] = refl
  taken_out (s ∷ ss) =
      let r = taken_out ss in
      elim (by_test (same x s)) [
        | inl q ↦ let h : P s ≡ true = rw (same_true x s q) at e in rw (h, q) (omega arith)
        | inr q ↦ elim (by_test (P s)) [ inl h ↦ rw (h, q) (omega arith) | inr h ↦ rw (h, q) (omega arith) ]
      ]

  pub count_without : (w : ℕ) → length x ≤ w → count P (strings w) ≡ suc (count (without x P) (strings w))
  count_without w l = omega (arith, taken_out (strings w), strings_once w x l)

-- Each string that passes has a slot of its own below n: at most n pass. The string in the last slot, if any, is taken out.
pub count_within : (w n : ℕ) (P : Bits → Bool) (slot : Bits → ℕ) → ((s : Bits) → length s ≤ w → P s ≡ true → slot s < n)
    → ((s t : Bits) → slot s ≡ slot t → slot s < n → s ≡ t) → count P (strings w) ≤ n
count_within w zero P slot fits own =
    elim (by_test (some_of P (strings w))) [
      | inl e ↦ let x = string_of_some P w e in absurd (omega (arith, fits x.0 x.1 x.2))
      | inr e ↦ omega (arith, count_none P (strings w) e)
    ]
count_within w (suc n) P slot fits own =
    elim (by_test (some_of (λ s. P s && eqb (slot s) n) (strings w))) [
      | inl e ↦
          let x = string_of_some (λ s. P s && eqb (slot s) n) w e in
          let both = and_both (P x.0) (eqb (slot x.0) n) x.2 in
          let last = eqb-true (slot x.0) n both.1 in
          let fewer : (s : Bits) → length s ≤ w → without x.0 P s ≡ true → slot s < n =
          λ s l q.
          let kept = and_both (P s) (not (same x.0 s)) q in
          lower (slot s) n (fits s l kept.0)
          (λ z. never (rw (own x.0 s (last ∙ sym z) (omega arith)) (same_self s)) (not_true (same x.0 s) kept.1)) in
          omega (arith, count_without x.0 P both.0 w x.1, count_within w n (without x.0 P) slot fewer (λ s t q l. own s t q (omega arith)))
      | inr e ↦
          let fewer : (s : Bits) → length s ≤ w → P s ≡ true → slot s < n =
          λ s l q.
          lower (slot s) n (fits s l q)
          (λ z. never (some_of_string (λ t. P t && eqb (slot t) n) w s l (rw (q, eq-eqb (slot s) n z))) e) in
          omega (arith, count_within w n P slot fewer (λ s t q l. own s t q (omega arith)))
    ]

-- n different strings pass, and one more: more than n do. The last of the n is taken out.
pub count_beyond : (w n : ℕ) (P : Bits → Bool) (string : ℕ → Bits) → ((k : ℕ) → k < n → length (string k) ≤ w)
    → ((k : ℕ) → k < n → P (string k) ≡ true) → ((i j : ℕ) → i < n → j < n → string i ≡ string j → i ≡ j)
    → (x : Bits) → length x ≤ w → P x ≡ true → ((k : ℕ) → k < n → string k ≡ x → ⊥) → n < count P (strings w)
count_beyond w zero P string short pass differ x l e new = omega (arith, count_without x P e w l)
count_beyond w (suc n) P string short pass differ x l e new =
    let last = string n in
    let rest : n < count (without last P) (strings w) =
    count_beyond w n (without last P) string (λ k h. short k (omega arith))
    (λ k h. without_other last P (string k) (pass k (omega arith)) (λ z. omega (arith, differ k n (omega arith) (omega arith) z)))
    (λ i j p q. differ i j (omega arith) (omega arith)) x l
    (without_other last P x e (λ z. new n (omega arith) (sym z)))
    (λ k h. new k (omega arith)) in
    omega (arith, count_without last P (pass n (omega arith)) w (short n (omega arith)))
