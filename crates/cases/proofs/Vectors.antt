-- Sets as vectors of tests are the sets of the definition.
use mathlib.Core.Path.{◌≡◌, refl, sym, ap, ◌∙◌, fun_ext}
use mathlib.Core.Bool.{Bool, false, cond, ◌||◌, and-false, or-false}
use mathlib.Core.List.{List, [], ◌∷◌}
use mathlib.Core.Logic.{inl, inr}
use Prim.Native.Nat.{ℕ, zero, suc, ◌<◌}
use native.Mathlib.Omega.{arith}
use native.Mathlib.Nat.{suc_inj}
use lib.Dec.{eqb-zero-suc, eqb-suc-zero, eqb-suc-suc}
use lib.ListN.{length, replicate, length-replicate}
use Rattle.theory.specs.Hops.{only, some_below, least, common, union, join}
use Rattle.theory.proofs.Hops.{by_test, join_meets, join_apart}
use Rattle.cases.specs.Trie.{member, only_in, both_in, either_in, some_in, least_in, join_in}

member_none : (n k : ℕ) → member (replicate n false) k ≡ false
member_none zero k = refl
member_none (suc n) zero = refl
member_none (suc n) (suc k) = member_none n k

member_only : (n h k : ℕ) → h < n → member (only_in n h) k ≡ only h k
member_only zero h k l = absurd (omega arith)
member_only (suc n) zero zero l = refl
member_only (suc n) zero (suc k) l = member_none n k ∙ sym (eqb-suc-zero k)
member_only (suc n) (suc h) zero l = sym (eqb-zero-suc h)
member_only (suc n) (suc h) (suc k) l = member_only n h k (omega arith) ∙ sym (eqb-suc-suc k h)

pub only_in_lem : (n h : ℕ) → h < n → member (only_in n h) ≡ only h
only_in_lem n h l = fun_ext (λ k. member_only n h k l)

pub only_length : (n h : ℕ) → length (only_in n h) ≡ n
only_length zero h = refl
only_length (suc n) zero = ap suc (length-replicate n false)
only_length (suc n) (suc h) = ap suc (only_length n h)

member_both : (xs ys : List Bool) (k : ℕ) → member (both_in xs ys) k ≡ common (member xs) (member ys) k
member_both [] ys k = refl
member_both (x ∷ xs) [] k = sym (and-false (member (x ∷ xs) k))
member_both (x ∷ xs) (y ∷ ys) zero = refl
member_both (x ∷ xs) (y ∷ ys) (suc k) = member_both xs ys k

member_either : (xs ys : List Bool) (k : ℕ) → member (either_in xs ys) k ≡ union (member xs) (member ys) k
member_either [] ys k = refl
member_either (x ∷ xs) [] k = sym (or-false (member (x ∷ xs) k))
member_either (x ∷ xs) (y ∷ ys) zero = refl
member_either (x ∷ xs) (y ∷ ys) (suc k) = member_either xs ys k

pub some_in_lem : (n : ℕ) (xs : List Bool) → length xs ≡ n → some_in xs ≡ some_below n (member xs)
some_in_lem zero [] e = refl
some_in_lem zero (x ∷ xs) e = absurd (omega arith)
some_in_lem (suc n) [] e = absurd (omega arith)
some_in_lem (suc n) (x ∷ xs) e = ap (λ b. x || b) (some_in_lem n xs (suc_inj e))

pub least_in_lem : (n : ℕ) (xs : List Bool) → length xs ≡ n → least_in xs ≡ least n (member xs)
least_in_lem zero [] e = refl
least_in_lem zero (x ∷ xs) e = absurd (omega arith)
least_in_lem (suc n) [] e = absurd (omega arith)
least_in_lem (suc n) (x ∷ xs) e = ap (λ k. cond x 0 (suc k)) (least_in_lem n xs (suc_inj e))

module _ (n : ℕ) where
  both_length : (xs ys : List Bool) → length xs ≡ length ys → length (both_in xs ys) ≡ length ys
  both_length [] ys e = e
  both_length (x ∷ xs) [] e = refl
  both_length (x ∷ xs) (y ∷ ys) e = ap suc (both_length xs ys (suc_inj e))

  either_length : (xs ys : List Bool) → length xs ≡ length ys → length (either_in xs ys) ≡ length ys
  either_length [] ys e = refl
  either_length (x ∷ xs) [] e = e
  either_length (x ∷ xs) (y ∷ ys) e = ap suc (either_length xs ys (suc_inj e))

  pub join_length : (xs ys : List Bool) → length xs ≡ n → length ys ≡ n → length (join_in xs ys) ≡ n
  join_length xs ys p q =
      elim (by_test (some_in (both_in xs ys))) [
        | inl e ↦ rw e (both_length xs ys (p ∙ sym q) ∙ q)
        | inr e ↦ rw e (either_length xs ys (p ∙ sym q) ∙ q)
      ]

  pub join_in_lem : (xs ys : List Bool) → length xs ≡ n → length ys ≡ n → member (join_in xs ys) ≡ join n (member xs) (member ys)
  join_in_lem xs ys p q =
      let m = fun_ext (member_both xs ys) in
      let test : some_in (both_in xs ys) ≡ some_below n (common (member xs) (member ys)) =
      some_in_lem n (both_in xs ys) (both_length xs ys (p ∙ sym q) ∙ q) ∙ ap (some_below n) m in
      elim (by_test (some_below n (common (member xs) (member ys)))) [
        | inl e ↦ ap (λ b. member (cond b (both_in xs ys) (either_in xs ys))) (test ∙ e) ∙ m ∙ sym (join_meets n (member xs) (member ys) e)
        | inr e ↦
            ap (λ b. member (cond b (both_in xs ys) (either_in xs ys))) (test ∙ e) ∙ fun_ext (member_either xs ys) ∙ sym (join_apart n (member xs) (member ys) e)
      ]
