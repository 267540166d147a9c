-- SEARCHES IN A SET, in two parts: the hops below m, and those from m on. A search looks no further than its bound.
use mathlib.Core.Path.{◌≡◌, refl, sym, ap, ap₂, fun_ext, ◌∙◌}
use mathlib.Core.Logic.{inl, inr}
use mathlib.Core.Bool.{true, false, cond, ◌||◌}
use Prim.Native.Nat.{ℕ, zero, suc, ◌+◌, ◌<◌}
use native.Mathlib.Nat.{add-zero, zero-add, suc-add}
use native.Mathlib.Omega.{arith}
use Rattle.theory.specs.Hops.{Hops, some_below, least}
use Rattle.theory.proofs.Hops.{by_test, never}

-- the hops from 1 on, and from m on, as a set that begins there
abbrev from_next : Hops → Hops
from_next x k = x (suc k)

abbrev pub from : ℕ → Hops → Hops
from m x k = x (m + k)

from_zero : (x : Hops) → from 0 x ≡ x
from_zero x = fun_ext (λ k. ap x (zero-add k))

from_suc : (m : ℕ) (x : Hops) → from (suc m) x ≡ from m (from_next x)
from_suc m x = fun_ext (λ k. ap x (suc-add m k))

-- WHAT IS FOUND IN EITHER PART; the least hop is in the first part that has one
pub some_parts : (m n : ℕ) (x : Hops) → some_below (m + n) x ≡ (some_below m x || some_below n (from m x))
some_parts zero n x = rw (zero-add n, from_zero x)
some_parts (suc m) n x =
    let rest = some_parts m n (from_next x) in
    rw (suc-add m n, from_suc m x) (elim (by_test (x zero)) [ inl e ↦ rw e | inr e ↦ rw e rest ])

pub least_first : (m n : ℕ) (x : Hops) → some_below m x ≡ true → least (m + n) x ≡ least m x
least_first zero n x some = never some refl
least_first (suc m) n x some =
    rw (suc-add m n) (elim (by_test (x zero)) [ inl e ↦ rw e | inr e ↦ rw e (ap suc (least_first m n (from_next x) (rw e at some))) ])

pub least_second : (m n : ℕ) (x : Hops) → some_below m x ≡ false → least (m + n) x ≡ m + least n (from m x)
least_second zero n x none = rw (zero-add n, from_zero x) (sym (zero-add _))
least_second (suc m) n x none =
    rw (suc-add m n, from_suc m x) (elim (by_test (x zero)) [
      | inl e ↦ never (rw e) none
      | inr e ↦ rw e (ap suc (least_second m n (from_next x) (rw e at none)) ∙ sym (suc-add m _))
    ])

-- EQUAL BELOW THE BOUND is equal to a search.
pub some_same : (n : ℕ) (x y : Hops) → ((k : ℕ) → k < n → x k ≡ y k) → some_below n x ≡ some_below n y
some_same zero x y same = refl
some_same (suc n) x y same =
    ap₂ (λ b rest. b || rest) (same zero (omega arith)) (some_same n (from_next x) (from_next y) (λ k l. same (suc k) (omega arith)))

pub least_same : (n : ℕ) (x y : Hops) → ((k : ℕ) → k < n → x k ≡ y k) → least n x ≡ least n y
least_same zero x y same = refl
least_same (suc n) x y same =
    ap₂ (λ b rest. cond b zero (suc rest)) (same zero (omega arith))
    (least_same n (from_next x) (from_next y) (λ k l. same (suc k) (omega arith)))

-- where nothing is found the least hop is the bound
pub least_none : (n : ℕ) (x : Hops) → some_below n x ≡ false → least n x ≡ n
least_none n x none = ap (λ m. least m x) (sym (add-zero n)) ∙ least_second n 0 x none ∙ add-zero n
