-- How many strings have children whose sets are apart: none where one set stands throughout, never more than the routes
-- held, and the leaves of w bits alone decide it.
use mathlib.Core.Path.{◌≡◌, refl, ap, fun_ext}
use mathlib.Core.Bool.{true, false, and_self}
use mathlib.Core.List.{◌∷◌}
use Prim.Native.Nat.{ℕ, zero, suc, ◌≤◌}
use native.Mathlib.Omega.{arith}
use lib.ListN.{length}
use Rattle.theory.specs.Bits.{Bits}
use Rattle.theory.specs.Hops.{Hops, some_below, only, common}
use Rattle.theory.specs.Ledger.{Ledger, longest, held, picked, routes}
use Rattle.theory.specs.Smallest.{Leaves, half, splits}
use Rattle.theory.specs.Theorem.{AllAllowed, leaves}
use Rattle.theory.proofs.Hops.{only_self}
use Rattle.theory.proofs.Sets.{set_of_leaves}
use Rattle.theory.proofs.OneHop.{set_throughout}
use Rattle.theory.proofs.Fewest.{fewest}
use Rattle.theory.proofs.Held.{held_agrees, held_count}

pub splits_of_leaves : (n w : ℕ) (F G : Leaves) → ((a : Bits) → length a ≡ w → F a ≡ G a) → splits n w F ≡ splits n w G
splits_of_leaves n zero F G h = refl
splits_of_leaves n (suc w) F G h =
    rw (
      set_of_leaves n w (half false F) (half false G) (λ a e. h (false ∷ a) (ap suc e)),
      set_of_leaves n w (half true F) (half true G) (λ a e. h (true ∷ a) (ap suc e)),
      splits_of_leaves n w (half false F) (half false G) (λ a e. h (false ∷ a) (ap suc e)),
      splits_of_leaves n w (half true F) (half true G) (λ a e. h (true ∷ a) (ap suc e)),
    )

pub splits_throughout : (n w : ℕ) (x : Hops) → some_below n x ≡ true → splits n w (λ a. x) ≡ 0
splits_throughout n zero x e = refl
splits_throughout n (suc w) x e =
    let itself : common x x ≡ x = fun_ext (λ k. and_self (x k)) in
    rw (set_throughout n w x, splits_throughout n w x e, itself, e)

-- the routes held, written out as a list, pay for each of them
pub splits_held : (n w : ℕ) (L : Ledger ℕ) (d : ℕ) → AllAllowed n w (leaves only L d) → splits n w (leaves only L d) ≤ held w L
splits_held n w L d ok =
    let itself : (a : Bits) → length a ≡ w → only (longest L d a) (longest L d a) ≡ true = λ a e. only_self (longest L d a) in
    omega (
      arith,
      fewest n w (leaves only L d) d ok (routes w (λ s. picked (λ h. h) (L s))) (held_agrees (λ h. h) only w L d itself),
      held_count (λ h. h) only w L d itself,
    )
