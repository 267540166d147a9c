-- The sets of strings: they have members, all in range, and depend on the leaves' sets alone.
use mathlib.Core.Path.{◌≡◌, refl, ap, ap₂}
use mathlib.Core.Bool.{Bool, true, false}
use mathlib.Core.Logic.{inl, inr}
use mathlib.Core.List.{[], ◌∷◌}
use Prim.Native.Nat.{ℕ, zero, suc}
use lib.ListN.{length}
use Rattle.theory.specs.Bits.{Bits}
use Rattle.theory.specs.Hops.{Hops, some_below, join, Allowed}
use Rattle.theory.specs.Theorem.{AllAllowed}
use Rattle.theory.specs.Smallest.{Leaves, half, set_of, choose, entry, here, table}
use Rattle.theory.proofs.Hops.{join_allowed, join_avoids, by_test, least_member}

pub half_allowed : {n w : ℕ} {F : Leaves} (b : Bool) → AllAllowed n (suc w) F → AllAllowed n w (half b F)
half_allowed b ok a e = ok (b ∷ a) (ap suc e)

pub set_allowed : (n w : ℕ) (F : Leaves) → AllAllowed n w F → Allowed n (set_of n w F)
set_allowed n zero F ok = ok [] refl
set_allowed n (suc w) F ok =
    join_allowed n _ _ (set_allowed n w (half false F) (half_allowed false ok)) (set_allowed n w (half true F) (half_allowed true ok))

-- A hop that no leaf allows is in no set.
pub set_avoids : (n w : ℕ) (F : Leaves) (h : ℕ) → ((a : Bits) → length a ≡ w → F a h ≡ false) → set_of n w F h ≡ false
set_avoids n zero F h out = out [] refl
set_avoids n (suc w) F h out =
    join_avoids n _ _ h (set_avoids n w (half false F) h (λ a e. out (false ∷ a) (ap suc e)))
    (set_avoids n w (half true F) h (λ a e. out (true ∷ a) (ap suc e)))

-- The hop in force from a string on is in the string's set.
pub choose_in_lem : (n : ℕ) (x : Hops) (d : ℕ) → some_below n x ≡ true → x (choose n x d) ≡ true
choose_in_lem n x d has =
    let least-is-in = least_member n x has in
    elim (by_test (x d)) [ inl above-is-in ↦ rw above-is-in (search) | inr e ↦ rw e (search) ]

pub choose_member : (n : ℕ) (x : Hops) (d : ℕ) → Allowed n x → x (choose n x d) ≡ true
choose_member n x d ok = choose_in_lem n x d ok.member

-- The sets, and with them the table, depend on the leaves of w bits alone.
pub set_of_leaves : (n w : ℕ) (F G : Leaves) → ((a : Bits) → length a ≡ w → F a ≡ G a) → set_of n w F ≡ set_of n w G
set_of_leaves n zero F G h = h [] refl
set_of_leaves n (suc w) F G h =
    ap₂ (join n) (set_of_leaves n w (half false F) (half false G) (λ a e. h (false ∷ a) (ap suc e)))
    (set_of_leaves n w (half true F) (half true G) (λ a e. h (true ∷ a) (ap suc e)))

pub table_of_leaves : (n w : ℕ) (F G : Leaves) (d : ℕ) → ((a : Bits) → length a ≡ w → F a ≡ G a) → table n w F d ≡ table n w G d
table_of_leaves n zero F G d h = ap (λ x. here (entry n x d)) (h [] refl)
table_of_leaves n (suc w) F G d h =
    let e = set_of_leaves n (suc w) F G h in
    rw (
      e,
      table_of_leaves n w (half false F) (half false G) _ (λ a l. h (false ∷ a) (ap suc l)),
      table_of_leaves n w (half true F) (half true G) _ (λ a l. h (true ∷ a) (ap suc l)),
    )
