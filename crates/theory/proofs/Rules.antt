-- Document 01's rules for sets and entries, as equations on strings: the definitions that go down bit by bit obey them.
use mathlib.Core.Path.{◌≡◌, sym, ap, ap₂, ◌∙◌, fun_ext}
use mathlib.Core.Bool.{Bool, true, false}
use mathlib.Core.List.{[], ◌∷◌, ◌++◌, append_assoc, append-nil}
use Prim.Native.Nat.{ℕ, zero, suc, ◌-◌, ◌<◌}
use native.Mathlib.Omega.{arith}
use native.Mathlib.Nat.{sub-zero, suc-sub-suc}
use lib.ListN.{length, length-append}
use Rattle.theory.specs.Bits.{Bits}
use Rattle.theory.specs.Hops.{join}
use Rattle.theory.specs.Ledger.{below, line, routes}
use Rattle.theory.proofs.Strings.{routes_down}
use Rattle.theory.specs.Smallest.{Leaves, half, behind, set_of, choose, entry, here, under, table, set_at, hop_above, entry_at}

module _ (n w : ℕ) (F : Leaves) where
  -- a full string has its leaf's set
  pub set_full : (s : Bits) → length s ≡ w → set_at n w F s ≡ F s
  set_full s e =
      let z : w - length s ≡ 0 = omega arith in
      ap (λ v. set_of n v (behind s F)) z ∙ ap F (append-nil s)

  -- a shorter one has the join of its children's
  pub set_shorter : (s : Bits) → length s < w → set_at n w F s ≡ join n (set_at n w F (s ++ false ∷ [])) (set_at n w F (s ++ true ∷ []))
  set_shorter s l =
      let v = w - suc (length s) in
      let child : (b : Bool) → set_of n v (half b (behind s F)) ≡ set_at n w F (s ++ b ∷ []) =
      λ b. let e : v ≡ w - length (s ++ b ∷ []) = omega (arith, length-append s (b ∷ [])) in
      ap₂ (set_of n) e (fun_ext (λ a. ap F (sym (append_assoc s (b ∷ []) a)))) in
      let u : w - length s ≡ suc v = omega arith in
      ap (λ k. set_of n k (behind s F)) u ∙ ap₂ (join n) (child false) (child true)

-- one bit down
set_down : (n w : ℕ) (F : Leaves) (b : Bool) (s : Bits) → set_at n (suc w) F (b ∷ s) ≡ set_at n w (half b F) s
set_down n w F b s = ap (λ v. set_of n v (behind (b ∷ s) F)) (suc-sub-suc w (length s))

-- above a child, the hop that its parent chose is in force
pub above_child : (n w : ℕ) (F : Leaves) (d : ℕ) (s : Bits) (b : Bool) → length s < w
    → hop_above n w F d (s ++ b ∷ []) ≡ choose n (set_at n w F s) (hop_above n w F d s)
above_child n zero F d s b l = absurd (omega arith)
above_child n (suc w) F d [] b l = ap (λ v. choose n (set_of n v F) d) (sym (sub-zero (suc w)))
above_child n (suc w) F d (c ∷ s) b l =
    let u = choose n (set_of n (suc w) F) d in
    above_child n w (half c F) u s b (omega arith) ∙ ap (λ x. choose n x (hop_above n w (half c F) u s)) (sym (set_down n w F c s))

-- the table lists the strings' entries, in order of address and then of length
pub table_lists : (n w : ℕ) (F : Leaves) (d : ℕ) → table n w F d ≡ routes w (entry_at n w F d)
table_lists n zero F d = sym (append-nil (here (entry n (F []) d)))
table_lists n (suc w) F d =
    let u = choose n (set_of n (suc w) F) d in
    let down : (b : Bool) → under b (table n w (half b F) u) ≡ under b (routes w (below b (entry_at n (suc w) F d))) =
    λ b. ap (under b) (table_lists n w (half b F) u
    ∙ ap (routes w) (fun_ext (λ s. ap (λ x. entry n x (hop_above n w (half b F) u s)) (sym (set_down n w F b s))))) in
    ap₂ (λ x t. line [] (entry n x d) ++ t) (ap (λ v. set_of n v F) (sym (sub-zero (suc w)))) (ap₂ ◌++◌ (down false) (down true))
    ∙ sym (routes_down w (entry_at n (suc w) F d))
