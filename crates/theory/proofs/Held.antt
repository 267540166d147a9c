-- The held routes, written out as a list, are a table too: so the smallest table has at most as many entries.
use mathlib.Core.Path.{◌≡◌, refl, sym, ap, ap₂, ◌∙◌, subst, fun_ext}
use mathlib.Core.Bool.{Bool, true, false, cond}
use mathlib.Core.List.{List, [], ◌∷◌, ◌++◌, append-nil}
use mathlib.Core.Option.{Option, none, some}
use Prim.Native.Nat.{ℕ, zero, suc, ◌+◌, ◌≤◌}
use native.Mathlib.Omega.{arith}
use lib.ListN.{length, length-append}
use Rattle.theory.specs.Bits.{Bits, strings, count}
use Rattle.theory.specs.Hops.{Hops}
use Rattle.theory.specs.Ledger.{Ledger, is_held, or_else, picked, nothing, below, longest, load, line, lines, routes, held}
use Rattle.theory.specs.Smallest.{under}
use Rattle.theory.specs.Theorem.{Agrees, leaves}
use Rattle.theory.proofs.Longest.{longest-upto, below-load}
use Rattle.theory.proofs.Agrees.{after-parts, top-parts, top-here}
use Rattle.theory.proofs.Strings.{routes-down}

-- as many lines as routes held
line-count : (s : Bits) (o : Option ℕ) → length (line s o) ≡ cond (is_held o) 1 0
line-count s none = refl
line-count s (some h) = refl

lines-count : (L : Ledger ℕ) (ss : List Bits) → length (lines L ss) ≡ count (λ s. is_held (L s)) ss
lines-count L [] = refl
lines-count L (s ∷ ss) = length-append (line s (L s)) (lines L ss) ∙ ap₂ ◌+◌ (line-count s (L s)) (lines-count L ss)

pub routes-count : (w : ℕ) (L : Ledger ℕ) → length (routes w L) ≡ held w L
routes-count w L = lines-count L (strings w)

-- the list of the held routes, loaded, holds what was held
pub load-routes : (w : ℕ) (L : Ledger ℕ) (s : Bits) → length s ≤ w → load (routes w L) s ≡ L s
load-routes zero L [] l = ap (λ es. load es []) (append-nil (line [] (L []))) ∙ top-here (L [])
load-routes zero L (b ∷ s) l = absurd (omega arith)
load-routes (suc w) L [] l = ap (λ es. load es []) (routes-down w L) ∙ top-parts (L []) (routes w (below false L)) (routes w (below true L))
load-routes (suc w) L (b ∷ s) l =
    let es = routes w (below false L) in
    let fs = routes w (below true L) in
    let halves : (b : Bool) → cond b fs es ≡ routes w (below b L) = elim [ false ↦ refl | true ↦ refl ] in
    ap (λ t. load t (b ∷ s)) (routes-down w L)
    ∙ ap (λ M. M s) (below-load b nothing (line [] (L []) ++ (under false es ++ under true fs)))
    ∙ ap (λ t. load t s) (after-parts (L []) es fs b ∙ halves b)
    ∙ load-routes w (below b L) s (omega arith)

module _ {A : Type 0} (f : A → ℕ) where
  picked-else : (o : Option A) (d : A) → or_else (picked f o) (f d) ≡ f (or_else o d)
  picked-else none d = refl
  picked-else (some x) d = refl

  picked-held : (o : Option A) → is_held (picked f o) ≡ is_held o
  picked-held none = refl
  picked-held (some x) = refl

  -- to pick a hop commutes with longest match
  pub longest-picked : (L : Ledger A) (d : A) (a : Bits) → longest (λ s. picked f (L s)) (f d) a ≡ f (longest L d a)
  longest-picked L d [] = picked-else (L []) d
  longest-picked L d (b ∷ a) = rw (picked-else (L []) d) (longest-picked (below b L) (or_else (L []) d) a)

  module _ (sets : A → Hops) (w : ℕ) (L : Ledger A) (d : A)
      (picks : (a : Bits) → length a ≡ w → sets (longest L d a) (f (longest L d a)) ≡ true) where
    pub held-agrees : Agrees w (leaves sets L d) (f d) (routes w (λ s. picked f (L s)))
    held-agrees a e =
        let q = longest-upto (load (routes w (λ s. picked f (L s)))) (λ s. picked f (L s)) (f d) a
        (λ s l. load-routes w (λ s. picked f (L s)) s (omega arith)) ∙ longest-picked L d a in
        subst (λ (h : ℕ). sets (longest L d a) h ≡ true) (sym q) (picks a e)

    pub held-count : length (routes w (λ s. picked f (L s))) ≡ held w L
    held-count = routes-count w (λ s. picked f (L s)) ∙ ap (λ p. count p (strings w)) (fun_ext (λ s. picked-held (L s)))
