-- A path on the way down: with the bit at its end set or clear, its first bits are one more, and it stays clear behind them.
use mathlib.Core.Path.{◌≡◌, refl, ap, ap₂, ◌∙◌}
use mathlib.Core.Bool.{true, false, ◌||◌}
use mathlib.Core.List.{[], ◌∷◌, ◌++◌, reverse}
use Prim.Native.Nat.{ℕ, suc, ◌≤◌, ◌<◌}
use native.Mathlib.Omega.{arith}
use native.Mathlib.Nat.{le_refl}
use borrow.Author.Tests.{eq-eqb, ne_eqb}
use Rattle.theory.specs.Bits.{prefix_of}
use Rattle.theory.proofs.Walk.{front_front, prefix_suc}
use Rattle.memory.specs.declared.Path.{Path}
use Rattle.memory.specs.Path.{path_bit, path_bits}
use Rattle.printing.specs.Printing.{BitSet, ClearFrom}

module _ (path : Path) (d w : ℕ) (clear : ClearFrom path d w) where
  pub clear_more : ClearFrom path (suc d) w
  clear_more i l = clear i (omega arith)

  pub clear_front : d < w → prefix_of (path_bit path) (suc d) ≡ prefix_of (path_bit path) d ++ (false ∷ [])
  clear_front l = prefix_suc (path_bit path) d ∙ ap (λ b. prefix_of (path_bit path) d ++ (b ∷ [])) (clear d (le_refl d) l)

module _ {path r : Path} {d : ℕ} (set : BitSet path d r) where
  -- a bit elsewhere is as it was
  elsewhere : (i : ℕ) → i < path_bits → (i ≡ d → ⊥) → path_bit r i ≡ path_bit path i
  elsewhere i l other = set.bit_by_bit i l ∙ ap (λ b. b || path_bit path i) (ne_eqb i d other)

  pub set_front : d < path_bits → prefix_of (path_bit r) (suc d) ≡ prefix_of (path_bit path) d ++ (true ∷ [])
  set_front l =
      let before = front_front (path_bit r) (path_bit path) d (λ i h. elsewhere i (omega arith) (λ e. omega arith)) in
      let there = set.bit_by_bit d l ∙ ap (λ b. b || path_bit path d) (eq-eqb d d refl) in
      prefix_suc (path_bit r) d ∙ ap₂ (λ s b. reverse s ++ (b ∷ [])) before there

  pub set_clear : {w : ℕ} → ClearFrom path d w → w ≤ path_bits → ClearFrom r (suc d) w
  set_clear clear fits i l h = elsewhere i (omega arith) (λ e. omega arith) ∙ clear i (omega arith) h
