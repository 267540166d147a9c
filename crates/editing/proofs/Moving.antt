-- How strings fare when one slot is edited: every string but those of that slot keeps its slot. So an edit of a slot that no
-- held prefix needs leaves the ledger as it was.
use mathlib.Core.Path.{◌≡◌, refl, sym, ap, subst, ◌∙◌, fun_ext}
use mathlib.Core.Logic.{◌⊎◌, inl, inr}
use mathlib.Core.Bool.{Bool, true, false}
use mathlib.Core.List.{[], ◌∷◌, reverse}
use mathlib.Core.Option.{none}
use Prim.Native.Nat.{ℕ, ◌≤◌, ◌<◌}
use native.Mathlib.Omega.{arith}
use lib.ListN.{length, get_or, length-reverse}
use Rattle.theory.specs.Bits.{Bits}
use Rattle.memory.specs.Layout.{Tree, Memory, slots, Shaped, Whole, link, child, find, read_hop, hop_at, ledger_of}
use Rattle.memory.proofs.Find.{Counts, same_or, below_or, child_view, child_counts, counts_below, none_of, none_below}
use Rattle.memory.proofs.Ledger.{ledger_at, ledger_long, no_hop}

pub side_or : (a b : Bool) → (a ≡ b) ⊎ (a ≡ b → ⊥)
side_or true true = inl refl
side_or true false = inr (λ e. absurd (let z : ◌≡◌ {A = ℕ} 0 1 = cc in omega arith))
side_or false true = inr (λ e. absurd (let z : ◌≡◌ {A = ℕ} 0 1 = cc in omega arith))
side_or false false = inl refl

-- A CHILD AFTER AN EDIT of slot k, at a link that was not edited and does not count for k
module _ (t t' : Tree) (k : ℕ) (same_slots : slots t' ≡ slots t)
    (other_marks : (y : ℕ) → 0 < y → (y ≡ k → ⊥) → get_or t'.up y 0 ≡ get_or t.up y 0)
    (c : Bool) (x : ℕ) (same-link : link t' c x ≡ link t c x) (not_there : Counts t' c x k → ⊥) where
  counts_back : (y : ℕ) → Counts t' c x y → Counts t c x y
  counts_back y n =
      elim (same_or y k) [
        | inl e ↦ absurd (not_there (subst (Counts t' c x) e n))
        | inr e ↦ record {
          positive = n.positive;
          linked = sym same-link ∙ n.linked;
          marked = sym (other_marks y n.positive e) ∙ n.marked;
        }
      ]

  pub child_same : (child t c x ≡ k → ⊥) → child t' c x ≡ child t c x
  child_same other =
      elim (child_view t c x) [
        | inl none_here ↦
            none_of t' c x
            (λ y n. let old = counts_back y n in omega (arith, child_counts t c x y old, counts_below t c x y old))
            ∙ same_slots ∙ sym none_here
        | inr n ↦ child_counts t' c x (child t c x) record {
          positive = n.positive;
          linked = same-link ∙ n.linked;
          marked = other_marks (child t c x) n.positive other ∙ n.marked;
        }
      ]

  pub child_gone : child t c x ≡ k → k < slots t → child t' c x ≡ slots t
  child_gone e l =
      none_of t' c x
      (λ y n.
      let old = counts_back y n in
      not_there (subst (Counts t' c x) (sym (child_counts t c x y old) ∙ e) n))
      ∙ same_slots

-- A STRING AFTER AN EDIT of slot k: it keeps its slot, comes to slot k, or loses slot k
pub data Moved (t t' : Tree) (k : ℕ) (New : Bits → Type 0) (s : Bits) : Type 0 where
  stays : find t' s ≡ find t s → (find t s ≡ k → ⊥) → Moved t t' k New s
  comes : New s → find t' s ≡ k → Moved t t' k New s
  goes : find t s ≡ k → find t' s ≡ slots t → Moved t t' k New s

-- an edit seen from one string to the next
pub record Edit (w : ℕ) (t t' : Tree) (k : ℕ) (New : Bits → Type 0) : Type 0 where
  pub shaped : Shaped t
  pub shaped' : Shaped t'
  pub same_slots : slots t' ≡ slots t
  pub positive : 0 < k
  pub slot : k < slots t
  pub one_step : (s : Bits) (c : Bool) → length (c ∷ s) ≤ w → (find t s ≡ k → ⊥)
      → ((child t' c (find t s) ≡ child t c (find t s)) × (child t c (find t s) ≡ k → ⊥))
      ⊎ ((New (c ∷ s) × (child t' c (find t s) ≡ k)) ⊎ ((child t c (find t s) ≡ k) × (child t' c (find t s) ≡ slots t)))
  pub leaf : (s : Bits) (c : Bool) → length (c ∷ s) ≤ w → find t s ≡ k → child t c k ≡ slots t
  pub new_none : (s : Bits) → New s → find t s ≡ slots t
  pub new_leaf : (s : Bits) → New s → (c : Bool) → child t' c k ≡ slots t

module _ (w : ℕ) (t t' : Tree) (k : ℕ) (New : Bits → Type 0) (e : Edit w t t' k New) where
  moved_on : (c : Bool) (s : Bits) → length (c ∷ s) ≤ w → Moved t t' k New s → Moved t t' k New (c ∷ s)
  moved_on c s l (stays q other) =
      elim (e.one_step s c l other) [
        | inl h ↦ stays (ap (child t' c) q ∙ h.0) h.1
        | inr (inl h) ↦ comes h.0 (ap (child t' c) q ∙ h.1)
        | inr (inr h) ↦ goes h.0 (ap (child t' c) q ∙ h.1)
      ]
  moved_on c s l (comes new q) =
      let old : child t c (find t s) ≡ slots t = none_below t e.shaped c (find t s) (omega (arith, e.new_none s new)) in
      stays (ap (child t' c) q ∙ e.new_leaf s new c ∙ sym old) (λ h. omega (arith, e.slot))
  moved_on c s l (goes h q) =
      let old : child t c (find t s) ≡ slots t = ap (child t c) h ∙ e.leaf s c l h in
      let new : child t' c (find t' s) ≡ slots t = none_below t' e.shaped' c (find t' s) (omega (arith, e.same_slots)) ∙ e.same_slots in
      stays (new ∙ sym old) (λ z. omega (arith, e.slot))

  pub moved : (s : Bits) → length s ≤ w → Moved t t' k New s
  moved [] l = stays refl (λ h. omega (arith, e.positive))
  moved (c ∷ s) l = moved_on c s l (moved s (omega arith))

-- THE LEDGER AFTER AN EDIT is the same, where slot k holds nothing before and after
module _ (w : ℕ) (m m' : Memory) (whole : Whole m) (whole' : Whole m') (k : ℕ) (New : Bits → Type 0)
    (e : Edit w m.tree m'.tree k New)
    (other_hops : (x : ℕ) → (x ≡ k → ⊥) → get_or m'.hop x 0 ≡ get_or m.hop x 0) (empty : hop_at m' k ≡ none)
    (was-empty : (s : Bits) → length s ≤ w → find m.tree s ≡ k → hop_at m k ≡ none) where
  hop_moved : (s : Bits) → length s ≤ w → Moved m.tree m'.tree k New s → hop_at m' (find m'.tree s) ≡ hop_at m (find m.tree s)
  hop_moved s l (stays q other) = ap (hop_at m') q ∙ ap read_hop (other_hops (find m.tree s) other)
  hop_moved s l (comes new q) =
      ap (hop_at m') q ∙ empty ∙ sym (no_hop w m whole (find m.tree s) (omega (arith, e.new_none s new)))
  hop_moved s l (goes h q) =
      no_hop w m' whole' (find m'.tree s) (omega (arith, e.same_slots)) ∙ sym (was-empty s l h) ∙ ap (hop_at m) (sym h)

  pub ledger_kept : ledger_of w m' ≡ ledger_of w m
  ledger_kept =
      fun_ext
      (λ s.
      elim (below_or w (length s)) [
        | inl l ↦ ledger_long w m' s l ∙ sym (ledger_long w m s l)
        | inr l ↦
            let short : length (reverse s) ≤ w = omega (arith, length-reverse s) in
            ledger_at w m' s l
            ∙ hop_moved (reverse s) short (moved w m.tree m'.tree k New e (reverse s) short)
            ∙ sym (ledger_at w m s l)
      ])
