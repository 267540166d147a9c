-- What lies below a slot: nothing below what is no slot, the ledger that the memory holds below slot 0, and no slot twice.
use mathlib.Core.Path.{◌≡◌, refl, sym, ap, ◌∙◌, fun_ext}
use mathlib.Core.Logic.{inl, inr}
use mathlib.Core.Bool.{Bool, true, false, cond, true≢false}
use mathlib.Core.List.{[], ◌∷◌, ◌++◌, append-nil, append_assoc, reverse, reverse-cons}
use mathlib.Core.Option.{none, some}
use Prim.Native.Nat.{ℕ, zero, suc, ◌≤◌, ◌<◌}
use native.Mathlib.Omega.{arith}
use lib.Dec.{leb}
use lib.ListN.{length, get_or, take, length-append}
use lib.Seq.{get_or-append_seam, take-append_seam}
use borrow.Author.Tests.{le-leb, lt-leb}
use Rattle.theory.specs.Bits.{Bits}
use Rattle.theory.specs.Hops.{only}
use Rattle.theory.specs.Ledger.{nothing, is_held}
use Rattle.theory.proofs.Hops.{never}
use Rattle.theory.proofs.Longest.{none_some}
use Rattle.theory.proofs.OneHop.{longest_nothing, set_throughout}
use Rattle.rules.specs.Numbers.{hop_bound, MayAnnounce}
use Rattle.memory.specs.Layout.{Tree, Memory, slots, Shaped, Whole, child, find, hop_at, ledger_of}
use Rattle.memory.proofs.Find.{below_or, none_below, one_string}
use Rattle.memory.proofs.Ledger.{read_range, no_hop}
use Rattle.squeezing.specs.Below.{walk, held_below, leaves_below, set_below, descend, LiesBelow}

module _ (m : Memory) (whole : Whole m) where
  -- NO SLOT HOLDS NOTHING, so its leaves have the one hop that is in force above, throughout
  walk_none : (s : Bits) (w p : ℕ) → slots m.tree ≤ p → walk m s w p ≡ none
  walk_none [] w p l = no_hop w m whole p l
  walk_none (b ∷ s) zero p l = refl
  walk_none (b ∷ s) (suc w) p l = walk_none s w (child m.tree b p) (omega (arith, none_below m.tree whole.shaped b p l))

  pub held_none : (w p : ℕ) → slots m.tree ≤ p → held_below w m p ≡ nothing
  held_none w p l = fun_ext (λ s. walk_none s w p l)

  pub leaves_none : (w p d : ℕ) → slots m.tree ≤ p → leaves_below w m p d ≡ (λ a. only d)
  leaves_none w p d l = rw (held_none w p l) (fun_ext (λ a. ap only (longest_nothing d a)))

  pub set_none : (w p d : ℕ) → slots m.tree ≤ p → set_below w m p d ≡ only d
  set_none w p d l = rw (leaves_none w p d l) (set_throughout hop_bound w (only d))

  -- what is held lies in a slot
  pub walk_slot : (s : Bits) (w p : ℕ) → is_held (walk m s w p) ≡ true → descend m.tree s p < slots m.tree
  walk_slot [] w p h =
      elim (below_or p (slots m.tree)) [ inl l ↦ l | inr l ↦ never h (ap is_held (no_hop w m whole p l)) ]
  walk_slot (b ∷ s) zero p h = never h refl
  walk_slot (b ∷ s) (suc w) p h = walk_slot s w (child m.tree b p) h

-- and is a hop that may be announced
pub walk_range : (m : Memory) (s : Bits) (w p h : ℕ) → walk m s w p ≡ some h → MayAnnounce h
walk_range m [] w p h e = read_range (get_or m.hop p 0) h e
walk_range m (b ∷ s) zero p h e = none_some e refl
walk_range m (b ∷ s) (suc w) p h e = walk_range m s w (child m.tree b p) h e

-- A SLOT BELOW THAT OF A STRING is that of a longer one
find_behind : (t : Tree) (s q : Bits) (b : Bool) → find t (reverse s ++ (b ∷ q)) ≡ find t (reverse (b ∷ s) ++ q)
find_behind t s q b = ap (find t) (sym (ap (λ r. r ++ q) (reverse-cons b s) ∙ append_assoc (reverse s) (b ∷ []) q))

pub descend_find : (t : Tree) (s q : Bits) → descend t s (find t q) ≡ find t (reverse s ++ q)
descend_find t [] q = refl
descend_find t (b ∷ s) q = descend_find t s (b ∷ q) ∙ find_behind t s q b

pub walk_find : (m : Memory) (s : Bits) (w : ℕ) (q : Bits)
    → walk m s w (find m.tree q) ≡ cond (leb (length s) w) (hop_at m (find m.tree (reverse s ++ q))) none
walk_find m [] w q = rw (le-leb 0 w (omega arith))
walk_find m (b ∷ s) zero q = rw (lt-leb (suc (length s)) 0 (omega arith))
walk_find m (b ∷ s) (suc w) q =
    elim (below_or w (length s)) [
      | inl l ↦ walk_find m s w (b ∷ q) ∙ rw (lt-leb (length s) w l, lt-leb (suc (length s)) (suc w) (omega arith))
      | inr l ↦
          walk_find m s w (b ∷ q)
          ∙ rw (le-leb (length s) w l, le-leb (suc (length s)) (suc w) (omega arith)) (ap (hop_at m) (find_behind m.tree s q b))
    ]

-- THE WHOLE LEDGER lies below slot 0
pub ledger_below : (w : ℕ) (m : Memory) → ledger_of w m ≡ held_below w m 0
unfolding ledger_of
ledger_below w m =
    fun_ext (λ s. sym (walk_find m s w [] ∙ ap (λ r. cond (leb (length s) w) (hop_at m (find m.tree r)) none) (append-nil (reverse s))))

-- one end behind two strings: the strings are equal where the wholes are
pub append_same : (r s q : Bits) → r ++ q ≡ s ++ q → r ≡ s
append_same r s q e =
    let lengths : length r ≡ length s = omega (arith, ap length e, length-append r q, length-append s q) in
    sym (take-append_seam r q) ∙ ap (take (length r)) e ∙ ap (λ k. take k (s ++ q)) lengths ∙ take-append_seam s q

-- what lies below a side lies below the slot
pub lies_down : (t : Tree) {w k : ℕ} (p : ℕ) (b : Bool) → LiesBelow t w (child t b p) k → LiesBelow t (suc w) p k
lies_down t p b x = record { string = b ∷ x.string; short = omega (arith, x.short); lies = x.lies }

-- NO SLOT TWICE: what lies below one side of a string's slot does not lie below the other, and the slot itself below neither
module _ (t : Tree) (shaped : Shaped t) (q : Bits) where
  same_bit : (r s : Bits) (b c : Bool) → r ++ (b ∷ q) ≡ s ++ (c ∷ q) → b ≡ c
  same_bit r s b c e =
      let lengths : length r ≡ length s = omega (arith, ap length e, length-append r (b ∷ q), length-append s (c ∷ q)) in
      sym (get_or-append_seam r b q false)
      ∙ ap (λ l. get_or l (length r) false) e
      ∙ ap (λ k. get_or (s ++ (c ∷ q)) k false) lengths
      ∙ get_or-append_seam s c q false

  -- a slot below a side is that of the string, the side's bit and more
  string_of_lem : {w k : ℕ} (b : Bool) (x : LiesBelow t w (child t b (find t q)) k) → find t (reverse x.string ++ (b ∷ q)) ≡ k
  string_of_lem b x = sym (descend_find t x.string (b ∷ q)) ∙ x.lies

  pub sides_apart : (w k : ℕ) → k < slots t → LiesBelow t w (child t false (find t q)) k → LiesBelow t w (child t true (find t q)) k → ⊥
  sides_apart w k l x y =
      let same-slot = string_of_lem false x ∙ sym (string_of_lem true y) in
      let one = one_string t shaped (reverse x.string ++ (false ∷ q)) (reverse y.string ++ (true ∷ q)) same-slot (omega (arith, string_of_lem false x)) in
      true≢false (sym (same_bit (reverse x.string) (reverse y.string) false true one))

  pub own_apart : (w : ℕ) (b : Bool) → find t q < slots t → LiesBelow t w (child t b (find t q)) (find t q) → ⊥
  own_apart w b l x =
      let one = one_string t shaped (reverse x.string ++ (b ∷ q)) q (string_of_lem b x) (omega (arith, string_of_lem b x)) in
      omega (arith, ap length one, length-append (reverse x.string) (b ∷ q))
