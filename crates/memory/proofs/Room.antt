-- Slots and needs: every string that the ledger needs has a slot of its own, so in any memory the ledger needs no more slots
-- than there are; and a string whose slot leads on only to busy slots begins a held prefix.
use Rattle.std.proofs.Common.{◌≡◌, ℕ, zero, suc, ◌+◌, ◌-◌, ◌<◌, ◌≤◌, Bool, true, false, ◌⊎◌, [], ◌∷◌, ◌++◌, reverse, length, sym, refl, ap, ◌∙◌, subst, inl, inr, append_assoc, append-nil, arith, length-append}
use mathlib.Core.List.{reverse-cons, reverse-append, reverse-reverse}
use lib.ListN.{length-reverse}
use Rattle.theory.specs.Bits.{Bits}
use Rattle.theory.specs.Ledger.{Ledger, is_held}
use Rattle.theory.proofs.Hops.{never, or_either}
use Rattle.rules.specs.Plain.{is_empty, begins_held, needs}
use Rattle.rules.proofs.Slots.{begins_of_held, held_of_begins}
use Rattle.rules.proofs.Room.{needs_within}
use Rattle.memory.specs.Layout.{Tree, Memory, slots, Shaped, Whole, find, hop_at, ledger_of}
use Rattle.memory.specs.Tidy.{bare}
use Rattle.memory.proofs.Find.{below_or, none_below, one_string}
use Rattle.memory.proofs.Ledger.{ledger_at, ledger_long, no_hop}
use Rattle.memory.proofs.Bare.{busy_why}

pub begins_shorter : (w : ℕ) (L : Ledger ℕ) (s r : Bits) → length (s ++ r) ≤ w → begins_held w L (s ++ r) ≡ true → begins_held w L s ≡ true
begins_shorter w L s r l e =
    let held = held_of_begins w L (s ++ r) e in
    begins_of_held w L s (r ++ held.0) (omega (arith, length-append s r, length-append r held.0, held.1))
    (ap (λ x. is_held (L x)) (sym (append_assoc s r held.0)) ∙ held.2)

module _ (t : Tree) (shaped : Shaped t) where
  pub find_shorter : (r s : Bits) → find t (r ++ s) < slots t → find t s < slots t
  find_shorter [] s l = l
  find_shorter (b ∷ r) s l =
      elim (below_or (find t (r ++ s)) (slots t)) [
        | inl h ↦ find_shorter r s h
        | inr h ↦ absurd (omega (arith, none_below t shaped b (find t (r ++ s)) h))
      ]

module _ (w : ℕ) (m : Memory) (whole : Whole m) where
  pub held_slot : (s : Bits) → is_held (ledger_of w m s) ≡ true → find m.tree (reverse s) < slots m.tree
  held_slot s h =
      elim (below_or w (length s)) [
        | inl l ↦ never h (ap is_held (ledger_long w m s l))
        | inr l ↦
            elim (below_or (find m.tree (reverse s)) (slots m.tree)) [
              | inl q ↦ q
              | inr q ↦ never h (ap is_held (ledger_at w m s l ∙ no_hop w m whole (find m.tree (reverse s)) q))
            ]
      ]

  pub begins_slot : (s : Bits) → begins_held w (ledger_of w m) s ≡ true → find m.tree (reverse s) < slots m.tree
  begins_slot s e =
      let held = held_of_begins w (ledger_of w m) s e in
      find_shorter m.tree whole.shaped (reverse held.0) (reverse s)
      (subst (λ r. find m.tree r < slots m.tree) (reverse-append s held.0) (held_slot (s ++ held.0) held.2))

  empty_slot : (s : Bits) → is_empty s ≡ true → find m.tree (reverse s) < slots m.tree
  empty_slot [] e = whole.shaped.some_slot
  empty_slot (b ∷ s) e = never e refl

  -- THE LEDGER FITS, in any memory
  pub needs_fit : needs w (ledger_of w m) ≤ slots m.tree
  needs_fit =
      needs_within w (slots m.tree) (ledger_of w m) (λ s. find m.tree (reverse s))
      (λ s l e. elim (or_either (is_empty s) (begins_held w (ledger_of w m) s) e) [ inl h ↦ empty_slot s h | inr h ↦ begins_slot s h ])
      (λ s r e l.
      sym (reverse-reverse s) ∙ ap reverse (one_string m.tree whole.shaped (reverse s) (reverse r) e l) ∙ reverse-reverse r)

  -- LIVE STRINGS: where each slot but the first has a string that begins a prefix of L, or is busy, and L holds what the memory
  -- holds, every string that has a slot begins a prefix of L.
  module _ (L : Ledger ℕ)
      (holds : (s : Bits) → length s ≤ w → is_held (hop_at m (find m.tree s)) ≡ true → is_held (L (reverse s)) ≡ true)
      (busy : (c : Bool) (s : Bits) → length (c ∷ s) ≤ w → find m.tree (c ∷ s) < slots m.tree
      → (begins_held w L (reverse (c ∷ s)) ≡ true) ⊎ (bare m (w - length (c ∷ s)) (find m.tree (c ∷ s)) ≡ false)) where
    held_begins : (s : Bits) → is_held (L s) ≡ true → begins_held w L s ≡ true
    held_begins s h = begins_of_held w L s [] (omega arith) (ap (λ x. is_held (L x)) (append-nil s) ∙ h)

    longer : (left : ℕ) (c : Bool) (s : Bits) → length (c ∷ s) + left ≡ w → find m.tree (c ∷ s) < slots m.tree
        → begins_held w L (reverse (c ∷ s)) ≡ true
    longer zero c s l h =
        elim (busy c s (omega arith) h) [
          | inl begins ↦ begins
          | inr not-bare ↦
              elim (busy_why m (w - length (c ∷ s)) (find m.tree (c ∷ s)) not-bare) [
                | inl held ↦ held_begins (reverse (c ∷ s)) (holds (c ∷ s) (omega arith) held)
                | inr leads ↦ absurd (omega (arith, leads.bits_left))
              ]
        ]
    longer (suc left) c s l h =
        elim (busy c s (omega arith) h) [
          | inl begins ↦ begins
          | inr not-bare ↦
              elim (busy_why m (w - length (c ∷ s)) (find m.tree (c ∷ s)) not-bare) [
                | inl held ↦ held_begins (reverse (c ∷ s)) (holds (c ∷ s) (omega arith) held)
                | inr leads ↦
                    let next = longer left leads.side (c ∷ s) (omega arith) leads.leads in
                    begins_shorter w L (reverse (c ∷ s)) (leads.side ∷ [])
                    (omega (arith, length-append (reverse (c ∷ s)) (leads.side ∷ []), length-reverse (c ∷ s)))
                    (subst (λ x. begins_held w L x ≡ true) (reverse-cons leads.side (c ∷ s)) next)
              ]
        ]

    pub live : (c : Bool) (s : Bits) → length (c ∷ s) ≤ w → find m.tree (c ∷ s) < slots m.tree → begins_held w L (reverse (c ∷ s)) ≡ true
    live c s l h = longer (w - length (c ∷ s)) c s (omega arith) h
