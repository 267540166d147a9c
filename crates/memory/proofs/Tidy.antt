-- Tidy memory is fixed by its ledger, but for which slot a string lies in and the chain: a string has a slot exactly when the
-- ledger needs it, and a slot's number is that of what is held.
use Rattle.std.proofs.Common.{◌≡◌, ℕ, ◌+◌, ◌-◌, ◌<◌, ◌≤◌, Bool, true, false, [], ◌∷◌, reverse, length, get_or, sym, ap, ◌∙◌, subst, inl, inr, arith}
use mathlib.Core.List.{reverse-reverse}
use mathlib.Core.Option.{Option, none, some}
use lib.ListN.{length-reverse}
use Rattle.theory.specs.Bits.{Bits}
use Rattle.theory.specs.Ledger.{is_held}
use Rattle.rules.specs.Plain.{begins_held}
use Rattle.memory.specs.Layout.{Memory, slots, Whole, find, read_hop, hop_at, ledger_of}
use Rattle.memory.specs.Tidy.{bare, Used, Tidy, SameButSlots}
use Rattle.memory.proofs.Find.{below_or, mark_positive, counts_of, find_le, child_not_first, one_string}
use Rattle.memory.proofs.Ledger.{held_stored, ledger_at}
use Rattle.memory.proofs.Room.{begins_slot, live}

-- a number that stands for a hop is that hop and 1
stored_hop : (v h : ℕ) → read_hop v ≡ some h → v ≡ h + 1
stored_hop v h e =
    let held = held_stored v (ap is_held e) in
    let same-hop : some (v - 1) ≡ some h = sym held.1 ∙ e in
    let taken-off : v - 1 ≡ h = cc in
    omega (arith, held.0)

module _ (w : ℕ) (m : Memory) (whole : Whole m) (tidy : Tidy w m) where
  -- the slot of a string in use is that of no other and is busy
  used : (c : Bool) (s : Bits) → find m.tree (c ∷ s) < slots m.tree → Used w m (find m.tree (c ∷ s))
  used c s l =
      let n = counts_of m.tree c (find m.tree s) l in
      elim (tidy.each_slot (find m.tree (c ∷ s)) n.positive l (child_not_first m.tree whole.shaped c (find m.tree s))) [
        | inl free ↦ absurd (omega (arith, n.marked, mark_positive (find m.tree s) c, free.no_mark))
        | inr u ↦ u
      ]

  its_string : (c : Bool) (s : Bits) (l : find m.tree (c ∷ s) < slots m.tree) → (used c s l).string ≡ c ∷ s
  its_string c s l =
      one_string m.tree whole.shaped (used c s l).string (c ∷ s) (used c s l).there
      (subst (λ k. k < slots m.tree) (sym (used c s l).there) l)

  busy : (c : Bool) (s : Bits) (l : find m.tree (c ∷ s) < slots m.tree) → bare m (w - length (c ∷ s)) (find m.tree (c ∷ s)) ≡ false
  busy c s l = subst (λ r. bare m (w - length r) (find m.tree (c ∷ s)) ≡ false) (its_string c s l) (used c s l).busy

  -- A STRING WITH A SLOT is one that the ledger needs
  pub slot_begins : (c : Bool) (s : Bits) → length (c ∷ s) ≤ w → find m.tree (c ∷ s) < slots m.tree
      → begins_held w (ledger_of w m) (reverse (c ∷ s)) ≡ true
  slot_begins c s short l =
      live w m whole (ledger_of w m)
      (λ r q held.
      ap is_held (ledger_at w m (reverse r) (omega (arith, length-reverse r)) ∙ ap (λ x. hop_at m (find m.tree x)) (reverse-reverse r)) ∙ held)
      (λ d r q slot. inr (busy d r slot)) c s short l

  pub long_none : (s : Bits) → w < length s → find m.tree s ≡ slots m.tree
  long_none [] l = absurd (omega arith)
  long_none (c ∷ s) l =
      elim (below_or (find m.tree (c ∷ s)) (slots m.tree)) [
        | inl slot ↦ absurd (omega (arith, (used c s slot).short, ap length (its_string c s slot)))
        | inr none-there ↦ omega (arith, find_le m.tree whole.shaped (c ∷ s))
      ]

  pub stored_plain : (k : ℕ) (o : Option ℕ) → hop_at m k ≡ o → (n : ℕ) → (b : Memory) → Tidy w b → hop_at b n ≡ o → get_or m.hop k 0 ≡ get_or b.hop n 0
  stored_plain k none e n b tb q = tidy.plain k e ∙ sym (tb.plain n q)
  stored_plain k (some h) e n b tb q = stored_hop (get_or m.hop k 0) h e ∙ sym (stored_hop (get_or b.hop n 0) h q)

has_slot : (w : ℕ) (a b : Memory) → Whole a → Whole b → Tidy w a → ledger_of w a ≡ ledger_of w b → (s : Bits) → length s ≤ w
    → find a.tree s < slots a.tree → find b.tree s < slots b.tree
has_slot w a b wa wb ta same [] short l = wb.shaped.some_slot
has_slot w a b wa wb ta same (c ∷ s) short l =
    let begins = slot_begins w a wa ta c s short l in
    subst (λ x. find b.tree x < slots b.tree) (reverse-reverse (c ∷ s))
    (begins_slot w b wb (reverse (c ∷ s)) (subst (λ L. begins_held w L (reverse (c ∷ s)) ≡ true) same begins))

-- TWO TIDY MEMORIES WITH ONE LEDGER are the same but for slots and hints
pub tidy_same : (w : ℕ) (a b : Memory) → Whole a → Whole b → Tidy w a → Tidy w b → ledger_of w a ≡ ledger_of w b → SameButSlots w a b
tidy_same w a b wa wb ta tb same = record {
  tidy_a = ta;
  tidy_b = tb;
  same_strings = λ s short. (has_slot w a b wa wb ta same s short, has_slot w b a wb wa tb (sym same) s short);
  same_hops = λ s short.
      let held-a = ledger_at w a (reverse s) (omega (arith, length-reverse s)) ∙ ap (λ x. hop_at a (find a.tree x)) (reverse-reverse s) in
      let held-b = ledger_at w b (reverse s) (omega (arith, length-reverse s)) ∙ ap (λ x. hop_at b (find b.tree x)) (reverse-reverse s) in
      stored_plain w a wa ta (find a.tree s) (ledger_of w a (reverse s)) (sym held-a) (find b.tree s) b tb
      (sym held-b ∙ ap (λ L. L (reverse s)) (sym same));
  no_longer = λ s l. (long_none w a wa ta s l, long_none w b wb tb s l);
}
