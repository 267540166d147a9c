-- Where no slot may be taken, the ledger after the announcement needs more slots than there are: each slot has a string that
-- the ledger needs, and the next string of the announced prefix needs one more.
use mathlib.Core.Path.{◌≡◌, refl, sym, ap, subst, ◌∙◌}
use mathlib.Core.Logic.{◌⊎◌, inl, inr}
use mathlib.Core.Bool.{Bool, true, false, ◌||◌}
use mathlib.Core.List.{[], ◌∷◌, ◌++◌, append_assoc, reverse, reverse-append, reverse-reverse}
use Prim.Native.Nat.{ℕ, zero, suc, ◌+◌, ◌-◌, ◌≤◌, ◌<◌}
use native.Mathlib.Omega.{arith}
use lib.ListN.{length, length-append, length-reverse}
use Rattle.theory.specs.Bits.{Bits, same, front}
use Rattle.theory.specs.Ledger.{Ledger, is_held, announce}
use Rattle.theory.proofs.Hops.{by_test, never, or_right}
use Rattle.theory.proofs.Strings.{same_self}
use Rattle.rules.specs.Plain.{is_empty, begins_held, needs}
use Rattle.rules.proofs.Slots.{begins_of_held}
use Rattle.rules.proofs.Room.{needs_beyond}
use Rattle.memory.specs.Layout.{Tree, Memory, slots, Whole, child, find, hop_at, ledger_of}
use Rattle.memory.specs.Tidy.{bare}
use Rattle.memory.proofs.Find.{same_or, not_none, one_string, child_not_first}
use Rattle.memory.proofs.Ledger.{ledger_at}
use Rattle.memory.proofs.Room.{live}
use Rattle.editing.specs.Spare.{rises, idle, idle_with}
use Rattle.editing.proofs.Rising.{trail, rises_string, trail_string, placed}

-- a slot that may not be taken has a string
record Stringed (w : ℕ) (t : Tree) (k : ℕ) : Type 0 where
  string : Bits
  short : length string ≤ w
  there : find t string ≡ k

used_string : (w : ℕ) (m : Memory) (k left : ℕ) → rises m.tree w k ≡ left → idle_with m k left ≡ false → Stringed w m.tree k
used_string w m k zero e h = never refl h
used_string w m k (suc left) e h =
    let p = placed m.tree w left k e in
    record { string = p.string; short = omega (arith, p.bits); there = p.there }

module _ (w : ℕ) (m : Memory) (whole : Whole m) (s0 : Bits) (b : Bool) (r : Bits) (h : ℕ) (tip : ℕ) (there : find m.tree s0 ≡ tip)
    (slot-tip : tip < slots m.tree) (short : length (r ++ b ∷ s0) ≤ w) (no_child : child m.tree b tip ≡ slots m.tree)
    (full : (j : ℕ) → 0 < j → j < slots m.tree → (j ≡ tip → ⊥) → idle w m j ≡ false) where
  abbrev after : Ledger ℕ
  after = announce (ledger_of w m) (reverse (r ++ b ∷ s0)) h

  lengths : length (r ++ b ∷ s0) ≡ length r + suc (length s0)
  lengths = length-append r (b ∷ s0)

  -- what begins the announced prefix begins a held one
  begins_announced : (x y : Bits) → y ++ x ≡ r ++ b ∷ s0 → begins_held w after (reverse x) ≡ true
  begins_announced x y e =
      begins_of_held w after (reverse x) (reverse y)
      (omega (arith, length-reverse x, length-reverse y, length-append y x, ap length e))
      (ap (λ z. is_held (after z)) (sym (reverse-append y x) ∙ ap reverse e) ∙ rw (same_self (reverse (r ++ b ∷ s0))))

  still_held : (s : Bits) → length s ≤ w → is_held (hop_at m (find m.tree s)) ≡ true → is_held (after (reverse s)) ≡ true
  still_held s l e =
      let was : is_held (ledger_of w m (reverse s)) ≡ true =
      ap is_held (ledger_at w m (reverse s) (omega (arith, length-reverse s)) ∙ ap (λ x. hop_at m (find m.tree x)) (reverse-reverse s)) ∙ e in
      elim (by_test (same (reverse (r ++ b ∷ s0)) (reverse s))) [ inl q ↦ rw q | inr q ↦ rw q was ]

  busy : (c : Bool) (s : Bits) → length (c ∷ s) ≤ w → find m.tree (c ∷ s) < slots m.tree
      → (begins_held w after (reverse (c ∷ s)) ≡ true) ⊎ (bare m (w - length (c ∷ s)) (find m.tree (c ∷ s)) ≡ false)
  unfolding idle
  busy c s l slot =
      elim (same_or (find m.tree (c ∷ s)) tip) [
        | inl at-tip ↦
            let string : c ∷ s ≡ s0 = one_string m.tree whole.shaped (c ∷ s) s0 (at-tip ∙ sym there) slot in
            inl (subst (λ x. begins_held w after (reverse x) ≡ true) (sym string) (begins_announced s0 (r ++ b ∷ []) (append_assoc r (b ∷ []) s0)))
        | inr other ↦
            let used = full (find m.tree (c ∷ s)) (not_none _ (child_not_first m.tree whole.shaped c (find m.tree s))) slot other in
            inr (rw (rises_string m.tree whole.shaped w (c ∷ s) (find m.tree (c ∷ s)) refl slot l) at used)
      ]

  stringed : (j : ℕ) → j < slots m.tree → Stringed w m.tree j
  unfolding idle
  stringed j l =
      elim (same_or j 0) [
        | inl e ↦ record { string = []; short = omega arith; there = sym e }
        | inr e ↦
            elim (same_or j tip) [
              | inl at-tip ↦ record { string = s0; short = omega (arith, lengths); there = there ∙ sym at-tip }
              | inr other ↦ used_string w m j (rises m.tree w j) refl (full j (not_none j e) l other)
            ]
      ]

  abbrev string : ℕ → Bits
  string j = trail m.tree w j

  its_trail : (j : ℕ) (l : j < slots m.tree) → string j ≡ (stringed j l).string
  its_trail j l = trail_string m.tree whole.shaped w (stringed j l).string j (stringed j l).there l (stringed j l).short

  string_there : (j : ℕ) → j < slots m.tree → find m.tree (string j) ≡ j
  string_there j l = ap (find m.tree) (its_trail j l) ∙ (stringed j l).there

  needed : (s : Bits) → length s ≤ w → find m.tree s < slots m.tree → (is_empty (reverse s) || begins_held w after (reverse s)) ≡ true
  needed [] l slot = refl
  needed (c ∷ s) l slot = or_right (is_empty (reverse (c ∷ s))) _ (live w m whole after still_held busy c s l slot)

  pub needs_more : slots m.tree < needs w after
  needs_more =
      needs_beyond w (slots m.tree) after (λ j. reverse (string j))
      (λ j l. omega (arith, length-reverse (string j), ap length (its_trail j l), (stringed j l).short))
      (λ j l. needed (string j) (omega (arith, ap length (its_trail j l), (stringed j l).short)) (omega (arith, string_there j l)))
      (λ i j li lj e.
      let same-string : string i ≡ string j = sym (reverse-reverse (string i)) ∙ ap reverse e ∙ reverse-reverse (string j) in
      sym (string_there i li) ∙ ap (find m.tree) same-string ∙ string_there j lj)
      (reverse (b ∷ s0)) (omega (arith, length-reverse (b ∷ s0), lengths))
      (or_right (is_empty (reverse (b ∷ s0))) _ (begins_announced (b ∷ s0) r refl))
      (λ j l e.
      let same-string : string j ≡ b ∷ s0 = sym (reverse-reverse (string j)) ∙ ap reverse e ∙ reverse-reverse (b ∷ s0) in
      omega (arith, string_there j l, ap (find m.tree) same-string ∙ ap (child m.tree b) there ∙ no_child))

-- a path's first bits, and those behind them
pub front_more : (f : ℕ → Bool) (d e : ℕ) → d < e → (r : Bits) × (front f e ≡ r ++ f d ∷ front f d)
front_more f d zero l = absurd (omega arith)
front_more f d (suc e) l =
    elim (same_or d e) [
      | inl q ↦ ([], ap (λ x. f x ∷ front f x) (sym q))
      | inr q ↦ let more = front_more f d e (omega arith) in (f e ∷ more.0, ap (λ x. f e ∷ x) more.1)
    ]
