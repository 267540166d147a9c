-- Going up from a slot reaches slot 0 within w steps exactly when a string of at most w bits lies in the slot, since a mark
-- names the one parent and side that a link to the slot can count for.
use mathlib.Core.Path.{◌≡◌, refl, sym, ap, subst, ◌∙◌}
use mathlib.Core.Logic.{inl, inr}
use mathlib.Core.Bool.{Bool, true, false, cond}
use mathlib.Core.List.{[], ◌∷◌}
use Prim.Native.Nat.{ℕ, zero, suc, ◌+◌, ◌*◌, ◌-◌, ◌/◌, ◌%◌, ◌≤◌, ◌<◌}
use native.Mathlib.Nat.{sub-zero}
use native.Mathlib.Omega.{arith}
use lib.Dec.{ltb, eqb}
use lib.ListN.{length, get_or}
use borrow.Author.Tests.{ltb-true, eqb-true, eqb-false, lt-ltb, eq-eqb, ne_eqb, le-ltb}
use Rattle.theory.specs.Bits.{Bits}
use Rattle.theory.proofs.Hops.{by_test, and_both}
use Rattle.memory.specs.Layout.{Tree, Memory, slots, Shaped, link, mark, child, find}
use Rattle.memory.specs.Tidy.{bare}
use Rattle.memory.proofs.Find.{Counts, same_or, not_none, child_counts, counts_of, parent_below, mark_positive}
use Rattle.editing.specs.Spare.{parent_of, side_of, hangs, rises, idle_with, idle}

pub parent_mark : (u p : ℕ) (b : Bool) → u ≡ mark p b → (u - 1) / 2 ≡ p
parent_mark u p true e = omega arith
parent_mark u p false e = omega arith

side_mark : (u p : ℕ) (b : Bool) → u ≡ mark p b → eqb (u % 2) 0 ≡ b
side_mark u p true e = eq-eqb (u % 2) 0 (omega arith)
side_mark u p false e = ne_eqb (u % 2) 0 (λ q. omega arith)

mark_side_parent : (u : ℕ) → 0 < u → mark ((u - 1) / 2) (eqb (u % 2) 0) ≡ u
mark_side_parent u l =
    elim (by_test (eqb (u % 2) 0)) [
      | inl e ↦ rw e (omega (arith, eqb-true (u % 2) 0 e))
      | inr e ↦ let odd : u % 2 ≡ 0 → ⊥ = eqb-false (u % 2) 0 e in rw e (odd_mark u l odd)
    ]
  where
    odd_mark : (u : ℕ) → 0 < u → (u % 2 ≡ 0 → ⊥) → 2 * ((u - 1) / 2) + 1 ≡ u
    odd_mark u l odd = elim (same_or (u % 2) 0) [ inl q ↦ absurd (odd q) | inr q ↦ omega (arith, one_or_none (u % 2) (omega arith) q) ]
      where
        one_or_none : (x : ℕ) → x < 2 → (x ≡ 0 → ⊥) → x ≡ 1
        one_or_none zero l q = absurd (q refl)
        one_or_none (suc zero) l q = refl
        one_or_none (suc (suc x)) l q = absurd (omega arith)

-- the string that the marks spell on the way up
abbrev pub trail : Tree → ℕ → ℕ → Bits
trail t zero k = []
trail t (suc w) k = cond (eqb k 0) [] (side_of t k ∷ trail t w (parent_of t k))

module _ (t : Tree) where
  counts_parent : {b : Bool} {p c : ℕ} → Counts t b p c → parent_of t c ≡ p
  counts_parent {b} {p} {c} k = parent_mark (get_or t.up c 0) p b k.marked

  counts_side : {b : Bool} {p c : ℕ} → Counts t b p c → side_of t c ≡ b
  counts_side {b} {p} {c} k = side_mark (get_or t.up c 0) p b k.marked

  counts_hangs : {b : Bool} {p c : ℕ} → Counts t b p c → hangs t c ≡ true
  unfolding hangs
  counts_hangs {b} {p} {c} k =
      rw (lt-ltb 0 (get_or t.up c 0) (omega (arith, k.marked, mark_positive p b)), counts_side k, counts_parent k)
      (eq-eqb (link t b p) c k.linked)

  hangs_counts : (k : ℕ) → 0 < k → hangs t k ≡ true → Counts t (side_of t k) (parent_of t k) k
  unfolding hangs
  hangs_counts k l h =
      let both = and_both (ltb 0 (get_or t.up k 0)) (eqb (link t (side_of t k) (parent_of t k)) k) h in
      record {
        positive = l;
        linked = eqb-true (link t (side_of t k) (parent_of t k)) k both.1;
        marked = sym (mark_side_parent (get_or t.up k 0) (ltb-true 0 (get_or t.up k 0) both.0));
      }

  pub hangs_marked : (k : ℕ) → get_or t.up k 0 ≡ 0 → hangs t k ≡ false
  unfolding hangs
  hangs_marked k e = rw (e, le-ltb 0 0 (omega arith))

  pub rises_unmarked : (w k : ℕ) → 0 < k → get_or t.up k 0 ≡ 0 → rises t w k ≡ 0
  rises_unmarked zero k l e = rw (ne_eqb k 0 (λ q. omega arith))
  rises_unmarked (suc w) k l e = rw (ne_eqb k 0 (λ q. omega arith), hangs_marked k e)

  pub rises_none : (k : ℕ) → (k ≡ 0 → ⊥) → rises t 0 k ≡ 0
  rises_none k other = rw (ne_eqb k 0 other)

  -- u is the slot's mark, and x the link that it names
  module _ (w k u x : ℕ) (mark-is : u ≡ get_or t.up k 0) (link-is : x ≡ link t (eqb (u % 2) 0) ((u - 1) / 2)) (other : k ≡ 0 → ⊥) where
    named : x ≡ link t (side_of t k) (parent_of t k)
    named = link-is ∙ ap (λ v. link t (eqb (v % 2) 0) ((v - 1) / 2)) mark-is

    pub rises_lost : (x ≡ k → ⊥) → rises t w k ≡ 0
    rises_lost lost = lost_at w
      where
        lost_at : (w : ℕ) → rises t w k ≡ 0
        lost_at zero = rises_none k other
        lost_at (suc w) =
            elim (by_test (hangs t k)) [
              | inl h ↦ absurd (lost (named ∙ (hangs_counts k (not_none k other) h).linked))
              | inr h ↦ rw (ne_eqb k 0 other, h)
            ]

    pub rises_on : 0 < w → (u ≡ 0 → ⊥) → x ≡ k → rises t w k ≡ rises t (w - 1) ((u - 1) / 2)
    unfolding hangs
    rises_on l marked linked =
        let above : w ≡ suc (w - 1) = omega arith in
        ap (λ v. rises t v k) above
        ∙ rw (ne_eqb k 0 other, lt-ltb 0 (get_or t.up k 0) (omega (arith, not_none u marked)), eq-eqb (link t (side_of t k) (parent_of t k)) k (sym named ∙ linked))
        (ap (λ v. rises t (w - 1) ((v - 1) / 2)) (sym mark-is))

  module _ (shaped : Shaped t) where
    -- a string's slot rises with the bits that are left, and spells the string
    pub rises_string : (w : ℕ) (s : Bits) (k : ℕ) → find t s ≡ k → k < slots t → length s ≤ w → rises t w k ≡ suc (w - length s)
    rises_string zero [] k e l h = rw (← e)
    rises_string (suc w) [] k e l h = rw (← e) (ap suc (sym (sub-zero (suc w))))
    rises_string zero (b ∷ s) k e l h = absurd (omega arith)
    rises_string (suc w) (b ∷ s) k e l h =
        let c = subst (Counts t b (find t s)) e (counts_of t b (find t s) (omega arith)) in
        rw (ne_eqb k 0 (λ q. omega (arith, c.positive)), counts_hangs c, counts_parent c)
        (rises_string w s (find t s) refl (parent_below t shaped c) (omega arith) ∙ ap suc (omega arith))

    pub trail_string : (w : ℕ) (s : Bits) (k : ℕ) → find t s ≡ k → k < slots t → length s ≤ w → trail t w k ≡ s
    trail_string zero [] k e l h = refl
    trail_string (suc w) [] k e l h = rw (← e)
    trail_string zero (b ∷ s) k e l h = absurd (omega arith)
    trail_string (suc w) (b ∷ s) k e l h =
        let c = subst (Counts t b (find t s)) e (counts_of t b (find t s) (omega arith)) in
        rw (ne_eqb k 0 (λ q. omega (arith, c.positive)), counts_parent c, counts_side c)
        (ap (λ r. b ∷ r) (trail_string w s (find t s) refl (parent_below t shaped c) (omega arith)))

  -- where going up reaches slot 0, a string lies in the slot
  pub record Placed (w left k : ℕ) : Type 0 where
    pub string : Bits
    pub there : find t string ≡ k
    pub bits : length string + left ≡ w

  pub placed : (w left k : ℕ) → rises t w k ≡ suc left → Placed w left k
  placed zero left k e =
      elim (by_test (eqb k 0)) [
        | inl q ↦ let f : 1 ≡ suc left = rw q at e in record { string = []; there = sym (eqb-true k 0 q); bits = omega arith }
        | inr q ↦ let f : 0 ≡ suc left = rw q at e in absurd (omega arith)
      ]
  placed (suc w) left k e =
      elim (by_test (eqb k 0)) [
        | inl q ↦ let f : suc (suc w) ≡ suc left = rw q at e in record { string = []; there = sym (eqb-true k 0 q); bits = omega arith }
        | inr q ↦
            elim (by_test (hangs t k)) [
              | inl h ↦
                  let up-there = placed w left (parent_of t k) (rw (q, h) at e) in
                  record {
                    string = side_of t k ∷ up-there.string;
                    there = ap (child t (side_of t k)) up-there.there
                        ∙ child_counts t (side_of t k) (parent_of t k) k (hangs_counts k (not_none k (eqb-false k 0 q)) h);
                    bits = omega (arith, up-there.bits);
                  }
              | inr h ↦ let f : 0 ≡ suc left = rw (q, h) at e in absurd (omega arith)
            ]
      ]

-- A SLOT THAT MAY BE TAKEN, as code finds it out
module _ (w : ℕ) (m : Memory) (k : ℕ) where
  pub idle_unplaced : rises m.tree w k ≡ 0 → idle w m k ≡ true
  unfolding idle
  idle_unplaced e = rw e

  pub idle_placed : (left : ℕ) → rises m.tree w k ≡ suc left → idle w m k ≡ bare m left k
  unfolding idle
  idle_placed left e = ap (idle_with m k) e

  pub idle_unmarked : 0 < k → get_or m.tree.up k 0 ≡ 0 → idle w m k ≡ true
  idle_unmarked l e = idle_unplaced (rises_unmarked m.tree w k l e)
