-- What is read from slot 0 on is a tree: a link that counts is marked with its parent and its side, so a slot has one string.
use Rattle.std.proofs.Common.{◌≡◌, ℕ, zero, suc, ◌+◌, ◌<◌, ◌≤◌, Bool, true, false, ◌&&◌, eqb, ltb, leb, ◌⊎◌, List, [], ◌∷◌, length, get_or, sym, refl, ap, ◌∙◌, subst, ap₂, inl, inr, add-one, arith, ltb-true, lt-ltb, eq-eqb, eqb-true, leb-false, leb-true}
use lib.ListN.{get_or-eq_default}
use borrow.Author.Tests.{eqb-false}
use Rattle.theory.specs.Bits.{Bits, front}
use Rattle.theory.proofs.Hops.{by_test, and_both}
use Rattle.memory.specs.Layout.{Tree, slots, Shaped, link, mark, child, find}

-- two numbers are equal or not; a number is below another or not
pub same_or : (a b : ℕ) → (a ≡ b) ⊎ (a ≡ b → ⊥)
same_or a b = elim (by_test (eqb a b)) [ inl e ↦ inl (eqb-true a b e) | inr e ↦ inr (eqb-false a b e) ]

pub below_or : (a b : ℕ) → (a < b) ⊎ (b ≤ a)
below_or a b = elim (by_test (leb b a)) [ inl e ↦ inr (leb-true b a e) | inr e ↦ inl (leb-false b a e) ]

pub strictly : (a b : ℕ) → a ≤ b → (a ≡ b → ⊥) → a < b
strictly a b l h = elim (below_or a b) [ inl q ↦ q | inr q ↦ absurd (h (omega arith)) ]

pub not_none : (k : ℕ) → (k ≡ 0 → ⊥) → 0 < k
not_none k h = strictly 0 k (omega arith) (λ e. h (sym e))

-- an element that is not 0 stands within its list
pub within : (l : List ℕ) (k : ℕ) → 0 < get_or l k 0 → k < length l
within l k h = elim (below_or k (length l)) [ inl e ↦ e | inr e ↦ absurd (omega (arith, get_or-eq_default l 0 e)) ]

-- A LINK THAT COUNTS
pub record Counts (t : Tree) (b : Bool) (p c : ℕ) : Type 0 where
  pub positive : 0 < c
  pub linked : link t b p ≡ c
  pub marked : get_or t.up c 0 ≡ mark p b

pub mark_positive : (p : ℕ) (b : Bool) → 0 < mark p b
mark_positive p true = omega arith
mark_positive p false = omega arith

pub mark_parent : (p q : ℕ) (b c : Bool) → mark p b ≡ mark q c → p ≡ q
mark_parent p q true true e = omega arith
mark_parent p q true false e = absurd (omega arith)
mark_parent p q false true e = absurd (omega arith)
mark_parent p q false false e = omega arith

pub mark_side : (p q : ℕ) (b c : Bool) → mark p b ≡ mark q c → b ≡ c
mark_side p q true true e = refl
mark_side p q true false e = absurd (omega arith)
mark_side p q false true e = absurd (omega arith)
mark_side p q false false e = refl

-- one step down a path
pub step_front : (t : Tree) (f : ℕ → Bool) (d : ℕ) {p c : ℕ} {b : Bool} → p ≡ find t (front f d) → b ≡ f d → c ≡ child t b p
    → c ≡ find t (front f (d + 1))
step_front t f d e q h = rw add-one (h ∙ ap₂ (child t) q e)

module _ (t : Tree) (b : Bool) (p : ℕ) where
  -- a child is none, or a slot whose link counts
  pub child_view : (child t b p ≡ slots t) ⊎ Counts t b p (child t b p)
  unfolding child
  child_view =
      elim (by_test (ltb 0 (link t b p) && eqb (get_or t.up (link t b p) 0) (mark p b))) [
        | inl e ↦
            let both = and_both (ltb 0 (link t b p)) (eqb (get_or t.up (link t b p) 0) (mark p b)) e in
            rw e (inr record { positive = ltb-true 0 (link t b p) both.0; linked = refl; marked = eqb-true _ _ both.1 })
        | inr e ↦ rw e (inl refl)
      ]

  pub child_counts : (c : ℕ) → Counts t b p c → child t b p ≡ c
  unfolding child
  child_counts c k =
      let marks : get_or t.up (link t b p) 0 ≡ mark p b = rw k.linked k.marked in
      let more : 0 < link t b p = rw k.linked k.positive in
      rw (lt-ltb 0 (link t b p) more, eq-eqb (get_or t.up (link t b p) 0) (mark p b) marks) k.linked

  pub counts_below : (c : ℕ) → Counts t b p c → c < slots t
  counts_below c k = within t.up c (omega (arith, k.marked, mark_positive p b))

  pub child_le : child t b p ≤ slots t
  child_le = elim child_view [ inl e ↦ omega arith | inr k ↦ omega (arith, counts_below (child t b p) k) ]

  -- a child below the slots counts
  pub counts_of : child t b p < slots t → Counts t b p (child t b p)
  counts_of l = elim child_view [ inl e ↦ absurd (omega arith) | inr k ↦ k ]

  -- the one link that could count, and does not
  pub child_none : (c : ℕ) → c ≡ link t b p → (Counts t b p c → ⊥) → slots t ≡ child t b p
  child_none c e h =
      elim child_view [
        | inl n ↦ sym n
        | inr k ↦ absurd (h (subst (Counts t b p) (sym k.linked ∙ sym e) k))
      ]

  pub none_of : ((c : ℕ) → Counts t b p c → ⊥) → child t b p ≡ slots t
  none_of h = elim child_view [ inl e ↦ e | inr k ↦ absurd (h (child t b p) k) ]

-- a parent is a slot, and what is no slot has no child
module _ (t : Tree) (shaped : Shaped t) where
  pub link_below : (b : Bool) (p : ℕ) → 0 < link t b p → p < slots t
  link_below true p h = omega (arith, within t.hi p h, shaped.his)
  link_below false p h = omega (arith, within t.lo p h, shaped.los)

  pub link_outside : (b : Bool) (p : ℕ) → slots t ≤ p → link t b p ≡ 0
  link_outside b p l = elim (same_or (link t b p) 0) [ inl e ↦ e | inr e ↦ absurd (omega (arith, link_below b p (not_none (link t b p) e))) ]

  pub parent_below : {b : Bool} {p c : ℕ} → Counts t b p c → p < slots t
  parent_below {b} {p} k = link_below b p (omega (arith, k.positive, k.linked))

  pub none_below : (b : Bool) (p : ℕ) → slots t ≤ p → child t b p ≡ slots t
  none_below b p h = none_of t b p (λ c k. omega (arith, parent_below k))

  pub find_le : (s : Bits) → find t s ≤ slots t
  find_le [] = omega (arith, shaped.some_slot)
  find_le (b ∷ s) = child_le t b (find t s)

  -- only the empty string lies in slot 0
  pub child_not_first : (b : Bool) (p : ℕ) → child t b p ≡ 0 → ⊥
  child_not_first b p e = elim (child_view t b p) [ inl n ↦ omega (arith, shaped.some_slot) | inr k ↦ omega (arith, k.positive) ]

  -- A SLOT HAS ONE STRING
  pub one_string : (s r : Bits) → find t s ≡ find t r → find t s < slots t → s ≡ r
  one_string [] [] e l = refl
  one_string [] (c ∷ r) e l = absurd (child_not_first c (find t r) (sym e))
  one_string (b ∷ s) [] e l = absurd (child_not_first b (find t s) e)
  one_string (b ∷ s) (c ∷ r) e l =
      let k = counts_of t b (find t s) l in
      let j = counts_of t c (find t r) (omega arith) in
      let marks : mark (find t s) b ≡ mark (find t r) c = sym k.marked ∙ ap (λ x. get_or t.up x 0) e ∙ j.marked in
      ap₂ (λ x q. x ∷ q) (mark_side (find t s) (find t r) b c marks)
      (one_string s r (mark_parent (find t s) (find t r) b c marks) (parent_below k))

  -- where a path's first bits have no slot, more of them have none
  pub none_deeper : (f : ℕ → Bool) (d e : ℕ) → find t (front f d) ≡ slots t → d ≤ e → find t (front f e) ≡ slots t
  none_deeper f d e h l =
      elim (same_or d e) [
        | inl q ↦ subst (λ (x : ℕ). find t (front f x) ≡ slots t) q h
        | inr q ↦ further f d e h (omega arith)
      ]
    where
      further : (f : ℕ → Bool) (d e : ℕ) → find t (front f d) ≡ slots t → d < e → find t (front f e) ≡ slots t
      further f d zero h l = absurd (omega arith)
      further f d (suc e) h l =
          elim (same_or d e) [
            | inl q ↦ none_below (f e) (find t (front f e)) (omega (arith, subst (λ (x : ℕ). find t (front f x) ≡ slots t) q h))
            | inr q ↦ none_below (f e) (find t (front f e)) (omega (arith, further f d e h (omega arith)))
          ]
