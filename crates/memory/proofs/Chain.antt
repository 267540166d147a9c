-- The chain of free slots when its first slot is taken, when a slot is freed, and in zeroed memory. So in tidy memory the first
-- slot of the chain is free as long as any is: nothing has to be searched for before the memory is full.
use Rattle.std.proofs.Common.{◌≡◌, ℕ, zero, suc, ◌+◌, ◌-◌, ◌<◌, ◌≤◌, true, false, cond, eqb, ltb, List, [], ◌∷◌, get_or, sym, refl, ap, ◌∙◌, subst, inl, inr, add-one, arith, le-ltb, lt-ltb, eq-eqb, ne_eqb}
use borrow.Author.Tests.{eqb-false}
use Rattle.theory.proofs.Hops.{by_test, never}
use Rattle.memory.specs.Layout.{Tree, slots}
use Rattle.memory.specs.Tidy.{head_of, behind, listed, ChainFrom, ends, goes_on, Chained}
use Rattle.memory.proofs.Find.{same_or, below_or, not_none}

-- membership in a list of slots
listed_first : (k : ℕ) (ks : List ℕ) → listed k (k ∷ ks) ≡ true
listed_first k ks = rw (eq-eqb k k refl)

listed_later : (j k : ℕ) (ks : List ℕ) → listed j ks ≡ true → listed j (k ∷ ks) ≡ true
listed_later j k ks e = elim (by_test (eqb j k)) [ inl q ↦ rw q | inr q ↦ rw q e ]

listed_other : (j k : ℕ) (ks : List ℕ) → (j ≡ k → ⊥) → listed j (k ∷ ks) ≡ true → listed j ks ≡ true
listed_other j k ks other e = let f : listed j ks ≡ true = rw (ne_eqb j k other) at e in f

-- one that is listed is not one that is not
listed_apart : (j k : ℕ) (ks : List ℕ) → listed j ks ≡ true → listed k ks ≡ false → j ≡ k → ⊥
listed_apart j k ks e f q = never e (ap (λ x. listed x ks) q ∙ f)

module _ (t : Tree) where
  -- a chain's slots are free
  pub chain_free : (x : ℕ) (ks : List ℕ) → ChainFrom t x ks → (j : ℕ) → listed j ks ≡ true → (0 < j) × (get_or t.up j 0 ≡ 0)
  chain_free x [] (ends l) j e = never e refl
  chain_free x (k ∷ ks) (goes_on p l free once rest) j e =
      elim (same_or j k) [
        | inl q ↦ (omega arith, ap (λ y. get_or t.up y 0) q ∙ free)
        | inr q ↦ chain_free (behind t k) ks rest j (listed_other j k ks q e)
      ]

  -- where a slot is free, the chain's first is
  head_free : (x : ℕ) (ks : List ℕ) → ChainFrom t x ks → (j : ℕ) → listed j ks ≡ true → (0 < x) × (x < slots t) × (get_or t.up x 0 ≡ 0)
  head_free x [] (ends l) j e = never e refl
  head_free x (k ∷ ks) (goes_on p l free once rest) j e = (p, l, free)

  pub chained_head : Chained t → (j : ℕ) → 0 < j → j < slots t → get_or t.up j 0 ≡ 0
      → (0 < head_of t) × (head_of t < slots t) × (get_or t.up (head_of t) 0 ≡ 0)
  chained_head c j p l free = head_free (head_of t) c.order c.chain j (c.all j p l free)

behind_positive : (t : Tree) (k : ℕ) → 0 < behind t k
behind_positive t k =
    elim (by_test (eqb (get_or t.lo k 0) 0)) [
      | inl e ↦ rw e (omega arith)
      | inr e ↦ rw e (not_none (get_or t.lo k 0) (eqb-false (get_or t.lo k 0) 0 e))
    ]

head_is : (t : Tree) (x : ℕ) → get_or t.up 0 0 ≡ x → 0 < x → head_of t ≡ x
head_is t x e l = rw (ne_eqb (get_or t.up 0 0) 0 (λ q. omega arith)) e

module _ (t t' : Tree) (same_slots : slots t' ≡ slots t) where
  -- a chain whose slots were not touched is a chain still
  chain_kept : (x : ℕ) (ks : List ℕ) → ChainFrom t x ks
      → ((j : ℕ) → listed j ks ≡ true → (get_or t'.up j 0 ≡ get_or t.up j 0) × (get_or t'.lo j 0 ≡ get_or t.lo j 0))
      → ChainFrom t' x ks
  chain_kept x [] (ends l) same = ends {k = x} (omega arith)
  chain_kept x (k ∷ ks) (goes_on p l free once rest) same =
      let here = same k (listed_first k ks) in
      goes_on p (omega arith) (here.0 ∙ free) once
      (subst (λ y. ChainFrom t' y ks) (ap (λ v. cond (eqb v 0) (k + 1) v) (sym here.1))
      (chain_kept (behind t k) ks rest (λ j e. same j (listed_later j k ks e))))

  -- THE FIRST SLOT TAKEN
  module _ (k : ℕ) (first : head_of t ≡ k) (slot : k < slots t)
      (head' : get_or t'.up 0 0 ≡ cond (ltb (behind t k) (slots t)) (behind t k) (slots t))
      (others : (j : ℕ) → 0 < j → (j ≡ k → ⊥) → get_or t.up j 0 ≡ 0 → (get_or t'.up j 0 ≡ get_or t.up j 0) × (get_or t'.lo j 0 ≡ get_or t.lo j 0))
      (free-before : (j : ℕ) → 0 < j → get_or t'.up j 0 ≡ 0 → (j ≡ k → ⊥) × (get_or t.up j 0 ≡ 0)) where
    -- the chain goes on from the slot behind
    new_head : (ks : List ℕ) → ChainFrom t (behind t k) ks → ChainFrom t' (behind t k) ks → ChainFrom t' (head_of t') ks
    new_head ks rest rest' =
        elim (below_or (behind t k) (slots t)) [
          | inl l ↦
              let head-there : get_or t'.up 0 0 ≡ behind t k = head' ∙ rw (lt-ltb (behind t k) (slots t) l) in
              subst (λ y. ChainFrom t' y ks) (sym (head_is t' (behind t k) head-there (behind_positive t k))) rest'
          | inr l ↦
              let head-there : get_or t'.up 0 0 ≡ slots t = head' ∙ rw (le-ltb (behind t k) (slots t) l) in
              at_end ks rest l (head_is t' (slots t) head-there (omega arith))
        ]
      where
        at_end : (ks : List ℕ) → ChainFrom t (behind t k) ks → slots t ≤ behind t k → head_of t' ≡ slots t → ChainFrom t' (head_of t') ks
        at_end [] (ends q) l e = ends {k = head_of t'} (omega arith)
        at_end (j ∷ js) (goes_on p q free once more) l e = absurd (omega arith)

    taken_from : (x : ℕ) (order : List ℕ) → x ≡ k → ChainFrom t x order
        → ((j : ℕ) → 0 < j → j < slots t → get_or t.up j 0 ≡ 0 → listed j order ≡ true) → Chained t'
    taken_from x [] e (ends l) all = absurd (omega arith)
    taken_from x (y ∷ ks) e (goes_on p l free once rest) all =
        let onwards : ChainFrom t (behind t k) ks = subst (λ z. ChainFrom t (behind t z) ks) e rest in
        let once-k : listed k ks ≡ false = subst (λ z. listed z ks ≡ false) e once in
        record {
          order = ks;
          chain = new_head ks onwards
              (chain_kept (behind t k) ks onwards
              (λ j q. let f = chain_free t (behind t k) ks onwards j q in others j f.0 (listed_apart j k ks q once-k) f.1));
          all = λ j q r s.
              let before = free-before j q s in
              listed_other j y ks (λ z. before.0 (z ∙ e)) (all j q (omega arith) before.1);
        }

    pub chain_taken : Chained t → Chained t'
    chain_taken c = taken_from (head_of t) c.order first c.chain c.all

  -- A SLOT FREED: it is the first of the chain
  module _ (k : ℕ) (positive : 0 < k) (slot : k < slots t) (was-used : 0 < get_or t.up k 0)
      (head' : get_or t'.up 0 0 ≡ k) (free' : get_or t'.up k 0 ≡ 0) (next' : get_or t'.lo k 0 ≡ head_of t)
      (others : (j : ℕ) → 0 < j → (j ≡ k → ⊥) → get_or t.up j 0 ≡ 0 → (get_or t'.up j 0 ≡ get_or t.up j 0) × (get_or t'.lo j 0 ≡ get_or t.lo j 0))
      (free-before : (j : ℕ) → 0 < j → (j ≡ k → ⊥) → get_or t'.up j 0 ≡ 0 → get_or t.up j 0 ≡ 0) where
    head_positive : 0 < head_of t
    head_positive =
        elim (by_test (eqb (get_or t.up 0 0) 0)) [
          | inl e ↦ rw e (omega arith)
          | inr e ↦ rw e (not_none (get_or t.up 0 0) (eqb-false (get_or t.up 0 0) 0 e))
        ]

    pub chain_freed : Chained t → Chained t'
    chain_freed c =
        let not_listed : listed k c.order ≡ false =
        elim (by_test (listed k c.order)) [
          | inl e ↦ absurd (omega (arith, (chain_free t (head_of t) c.order c.chain k e).1))
          | inr e ↦ e
        ] in
        let next-there : behind t' k ≡ head_of t =
        rw (ne_eqb (get_or t'.lo k 0) 0 (λ e. omega (arith, head_positive, next'))) next' in
        let rest : ChainFrom t' (head_of t) c.order =
        chain_kept (head_of t) c.order c.chain
        (λ j q. let f = chain_free t (head_of t) c.order c.chain j q in others j f.0 (listed_apart j k c.order q not_listed) f.1) in
        record {
          order = k ∷ c.order;
          chain = subst (λ y. ChainFrom t' y (k ∷ c.order)) (sym (head_is t' k head' positive))
              (goes_on positive (omega arith) free' not_listed (subst (λ y. ChainFrom t' y c.order) (sym next-there) rest));
          all = λ j q r s.
              elim (same_or j k) [
                | inl e ↦ rw (eq-eqb j k e)
                | inr e ↦ listed_later j k c.order (c.all j q (omega arith) (free-before j q e s))
              ];
        }

-- ZEROED MEMORY: 1, 2, 3 and so on
abbrev slots_from : ℕ → ℕ → List ℕ
slots_from x zero = []
slots_from x (suc n) = x ∷ slots_from (suc x) n

from_listed : (x n j : ℕ) → x ≤ j → j < x + n → listed j (slots_from x n) ≡ true
from_listed x zero j l h = absurd (omega arith)
from_listed x (suc n) j l h =
    elim (same_or j x) [
      | inl e ↦ rw (eq-eqb j x e)
      | inr e ↦ rw (ne_eqb j x e) (from_listed (suc x) n j (omega arith) (omega arith))
    ]

from_not_listed : (x n j : ℕ) → j < x → listed j (slots_from x n) ≡ false
from_not_listed x zero j l = refl
from_not_listed x (suc n) j l = rw (ne_eqb j x (λ e. omega arith)) (from_not_listed (suc x) n j (omega arith))

module _ (t : Tree) (no_mark : (k : ℕ) → get_or t.up k 0 ≡ 0) (no-lo : (k : ℕ) → get_or t.lo k 0 ≡ 0) where
  zero_chain : (x n : ℕ) → 0 < x → x + n ≡ slots t → ChainFrom t x (slots_from x n)
  zero_chain x zero p e = ends {k = x} (omega arith)
  zero_chain x (suc n) p e =
      goes_on p (omega arith) (no_mark x) (from_not_listed (suc x) n x (omega arith))
      (subst (λ y. ChainFrom t y (slots_from (suc x) n)) (sym (rw (no-lo x) (add-one x))) (zero_chain (suc x) n (omega arith) (omega arith)))

  pub zeros_chained : 0 < slots t → Chained t
  zeros_chained some_slot = record {
    order = slots_from 1 (slots t - 1);
    chain = rw (no_mark 0) (zero_chain 1 (slots t - 1) (omega arith) (omega arith));
    all = λ k p l free. from_listed 1 (slots t - 1) k (omega arith) (omega arith);
  }
