-- A trie of at most w bits says of itself what the definitions say of its ledger: slots, sets and the table.
use mathlib.Core.Path.{◌≡◌, refl, sym, ap, ap₂, ◌∙◌, subst, subst₂, fun_ext}
use mathlib.Core.Bool.{Bool, true, false, cond, ◌&&◌, ◌||◌}
use mathlib.Core.List.{List, [], ◌∷◌, ◌++◌, append-nil}
use mathlib.Core.Option.{Option, none, some}
use Prim.Native.Nat.{ℕ, zero, suc, ◌+◌, ◌<◌}
use lib.ListN.{length}
use borrow.Author.Tests.{ltb-true}
use Rattle.theory.specs.Bits.{Bits, same}
use Rattle.theory.specs.Hops.{Hops, only, join}
use Rattle.theory.specs.Ledger.{is_held, or_else}
use Rattle.theory.specs.Smallest.{Leaves, set_of, choose, entry, here, under, table}
use Rattle.theory.specs.Theorem.{leaves}
use Rattle.theory.proofs.Hops.{never, and_both, only_allowed, join_same}
use Rattle.theory.proofs.Sets.{set_of_leaves, table_of_leaves, choose_member}
use Rattle.theory.proofs.OneHop.{longest_nothing, set_throughout, table_throughout}
use Rattle.rules.specs.Plain.{needs}
use Rattle.rules.proofs.Slots.{live, live_down, live_nothing, used, used_down, used_nothing, needs_zero, needs_down, needs_nothing}
use Rattle.cases.specs.Trie.{Trie, bare, node, as_ledger, put, is_bare, hop_below, within, live_in, used_in, needs_in, member, only_in, join_in, least_in, set_in, choose_in, entry_in, table_in}
use Rattle.cases.proofs.Vectors.{only_in_lem, only_length, join_in_lem, join_length, least_in_lem}

-- What is put is held there, and the rest stays.
put_at : (p : Bits) (o : Option ℕ) (t : Trie) (s : Bits) → as_ledger (put p o t) s ≡ cond (same p s) o (as_ledger t s)
put_at [] o bare [] = refl
put_at [] o bare (false ∷ s) = refl
put_at [] o bare (true ∷ s) = refl
put_at [] o (node q l r) [] = refl
put_at [] o (node q l r) (false ∷ s) = refl
put_at [] o (node q l r) (true ∷ s) = refl
put_at (false ∷ p) o bare [] = refl
put_at (false ∷ p) o bare (false ∷ s) = put_at p o bare s
put_at (false ∷ p) o bare (true ∷ s) = refl
put_at (false ∷ p) o (node q l r) [] = refl
put_at (false ∷ p) o (node q l r) (false ∷ s) = put_at p o l s
put_at (false ∷ p) o (node q l r) (true ∷ s) = refl
put_at (true ∷ p) o bare [] = refl
put_at (true ∷ p) o bare (false ∷ s) = refl
put_at (true ∷ p) o bare (true ∷ s) = put_at p o bare s
put_at (true ∷ p) o (node q l r) [] = refl
put_at (true ∷ p) o (node q l r) (false ∷ s) = refl
put_at (true ∷ p) o (node q l r) (true ∷ s) = put_at p o r s

pub put_is : (p : Bits) (o : Option ℕ) (t : Trie) → as_ledger (put p o t) ≡ (λ s. cond (same p s) o (as_ledger t s))
put_is p o t = fun_ext (put_at p o t)

-- The parts of a trie that is within its bounds.
bare_is : (t : Trie) → is_bare t ≡ true → t ≡ bare
bare_is bare e = refl
bare_is (node o l r) e = never e refl

-- proofs go by the shape: bare, a node of no width with nothing below, or a node with two parts
module _ (n : ℕ) (P : ℕ → Trie → Type 0)
    (on-bare : (w : ℕ) → P w bare)
    (on-end : (o : Option ℕ) → hop_below n o ≡ true → P zero (node o bare bare))
    (on-node : (w : ℕ) (o : Option ℕ) (l r : Trie) → hop_below n o ≡ true → P w l → P w r → P (suc w) (node o l r)) where
  by_shape : (w : ℕ) (t : Trie) → within n w t ≡ true → P w t
  by_shape w bare e = on-bare w
  by_shape zero (node o l r) e =
      let a = and_both (hop_below n o) (is_bare l && is_bare r) e in
      let b = and_both (is_bare l) (is_bare r) a.1 in
      subst₂ (λ x y. P zero (node o x y)) (sym (bare_is l b.0)) (sym (bare_is r b.1)) (on-end o a.0)
  by_shape (suc w) (node o l r) e =
      let a = and_both (hop_below n o) (within n w l && within n w r) e in
      let b = and_both (within n w l) (within n w r) a.1 in
      on-node w o l r a.0 (by_shape w l b.0) (by_shape w r b.1)

-- Slots.
abbrev CountsAs : ℕ → Trie → Type 0
CountsAs w t = (live w (as_ledger t) ≡ live_in t) × (used w (as_ledger t) ≡ used_in t)

pub counts_in : (n w : ℕ) (t : Trie) → within n w t ≡ true → CountsAs w t
counts_in n = by_shape n CountsAs (λ w. (live_nothing ℕ w, used_nothing ℕ w))
    (λ o h. elim o as (λ o. CountsAs zero (node o bare bare)) [ none ↦ (refl, refl) | some x ↦ (refl, refl) ])
    (λ w o l r h p q.
    let a : live (suc w) (as_ledger (node o l r)) ≡ live_in (node o l r) =
    live_down w (as_ledger (node o l r)) ∙ ap₂ (λ b c. is_held o || (b || c)) p.0 q.0 in
    (a, used_down w (as_ledger (node o l r)) ∙ ap₂ (λ b k. cond b 1 0 + k) a (ap₂ ◌+◌ p.1 q.1)))

pub needs_in_lem : (n w : ℕ) (t : Trie) → within n w t ≡ true → needs w (as_ledger t) ≡ needs_in t
needs_in_lem n w bare e = needs_nothing ℕ w
needs_in_lem n zero (node o l r) e =
    let b = and_both (is_bare l) (is_bare r) (and_both (hop_below n o) (is_bare l && is_bare r) e).1 in
    needs_zero (as_ledger (node o l r)) ∙ ap₂ (λ x y. 1 + (used_in x + used_in y)) (sym (bare_is l b.0)) (sym (bare_is r b.1))
needs_in_lem n (suc w) (node o l r) e =
    let b = and_both (within n w l) (within n w r) (and_both (hop_below n o) (within n w l && within n w r) e).1 in
    needs_down w (as_ledger (node o l r)) ∙ ap₂ (λ j k. 1 + (j + k)) (counts_in n w l b.0).1 (counts_in n w r b.1).1

-- Sets and the table. d is in force above; every hop is below n.
abbrev trie_leaves : Trie → ℕ → Leaves
trie_leaves t d = leaves only (as_ledger t) d

bare_leaves : (d : ℕ) (a : Bits) → trie_leaves bare d a ≡ only d
bare_leaves d a = ap only (longest_nothing d a)

below_else : (n : ℕ) (o : Option ℕ) (d : ℕ) → hop_below n o ≡ true → d < n → or_else o d < n
below_else n none d h l = l
below_else n (some x) d h l = ltb-true x n h

module _ (n : ℕ) where
  abbrev SetAs : ℕ → Trie → Type 0
  SetAs w t = (d : ℕ) → d < n → (length (set_in n t d) ≡ n) × (set_of n w (trie_leaves t d) ≡ member (set_in n t d))

  bare_set : (w : ℕ) → SetAs w bare
  bare_set w d l = (only_length n d, set_of_leaves n w (trie_leaves bare d) (λ a. only d) (λ a e. bare_leaves d a) ∙ set_throughout n w (only d) ∙ sym (only_in_lem n d l))

  joined : (t u : Trie) (w d : ℕ) → SetAs w t → SetAs w u → d < n
      → (length (join_in (set_in n t d) (set_in n u d)) ≡ n)
      × (join n (set_of n w (trie_leaves t d)) (set_of n w (trie_leaves u d)) ≡ member (join_in (set_in n t d) (set_in n u d)))
  joined t u w d p q l =
      let a = p d l in
      let b = q d l in (
        join_length n (set_in n t d) (set_in n u d) a.0 b.0,
        ap₂ (join n) a.1 b.1 ∙ sym (join_in_lem n (set_in n t d) (set_in n u d) a.0 b.0),
      )

  end_set : (o : Option ℕ) → hop_below n o ≡ true → SetAs zero (node o bare bare)
  end_set o h d l =
      let e = or_else o d in
      let j = joined bare bare zero e (bare_set zero) (bare_set zero) (below_else n o d h l) in
      (j.0, sym (join_same n (only e) (only e) refl) ∙ j.1)

  -- the rule at a string, by vectors
  module _ (xs : List Bool) (x : Hops) (sized : length xs ≡ n) (is : x ≡ member xs) (c : ℕ) where
    entry_in_lem : entry n x c ≡ entry_in xs c
    entry_in_lem = ap (λ y. entry n y c) is ∙ ap (λ k. cond (member xs c) none (some k)) (sym (least_in_lem n xs sized))

    choose_in_lem : choose n x c ≡ choose_in xs c
    choose_in_lem = ap (λ o. or_else o c) entry_in_lem

  abbrev TableAs : ℕ → Trie → Type 0
  TableAs w t = (d c : ℕ) → d < n → table n w (trie_leaves t d) c ≡ table_in n t d c

  bare_table : (w : ℕ) → TableAs w bare
  bare_table w d c l =
      table_of_leaves n w (trie_leaves bare d) (λ a. only d) c (λ a e. bare_leaves d a)
      ∙ table_throughout n (only d) w c (only_allowed n d l).member
      ∙ ap here (entry_in_lem (only_in n d) (only d) (only_length n d) (sym (only_in_lem n d l)) c)

  -- a node with nothing below it: its children have no entries
  end_table : (o : Option ℕ) → hop_below n o ≡ true → TableAs zero (node o bare bare)
  end_table o h d c l =
      let e = or_else o d in
      let m = below_else n o d h l in
      let xs = set_in n (node o bare bare) d in
      let j = end_set o h d l in
      let is : only e ≡ member xs = j.1 in
      let chosen : only e (choose_in xs c) ≡ true =
      subst (λ (k : ℕ). only e k ≡ true) (choose_in_lem xs (only e) j.0 is c) (choose_member n (only e) c (only_allowed n e m)) in
      let quiet : entry_in (only_in n e) (choose_in xs c) ≡ none =
      ap (λ (x : Hops). cond (x (choose_in xs c)) none (some (least_in (only_in n e)))) (only_in_lem n e m) ∙ rw chosen in
      ap here (entry_in_lem xs (only e) j.0 is c) ∙ sym (append-nil (here (entry_in xs c)))
      ∙ ap (λ v. here (entry_in xs c) ++ (under false (here v) ++ under true (here v))) (sym quiet)

  node_table : (w : ℕ) (o : Option ℕ) (t u : Trie) → hop_below n o ≡ true → SetAs w t × TableAs w t → SetAs w u × TableAs w u
      → TableAs (suc w) (node o t u)
  node_table w o t u h p q d c l =
      let e = or_else o d in
      let m = below_else n o d h l in
      let xs = set_in n (node o t u) d in
      let x = set_of n (suc w) (trie_leaves (node o t u) d) in
      let j = joined t u w e p.0 q.0 m in
      ap₂ (λ v k. here v ++ (under false (table n w (trie_leaves t e) k) ++ under true (table n w (trie_leaves u e) k)))
      (entry_in_lem xs x j.0 j.1 c) (choose_in_lem xs x j.0 j.1 c)
      ∙ ap₂ (λ es fs. here (entry_in xs c) ++ (under false es ++ under true fs)) (p.1 e (choose_in xs c) m) (q.1 e (choose_in xs c) m)

  pub table_in_lem : (w : ℕ) (t : Trie) → within n w t ≡ true → SetAs w t × TableAs w t
  table_in_lem = by_shape n (λ w t. SetAs w t × TableAs w t) (λ w. (bare_set w, bare_table w))
      (λ o h. (end_set o h, end_table o h))
      (λ w o t u h p q. ((λ d m. joined t u w (or_else o d) p.0 q.0 (below_else n o d h m)), node_table w o t u h p q))
