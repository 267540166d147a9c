-- What it is for a slot to be bare, and not to be: the test taken apart.
use Rattle.std.proofs.Common.{◌≡◌, ℕ, ◌<◌, Bool, true, false, not, eqb, ◌⊎◌, refl, inl, inr, arith, eqb-true}
use mathlib.Core.Option.{Option, none, some}
use borrow.Author.Tests.{eqb-false}
use Rattle.theory.specs.Ledger.{is_held}
use Rattle.theory.proofs.Hops.{by_test, never, not_true, and_both, or_either}
use Rattle.memory.specs.Layout.{Memory, slots, child, hop_at}
use Rattle.memory.specs.Tidy.{bare}
use Rattle.memory.proofs.Find.{strictly, not_none, child_le}

pub none_of_test : {A : Type 0} (o : Option A) → is_held o ≡ false → o ≡ none
none_of_test none e = refl
none_of_test (some x) e = never refl e

module _ (m : Memory) (left k : ℕ) where
  pub bare_hop : bare m left k ≡ true → hop_at m k ≡ none
  unfolding bare
  bare_hop e = none_of_test (hop_at m k) (not_true (is_held (hop_at m k)) (and_both (not (is_held (hop_at m k))) _ e).0)

  bare_children : bare m left k ≡ true → 0 < left
      → (child m.tree false k ≡ slots m.tree) × (child m.tree true k ≡ slots m.tree)
  unfolding bare
  bare_children e l =
      elim (or_either (eqb left 0) _ (and_both (not (is_held (hop_at m k))) _ e).1) [
        | inl z ↦ absurd (omega (arith, eqb-true left 0 z))
        | inr z ↦
            let both = and_both (eqb (child m.tree false k) (slots m.tree)) (eqb (child m.tree true k) (slots m.tree)) z in
            (eqb-true (child m.tree false k) (slots m.tree) both.0, eqb-true (child m.tree true k) (slots m.tree) both.1)
      ]

  pub bare_leaf : bare m left k ≡ true → 0 < left → (c : Bool) → child m.tree c k ≡ slots m.tree
  bare_leaf e l false = (bare_children e l).0
  bare_leaf e l true = (bare_children e l).1

  pub busy_hop : is_held (hop_at m k) ≡ true → bare m left k ≡ false
  unfolding bare
  busy_hop e = rw e

  pub busy_child : (c : Bool) → 0 < left → child m.tree c k < slots m.tree → bare m left k ≡ false
  busy_child c l h = elim (by_test (bare m left k)) [ inl e ↦ absurd (omega (arith, bare_leaf e l c)) | inr e ↦ e ]

  pub record Leads : Type 0 where
    pub bits_left : 0 < left
    pub side : Bool
    pub leads : child m.tree side k < slots m.tree

  below_of : (c : Bool) → (child m.tree c k ≡ slots m.tree → ⊥) → child m.tree c k < slots m.tree
  below_of c h = strictly (child m.tree c k) (slots m.tree) (child_le m.tree c k) h

  pub busy_why : bare m left k ≡ false → (is_held (hop_at m k) ≡ true) ⊎ Leads
  unfolding bare
  busy_why e =
      elim (by_test (is_held (hop_at m k))) [
        | inl h ↦ inl h
        | inr h ↦
            elim (by_test (eqb left 0)) [
              | inl z ↦ never refl (rw (h, z) at e)
              | inr z ↦
                  elim (by_test (eqb (child m.tree false k) (slots m.tree))) [
                    | inl f ↦
                        elim (by_test (eqb (child m.tree true k) (slots m.tree))) [
                          | inl g ↦ never refl (rw (h, z, f, g) at e)
                          | inr g ↦ inr record { bits_left = not_none left (eqb-false left 0 z); side = true; leads = below_of true (eqb-false _ _ g) }
                        ]
                    | inr f ↦ inr record { bits_left = not_none left (eqb-false left 0 z); side = false; leads = below_of false (eqb-false _ _ f) }
                  ]
            ]
      ]
