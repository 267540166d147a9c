-- The rules 1 and 2, as code tests them.
use mathlib.Core.Path.{◌≡◌, refl}
use mathlib.Core.Logic.{inl, inr}
use mathlib.Core.Bool.{true, false, not, ◌&&◌, ◌||◌}
use mathlib.Core.Option.{none, some}
use Prim.Native.Nat.{ℕ, ◌≤◌, ◌<◌}
use native.Mathlib.Omega.{arith}
use lib.Dec.{eqb, ltb}
use lib.ListN.{length, get_or}
use borrow.Author.Tests.{eqb-true, eqb-false, ltb-false, eq-eqb, ne_eqb, le-ltb, le-leb, lt-leb, not-false}
use Rattle.theory.proofs.Hops.{by_test, and_both}
use Rattle.theory.proofs.Longest.{none_some}
use Rattle.rules.specs.Numbers.{most_slots, bad_slices, no_ledger}
use Rattle.rules.proofs.Plain.{or_none}
use Rattle.memory.specs.Layout.{Memory, slots, Whole, holds_ledger}
use Rattle.memory.proofs.Find.{not_none}
use Rattle.std.proofs.Common.{Ok, Err}
use Rattle.refusals.specs.declared.Refusal.TheVariants.{BadSlices, NoLedger}
use Rattle.lent.specs.Lent.{same_lengths, bad_lent, lent_fault, Checked}

-- slices that rule 1 lets through
pub record GoodLent (m : Memory) : Type 0 where
  pub los : length m.tree.lo ≡ slots m.tree
  pub his : length m.tree.hi ≡ slots m.tree
  pub hops : length m.hop ≡ slots m.tree
  pub some_slot : slots m.tree ≡ 0 → ⊥
  pub few : slots m.tree ≤ most_slots

module _ (m : Memory) where
  abbrev n : ℕ
  n = slots m.tree

  pub good_of : bad_lent m ≡ false → GoodLent m
  good_of e =
      let parts = or_none (not (same_lengths m)) (eqb n 0 || ltb most_slots n) e in
      let sizes = or_none (eqb n 0) (ltb most_slots n) parts.1 in
      let lengths = and_both (eqb (length m.tree.lo) n) (eqb (length m.tree.hi) n && eqb (length m.hop) n) (not-false (same_lengths m) parts.0) in
      let others = and_both (eqb (length m.tree.hi) n) (eqb (length m.hop) n) lengths.1 in
      record {
        los = eqb-true (length m.tree.lo) n lengths.0;
        his = eqb-true (length m.tree.hi) n others.0;
        hops = eqb-true (length m.hop) n others.1;
        some_slot = eqb-false n 0 sizes.0;
        few = ltb-false most_slots n sizes.1;
      }

  pub of_good : GoodLent m → bad_lent m ≡ false
  of_good g =
      rw (eq-eqb (length m.tree.lo) n g.los, eq-eqb (length m.tree.hi) n g.his, eq-eqb (length m.hop) n g.hops, ne_eqb n 0 g.some_slot, le-ltb most_slots n g.few)

  pub whole_of : GoodLent m → Whole m
  whole_of g = record {
    shaped = record { los = g.los; his = g.his; some_slot = not_none n g.some_slot; few = omega (arith, g.few) };
    hops = g.hops;
  }

  -- the tests, one after another
  pub fault_slices : (GoodLent m → ⊥) → Checked m (Err BadSlices)
  unfolding lent_fault
  fault_slices bad = elim (by_test (bad_lent m)) [ inl b ↦ rw b | inr b ↦ absurd (bad (good_of b)) ]

  pub fault_ledger : GoodLent m → n < get_or m.tree.up 0 0 → Checked m (Err NoLedger)
  unfolding lent_fault holds_ledger
  fault_ledger g l = rw (of_good g, lt-leb (get_or m.tree.up 0 0) n l)

  pub no_fault : GoodLent m → get_or m.tree.up 0 0 ≤ n → (u : Unit {0}) → Checked m (Ok u)
  unfolding lent_fault holds_ledger
  no_fault g l u = (rw (of_good g, le-leb (get_or m.tree.up 0 0) n l), whole_of g)

-- what the whole call's rules let through
pub let_through : (m : Memory) → lent_fault m ≡ none → GoodLent m
unfolding lent_fault
let_through m e =
    elim (by_test (bad_lent m)) [
      | inl b ↦ let f : some bad_slices ≡ none = rw b at e in none_some refl f
      | inr b ↦ good_of m b
    ]

pub holds_of : (m : Memory) → lent_fault m ≡ none → holds_ledger m.tree ≡ true
unfolding lent_fault
holds_of m e =
    elim (by_test (holds_ledger m.tree)) [
      | inl h ↦ h
      | inr h ↦ let f : some no_ledger ≡ none = rw (of_good m (let_through m e), h) at e in none_some refl f
    ]
