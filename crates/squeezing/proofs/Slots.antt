-- The number of a slot that code may not have: that of the slot that was asked for; and one behind all slots where there is none.
use mathlib.Core.Path.{◌≡◌, sym}
use Prim.Native.Nat.{ℕ, ◌≤◌}
use native.Mathlib.Omega.{arith}
use Rattle.std.specs.Prelude.{Option, None, Some}
use Rattle.memory.specs.Layout.{Memory, slots}
use Rattle.memory.specs.Views.{SlotOrNone}
use Rattle.squeezing.specs.Slots.{slot_number}

module _ (m : Memory) (slot : Option ℕ) where
  pub none_behind : slot ≡ None → slots m.tree ≤ slot_number m slot
  none_behind e = rw e (omega arith)

  pub number_behind : {s : ℕ} → slot ≡ Some s → slots m.tree ≤ s → slots m.tree ≤ slot_number m slot
  number_behind e l = rw e l

pub answered : (m : Memory) {k : ℕ} (answer : Option ℕ) → SlotOrNone m.tree k answer → slot_number m answer ≡ k
answered m None is = sym is
answered m (Some s) is = is.0
