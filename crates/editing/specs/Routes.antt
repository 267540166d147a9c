-- What setting and removing a route promises, and the steps on the way.
use Rattle.std.specs.Prelude.{◌≡◌, Option, MatchOption, Bool, true, false, ℕ, ◌+◌, ◌≤◌, ◌<◌}
use Rattle.theory.specs.Bits.{Bits, front}
use Rattle.theory.specs.Ledger.{is_held, announce, withdraw}
use Rattle.rules.specs.Plain.{needs}
use Rattle.rules.specs.Numbers.{MayAnnounce}
use Rattle.memory.specs.Path.{path_bits}
use Rattle.memory.specs.Layout.{Memory, slots, Whole, child, find, ledger_of}
use Rattle.memory.specs.Tidy.{TidyBut, Tidy}
use Rattle.editing.specs.Spare.{Exhausted}
use Rattle.editing.specs.Edits.{Kept}

-- What the functions ask of their caller: slices that make a memory, lengths within the width and the width within a path, ..
pub record CanWithdraw (w : ℕ) (m : Memory) (size : ℕ) : Type 0 where
  pub whole : Whole m
  pub short : size ≤ w
  pub fits : w ≤ path_bits

pub record CanAnnounce (w : ℕ) (m : Memory) (size h : ℕ) : Type 0 where
  pub route : CanWithdraw w m size
  pub may : MayAnnounce h

-- .. and, on the way, the slot of a path's first bits
pub record OnPath (w : ℕ) (m : Memory) (f : ℕ → Bool) (size slot : ℕ) : Type 0 where
  pub route : CanWithdraw w m size
  pub there : slot ≡ find m.tree (front f size)
  pub below : slot < slots m.tree

-- what a new slot is hung below: the last slot on a path, with bits left
pub record AtEnd (w : ℕ) (m : Memory) (f : ℕ → Bool) (d slot : ℕ) : Type 0 where
  pub on : OnPath w m f d slot
  pub deeper : d < w
  pub no_child : child m.tree (f d) slot ≡ slots m.tree

-- The ledger is as it was, and memory that was tidy but for one slot is tidy but for another.
pub record Reworked (w : ℕ) (m m' : Memory) (tip tip' : ℕ) : Type 0 where
  pub kept : Kept m m'
  pub same_ledger : ledger_of w m' ≡ ledger_of w m
  pub tidied : TidyBut w m tip → TidyBut w m' tip'

-- One bit further down a path from its last slot: the string has a slot now, and it is the last, ..
pub record Extended (w : ℕ) (m m' : Memory) (f : ℕ → Bool) (d slot next : ℕ) : Type 0 where
  pub reworked : Reworked w m m' slot next
  pub there : next ≡ find m'.tree (front f (d + 1))
  pub below : next < slots m.tree
  pub leaf : (b : Bool) → child m'.tree b next ≡ slots m.tree

-- .. or there is none for it, and nothing has changed
pub record Stuck (w : ℕ) (m m' : Memory) (slot : ℕ) : Type 0 where
  pub unchanged : m' ≡ m
  pub exhausted : Exhausted w m slot

abbrev pub Step : ℕ → Memory → Memory → (ℕ → Bool) → ℕ → ℕ → Option ℕ → Type 0
Step w m m' f d slot answer = MatchOption answer (Stuck w m m' slot) (Extended w m m' f d slot)

-- ANNOUNCED: the route is held; or it is not, as the ledger would need more slots than there are
pub record Announced (w : ℕ) (m m' : Memory) (q : Bits) (h : ℕ) (r : Bool) : Type 0 where
  pub kept : Kept m m'
  pub taken : r ≡ true → ledger_of w m' ≡ announce (ledger_of w m) q h
  pub refused : r ≡ false → (ledger_of w m' ≡ ledger_of w m) × (slots m.tree < needs w (announce (ledger_of w m) q h))
  pub tidied : Tidy w m → Tidy w m'

-- WITHDRAWN: the route was held and is no more; or it was not, and nothing at all has changed
pub record Withdrawn (w : ℕ) (m m' : Memory) (q : Bits) (r : Bool) : Type 0 where
  pub kept : Kept m m'
  pub taken : r ≡ true → (is_held (ledger_of w m q) ≡ true) × (ledger_of w m' ≡ withdraw (ledger_of w m) q)
  pub refused : r ≡ false → (is_held (ledger_of w m q) ≡ false) × (m' ≡ m)
  pub tidied : Tidy w m → Tidy w m'
