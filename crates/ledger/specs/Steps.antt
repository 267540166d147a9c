-- The contracts of the steps that the calls are made of.
use Rattle.std.specs.Prelude.{◌≡◌, ℕ, ◌-◌, ◌/◌, ◌%◌, ◌^◌, ◌<◌, eqb, Result, Ok, Err}
use Rattle.rules.specs.Numbers.{ipv4, width, no_slots}
use Rattle.rules.specs.Records.{Reading}
use Rattle.refusals.specs.declared.Refusal.{Refusal}
use Rattle.refusals.specs.Numbered.{number_of}
use Rattle.rules.specs.Plain.{taken, refused, apply}
use Rattle.memory.specs.Path.{path_bit}
use Rattle.memory.specs.declared.Path.{Path}
use Rattle.memory.specs.Layout.{Memory, slots, ledger_of}
use Rattle.memory.specs.Tidy.{Tidy}
use Rattle.editing.specs.Edits.{Kept}

-- a path whose first bits are an address's
pub record IsPathOf (address : ℕ) (path : Path) : Type 0 where
  pub bit_by_bit : (i : ℕ) → i < width ipv4 → path_bit path i ≡ eqb (address / 2 ^ (width ipv4 - 1 - i) % 2) 1

-- one record applied: it was taken, or it was refused by its number. Only a record that found no room leaves anything else than it found.
pub record Refuses (m m' : Memory) (r : Reading) (number : ℕ) : Type 0 where
  pub refused_so : apply (width ipv4) (slots m.tree) (ledger_of (width ipv4) m) r ≡ refused number
  pub same_ledger : ledger_of (width ipv4) m' ≡ ledger_of (width ipv4) m
  pub untouched : (number ≡ no_slots → ⊥) → m' ≡ m

abbrev pub Says : Memory → Memory → Reading → Result (Unit {0}) Refusal → Type 0
Says m m' r (Ok u) = apply (width ipv4) (slots m.tree) (ledger_of (width ipv4) m) r ≡ taken (ledger_of (width ipv4) m')
Says m m' r (Err refusal) = Refuses m m' r (number_of refusal)

pub record AppliesOne (m m' : Memory) (r : Reading) (answer : Result (Unit {0}) Refusal) : Type 0 where
  pub kept : Kept m m'
  pub says : Says m m' r answer
  pub tidied : Tidy (width ipv4) m → Tidy (width ipv4) m'
