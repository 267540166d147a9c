-- WHAT THE CALLS PROMISE: update and lookup on lent slices, whatever they hold. Memory is read by the layout of
-- memory/specs/Layout, and w is the address's width.
use Rattle.std.specs.Prelude.{◌≡◌, Bool, true, false, List, ℕ, length, Result, Ok, Err}
use Rattle.std.proofs.Math.Option.{Option, none, some}
use Rattle.rules.specs.Numbers.{ipv4, width, no_slots}
use Rattle.rules.specs.Plain.{Applied, complete, updated}
use Rattle.rules.specs.Lookup.{Answer, hop_of}
use Rattle.memory.specs.Layout.{Memory, slots, ledger_of}
use Rattle.memory.specs.Tidy.{Tidy}
use Rattle.lent.specs.Lent.{lent_fault}
use Rattle.refusals.specs.declared.Refused.{Refused}
use Rattle.refusals.specs.Numbered.{number_of}
use Rattle.lists.specs.Promise.{answer_of}

-- UPDATE, as a function of what is lent: the refusal, the count of records applied, and the ledger after those
abbrev pub after_fault : Option ℕ → Memory → List ℕ → Applied
after_fault none m list = updated ipv4 (slots m.tree) (ledger_of (width ipv4) m) list
after_fault (some x) m list = record { refusal = some x; count = 0; ledger = ledger_of (width ipv4) m }

unfoldable pub update_of : Memory → List ℕ → Applied
update_of m list = after_fault (lent_fault m) m list

-- the paper's number and values for each answer
pub record Report : Type 0 where
  pub refusal : Option ℕ
  pub count : ℕ
  pub complete : Bool

abbrev pub report_of : Result ℕ Refused → Report
report_of (Ok count) = record { refusal = none; count = count; complete = true }
report_of (Err refused) = record { refusal = some (number_of refused.refusal); count = refused.count; complete = false }

abbrev pub reported : Applied → Report
reported a = record { refusal = a.refusal; count = a.count; complete = complete a }

-- as many elements in each slice as before
pub record SameLengths (m m' : Memory) : Type 0 where
  pub los : length m'.tree.lo ≡ length m.tree.lo
  pub his : length m'.tree.hi ≡ length m.tree.hi
  pub ups : slots m'.tree ≡ slots m.tree
  pub hops : length m'.hop ≡ length m.hop

pub record Updates (m : Memory) (list : List ℕ) (m' : Memory) (r : Result ℕ Refused) : Type 0 where
  -- the answer, and the ledger that is left: the count is that of the records which made it
  pub answer : report_of r ≡ reported (update_of m list)
  pub ledger : ledger_of (width ipv4) m' ≡ (update_of m list).ledger
  -- where no record was applied, and none was refused for want of room, every element is as it was: so 1, 2 and 3 change nothing
  pub untouched : (update_of m list).count ≡ 0 → ((update_of m list).refusal ≡ some no_slots → ⊥) → m' ≡ m
  pub same_lengths : SameLengths m m'
  -- what holds a ledger goes on holding one, and tidy memory stays tidy: with its ledger it is then fixed but for which slot a
  -- string lies in and the chain of free slots
  pub no_2_later : lent_fault m ≡ none → lent_fault m' ≡ none
  pub tidy : Tidy (width ipv4) m → Tidy (width ipv4) m'

-- LOOKUP, as a function of what is lent; it is lent for reading alone, so it changes nothing
abbrev pub found_after : Option ℕ → Memory → ℕ → Answer
found_after none m x = record { refusal = none; hop = hop_of ipv4 (ledger_of (width ipv4) m) x; place = 0 }
found_after (some n) m x = record { refusal = some n; hop = 0; place = 0 }

pub record LooksUp (m : Memory) (address : ℕ) (r : Result ℕ Refused) : Type 0 where
  pub answer : answer_of r ≡ found_after (lent_fault m) m address
