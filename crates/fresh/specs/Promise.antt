-- FROM A LIST TO A TABLE: an update list applied to a fresh ledger, and the smallest table of that written into an output. It is the
-- daemon's table call, and what the program does inside.
use Rattle.std.specs.Prelude.{◌≡◌, List, [], ℕ, Result}
use Rattle.std.proofs.Math.Option.{Option, none, some}
use Rattle.theory.specs.Ledger.{nothing}
use Rattle.rules.specs.Numbers.{ipv4, own_slots}
use Rattle.rules.specs.Plain.{Applied, updated}
use Rattle.rules.specs.Writing.{smallest_table}
use Rattle.refusals.specs.declared.Refused.{Refused}
use Rattle.writing.specs.Promise.{Outcome, outcome_of, into_output}

-- what it comes to: the refusal, the count, and what is left in the output. The ledger and its scratch are the call's own.
pub record Tabled : Type 0 where
  pub refusal : Option ℕ
  pub count : ℕ
  pub output : List ℕ

abbrev pub tabled : Outcome → Tabled
tabled w = record { refusal = w.refusal; count = w.count; output = w.output }

-- the paper's number and values for each answer, beside what is left
abbrev pub tabled_of : Result ℕ Refused → List ℕ → Tabled
tabled_of r output = tabled (outcome_of r [] output)

-- a refusal leaves the output as it was; the count is that of the records applied
abbrev pub stopped : ℕ → ℕ → List ℕ → Tabled
stopped x applied output = record { refusal = some x; count = applied; output = output }

-- AFTER THE UPDATE: 3 to 9 stop there; else the table is written, or 11 comes with the count that is needed
abbrev pub after_update : Option ℕ → Applied → List ℕ → Tabled
after_update none a output = tabled (into_output (smallest_table ipv4 a.ledger) [] output)
after_update (some x) a output = stopped x a.count output

-- FROM A LIST TO A TABLE, in a fresh ledger of n slots
unfoldable pub table_of : ℕ → List ℕ → List ℕ → Tabled
table_of n list output = after_update (updated ipv4 n nothing list).refusal (updated ipv4 n nothing list) output

pub record TablesIn (n : ℕ) (list output output' : List ℕ) (r : Result ℕ Refused) : Type 0 where
  pub outcome : tabled_of r output' ≡ table_of n list output

-- THE CALL: a ledger of 1,024 slots
abbrev pub Tables : List ℕ → List ℕ → List ℕ → Result ℕ Refused → Type 0
Tables = TablesIn own_slots
