-- WHAT WRITING PROMISES, on lent slices, whatever they hold. Working memory is lent for reading alone, so it never changes;
-- the promise fixes the answer, and every element of the scratch and of the output after the call.
use Rattle.std.specs.Prelude.{◌≡◌, cond, not, ◌||◌, List, [], ◌∷◌, ◌++◌, ℕ, ◌*◌, eqb, ltb, length, drop, Result, Ok, Err}
use Rattle.std.proofs.Math.Option.{Option, none, some}
use Rattle.theory.specs.Ledger.{Entry}
use Rattle.rules.specs.Numbers.{ipv4, width, record_bytes, scratch_words, bad_slices, no_ledger, short_output}
use Rattle.rules.specs.Records.{◌refused_by◌, first_fault, print_table}
use Rattle.rules.specs.Writing.{smallest_table}
use Rattle.memory.specs.Layout.{Memory, slots, ledger_of, holds_ledger, zeros}
use Rattle.lent.specs.Lent.{bad_lent}
use Rattle.refusals.specs.declared.Refused.{Refused}
use Rattle.refusals.specs.Numbered.{number_of}

-- what a writing comes to: the refusal, the count, and what is left in the scratch and in the output
pub record Outcome : Type 0 where
  pub refusal : Option ℕ
  pub count : ℕ
  pub scratch : List ℕ
  pub output : List ℕ

-- the paper's number and values for each answer, beside what is left
abbrev pub outcome_of : Result ℕ Refused → List ℕ → List ℕ → Outcome
outcome_of (Ok count) scratch output = record { refusal = none; count = count; scratch = scratch; output = output }
outcome_of (Err refused) scratch output =
    record { refusal = some (number_of refused.refusal); count = refused.count; scratch = scratch; output = output }

-- 1 and 2: count 0, and nothing changed
abbrev pub unchanged : ℕ → List ℕ → List ℕ → Outcome
unchanged x scratch output = record { refusal = some x; count = 0; scratch = scratch; output = output }

-- THE TABLE INTO THE OUTPUT: its bytes, and every byte behind them as it was; or 11 with the count that is needed, the output as
-- it was. The scratch is left zero, whatever it held.
abbrev pub bytes_for : List Entry → ℕ
bytes_for T = length T * record_bytes ipv4

abbrev pub into_output : List Entry → List ℕ → List ℕ → Outcome
into_output T scratch output =
    cond (ltb (length output) (bytes_for T))
    (record { refusal = some short_output; count = length T; scratch = zeros (length scratch); output = output })
    (record { refusal = none; count = length T; scratch = zeros (length scratch); output = print_table ipv4 T ++ drop (bytes_for T) output })

-- THE WHOLE CALL'S RULES: 1 asks for scratch of its length, too
unfoldable pub write_fault : Memory → List ℕ → Option ℕ
write_fault m scratch =
    first_fault
    ((bad_lent m || not (eqb (length scratch) (scratch_words (slots m.tree)))) refused_by bad_slices
    ∷ not (holds_ledger m.tree) refused_by no_ledger
    ∷ [])

-- WRITING, as a function of what is lent
abbrev pub write_after : Option ℕ → Memory → List ℕ → List ℕ → Outcome
write_after none m scratch output = into_output (smallest_table ipv4 (ledger_of (width ipv4) m)) scratch output
write_after (some x) m scratch output = unchanged x scratch output

unfoldable pub write_of : Memory → List ℕ → List ℕ → Outcome
write_of m scratch output = write_after (write_fault m scratch) m scratch output

pub record Writes (m : Memory) (scratch output scratch' output' : List ℕ) (r : Result ℕ Refused) : Type 0 where
  pub outcome : outcome_of r scratch' output' ≡ write_of m scratch output
