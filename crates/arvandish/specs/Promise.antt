-- WHAT THE C DOOR PROMISES, whatever bytes are lent: the struct for the answer that document 01 gives, and every byte of the output.
use Rattle.std.specs.Prelude.{◌≡◌, List, ℕ}
use Rattle.rules.specs.Numbers.{ipv4, own_slots}
use Rattle.rules.specs.Lookup.{looked_up}
use Rattle.fresh.specs.Promise.{table_of}
use Rattle.answers.specs.declared.FoundAnswer.{FoundAnswer}
use Rattle.answers.specs.declared.CountAnswer.{CountAnswer}
use Rattle.answers.specs.Answers.{found_for, count_for}

-- LOOKUP IN A LIST
pub record LooksUpForC (list : List ℕ) (address : ℕ) (r : FoundAnswer) : Type 0 where
  pub answer : r ≡ found_for (looked_up ipv4 list address)

-- FROM A LIST TO A TABLE
pub record TablesForC (list output output' : List ℕ) (r : CountAnswer) : Type 0 where
  pub answer : r ≡ count_for (table_of own_slots list output).refusal (table_of own_slots list output).count
  pub left : output' ≡ (table_of own_slots list output).output
