-- WHAT THE PROGRAM WRITES, for every input: the smallest table of a fresh ledger to which the input was applied, or one record that
-- tells the refusal.
use Rattle.std.specs.Prelude.{◌≡◌, cond, List, [], ◌∷◌, ◌++◌, ℕ, ◌≤◌, ◌<◌, ltb, length, drop}
use Rattle.std.proofs.Math.Option.{Option, none, some}
use Rattle.theory.specs.Ledger.{nothing}
use Rattle.rules.specs.Numbers.{ipv4, own_slots, most_input, refusal_mark, long_input}
use Rattle.rules.specs.Records.{bytes_of, print_table}
use Rattle.rules.specs.Plain.{Applied, updated}
use Rattle.rules.specs.Writing.{smallest_table}

-- THE RECORD OF A REFUSAL: the place in bytes 0 to 3, high byte first, the number in byte 4, 255 in byte 5, zeros in 6 and 7
abbrev pub refusal_record : ℕ → ℕ → List ℕ
refusal_record number place = bytes_of ipv4 place ++ number ∷ refusal_mark ∷ 0 ∷ 0 ∷ []

-- a refusal has the place of the refused record, which is the count of those applied before it, and so 0 for 3, which refuses the whole call
abbrev pub after_list : Option ℕ → Applied → List ℕ
after_list none a = print_table ipv4 (smallest_table ipv4 a.ledger)
after_list (some x) a = refusal_record x a.count

-- FOR EVERY INPUT: one that is too long is answered before any other fault
unfoldable pub writes_for : List ℕ → List ℕ
writes_for input =
    cond (ltb most_input (length input)) (refusal_record long_input 0)
    (after_list (updated ipv4 own_slots nothing input).refusal (updated ipv4 own_slots nothing input))

-- the bytes stand at the start of the output; those behind them stay as they were, and are not written out
pub record Stands (bytes output output' : List ℕ) (r : ℕ) : Type 0 where
  pub count : r ≡ length bytes
  pub left : output' ≡ bytes ++ drop (length bytes) output

-- THE PROMISE: an output of 4,096 bytes is always enough; a shorter one is left alone, and no byte is to be written
pub record Answers (input output output' : List ℕ) (r : ℕ) : Type 0 where
  pub stands : most_input ≤ length output → Stands (writes_for input) output output' r
  pub no_room : length output < most_input → (r ≡ 0) × (output' ≡ output)
  -- (which follows: what is to be written out lies within the output)
  pub within : r ≤ length output'

-- the step inside
pub record Refuses (number place : ℕ) (output output' : List ℕ) (r : ℕ) : Type 0 where
  pub tells : Stands (refusal_record number place) output output' r
