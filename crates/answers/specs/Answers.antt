-- AN ANSWER AS C GETS IT: a struct with document 01's number, 0 where nothing was refused, and the values beside it.
use Rattle.std.specs.Prelude.{◌≡◌, ℕ, Result, Ok, Err}
use Rattle.std.proofs.Math.Option.{Option, none, some}
use Rattle.rules.specs.Lookup.{Answer}
use Rattle.refusals.specs.declared.Refused.{Refused}
use Rattle.refusals.specs.Numbered.{number_of as number_in}
use Rattle.lists.specs.Promise.{answer_of}
use Rattle.answers.specs.declared.FoundAnswer.{FoundAnswer}
use Rattle.answers.specs.declared.CountAnswer.{CountAnswer}

-- no refusal has the number 0 (rules/proofs/Numbered), so 0 says that nothing was refused
abbrev pub number_of : Option ℕ → ℕ
number_of none = 0
number_of (some x) = x

abbrev pub found_for : Answer → FoundAnswer
found_for a = record { number = number_of a.refusal; hop = a.hop; place = a.place }

abbrev pub count_for : Option ℕ → ℕ → CountAnswer
count_for refusal count = record { number = number_of refusal; count = count }

-- THE STRUCTS FOR THE ANSWERS; of a writing the answer alone, without what it leaves
abbrev pub counted_for : Result ℕ Refused → CountAnswer
counted_for (Ok count) = count_for none count
counted_for (Err refused) = count_for (some (number_in refused.refusal)) refused.count

pub record FoundSo (answer : Result ℕ Refused) (r : FoundAnswer) : Type 0 where
  pub told : r ≡ found_for (answer_of answer)

pub record CountedSo (answer : Result ℕ Refused) (r : CountAnswer) : Type 0 where
  pub told : r ≡ counted_for answer
