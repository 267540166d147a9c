-- What a lookup in a record list promises.
use Rattle.std.specs.Prelude.{◌≡◌, List, ℕ, Result, Ok, Err}
use Rattle.std.proofs.Math.Option.{none, some}
use Rattle.rules.specs.Numbers.{ipv4}
use Rattle.rules.specs.Lookup.{Answer, looked_up}
use Rattle.refusals.specs.Numbered.{number_of}
use Rattle.refusals.specs.declared.Refused.{Refused}

-- the paper's number and values for each answer: a hop, or a refusal with hop 0 and the place
abbrev pub answer_of : Result ℕ Refused → Answer
answer_of (Ok hop) = record { refusal = none; hop = hop; place = 0 }
answer_of (Err refused) = record { refusal = some (number_of refused.refusal); hop = 0; place = refused.count }

-- LOOKUP IN A LIST: the answer is the one that document 01 gives, whatever the list holds
pub record LooksUpList (list : List ℕ) (address : ℕ) (r : Result ℕ Refused) : Type 0 where
  pub answer : answer_of r ≡ looked_up ipv4 list address
