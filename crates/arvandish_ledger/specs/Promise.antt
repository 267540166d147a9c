-- WHAT THE LEDGER DOOR PROMISES: each call what the call of the same name promises, with the answer told as a struct. The answer
-- that is told is one that the promise allows, and there is only one (proofs/Promise).
use Rattle.std.specs.Prelude.{List, ℕ, Result}
use Rattle.memory.specs.Layout.{Memory}
use Rattle.refusals.specs.declared.Refused.{Refused}
use Rattle.ledger.specs.Promise.{Updates, LooksUp}
use Rattle.writing.specs.Promise.{Writes}
use Rattle.answers.specs.declared.FoundAnswer.{FoundAnswer}
use Rattle.answers.specs.declared.CountAnswer.{CountAnswer}
use Rattle.answers.specs.Answers.{FoundSo, CountedSo}

pub record UpdatesToC (m : Memory) (list : List ℕ) (m' : Memory) (r : CountAnswer) : Type 0 where
  pub answer : Result ℕ Refused
  pub meets : Updates m list m' answer
  pub told : CountedSo answer r

pub record LooksUpToC (m : Memory) (address : ℕ) (r : FoundAnswer) : Type 0 where
  pub answer : Result ℕ Refused
  pub meets : LooksUp m address answer
  pub told : FoundSo answer r

pub record WritesToC (m : Memory) (scratch output scratch' output' : List ℕ) (r : CountAnswer) : Type 0 where
  pub answer : Result ℕ Refused
  pub meets : Writes m scratch output scratch' output' answer
  pub told : CountedSo answer r
