-- DEMAND 3 AT THE DAEMON'S TABLE CALL: what it writes is the smallest table of the ledger that its list makes.
use Rattle.std.specs.Prelude.{◌≡◌, List, ◌++◌, ℕ, length, drop}
use Rattle.theory.specs.Ledger.{Ledger}
use Rattle.answers.specs.declared.CountAnswer.{CountAnswer}
use Rattle.history.specs.Theorem.{IsSmallest}

pub record TablesSmallest (L : Ledger ℕ) (output output' : List ℕ) (r : CountAnswer) : Type 0 where
  pub count : ℕ
  pub bytes : List ℕ
  pub answer : r ≡ record { number = 0; count = count }
  pub written : output' ≡ bytes ++ drop (length bytes) output
  pub smallest : IsSmallest L count bytes
