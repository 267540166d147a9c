-- MEMORY REACHED FROM ZEROS by our own calls, each lent that same memory whole: any run of updates, with any lists, refused ones
-- included. (A lookup changes nothing.)
use Rattle.std.specs.Prelude.{◌≡◌, List, ℕ, Result}
use Rattle.std.proofs.Math.Option.{none}
use Rattle.rules.specs.Numbers.{ipv4, width}
use Rattle.rules.specs.Plain.{Reached}
use Rattle.memory.specs.Layout.{Memory, slots, ledger_of, zeroed}
use Rattle.memory.specs.Tidy.{Tidy}
use Rattle.refusals.specs.declared.Refused.{Refused}
use Rattle.lent.specs.Lent.{lent_fault}
use Rattle.ledger.specs.Promise.{Updates}

pub data ReachedMemory (n : ℕ) : Memory → Type 0 where
  at_zeros : ReachedMemory n (zeroed n)
  by_update : {m m' : Memory} → ReachedMemory n m → (list : List ℕ) (r : Result ℕ Refused) → Updates m list m' r → ReachedMemory n m'

-- WHAT HOLDS OF IT: refusals 1 and 2 never come, it holds what a plain ledger of the accepted records holds, and it is tidy
pub record Sound (n : ℕ) (m : Memory) : Type 0 where
  pub let_through : lent_fault m ≡ none
  pub plain : Reached ipv4 n (ledger_of (width ipv4) m)
  pub tidy : Tidy (width ipv4) m
  pub same_slots : slots m.tree ≡ n
