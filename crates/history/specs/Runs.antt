-- ANY RUN OF CALLS: what is asked, what a plain ledger replies, and what our calls reply on lent memory.
use Rattle.std.specs.Prelude.{Result}
use Rattle.refusals.specs.declared.Refused.{Refused}
use Rattle.std.specs.Prelude.{cond, List, [], ◌∷◌, ◌++◌, ℕ, eqb, length}
use Rattle.std.proofs.Math.Option.{none}
use Rattle.theory.specs.Ledger.{Ledger}
use Rattle.rules.specs.Numbers.{ipv4, scratch_words, bad_slices}
use Rattle.rules.specs.Plain.{updated}
use Rattle.rules.specs.Lookup.{Answer, hop_of, looked_up}
use Rattle.rules.specs.Writing.{smallest_table}
use Rattle.memory.specs.Layout.{Memory, zeroed}
use Rattle.lists.specs.Promise.{answer_of, LooksUpList}
use Rattle.ledger.specs.Promise.{Report, report_of, reported, Updates, LooksUp}
use Rattle.writing.specs.Promise.{Outcome, outcome_of, unchanged, into_output, Writes}

-- WHAT IS ASKED: one call, with all that is lent beside the memory. Any list, any address, any scratch and any output.
pub data Ask : Type 0 where
  updating : List ℕ → Ask
  looking_up : ℕ → Ask
  looking_up_in : List ℕ → ℕ → Ask
  writing : List ℕ → List ℕ → Ask

-- WHAT IS REPLIED: the answer by document 01's numbers and, of a writing, the scratch and the output that it leaves
pub data Reply : Type 0 where
  updated_so : Report → Reply
  found_so : Answer → Reply
  wrote_so : Outcome → Reply

-- A PLAIN LEDGER'S REPLY, where n slots are lent, and the ledger after it: only an update changes it, by its accepted records
abbrev pub plain_reply : ℕ → Ledger ℕ → Ask → Reply
plain_reply n L (updating list) = updated_so (reported (updated ipv4 n L list))
plain_reply n L (looking_up x) = found_so (record { refusal = none; hop = hop_of ipv4 L x; place = 0 })
plain_reply n L (looking_up_in list x) = found_so (looked_up ipv4 list x)
plain_reply n L (writing scratch output) =
    wrote_so (cond (eqb (length scratch) (scratch_words n)) (into_output (smallest_table ipv4 L) scratch output) (unchanged bad_slices scratch output))

abbrev pub plain_after : ℕ → Ledger ℕ → Ask → Ledger ℕ
plain_after n L (updating list) = (updated ipv4 n L list).ledger
plain_after n L (looking_up x) = L
plain_after n L (looking_up_in list x) = L
plain_after n L (writing scratch output) = L

-- the same over a list of calls
abbrev pub plain_replies : ℕ → Ledger ℕ → List Ask → List Reply
plain_replies n L [] = []
plain_replies n L (a ∷ asks) = plain_reply n L a ∷ plain_replies n (plain_after n L a) asks

abbrev pub plain_ledger : ℕ → Ledger ℕ → List Ask → Ledger ℕ
plain_ledger n L [] = L
plain_ledger n L (a ∷ asks) = plain_ledger n (plain_after n L a) asks

-- ONE OF OUR CALLS on memory m, which leaves m': any answer that meets the call's promise. Only an update is lent the memory for
-- writing.
pub data Call (m : Memory) : Ask → Memory → Reply → Type 0 where
  update : (list : List ℕ) (m' : Memory) (r : Result ℕ Refused) → Updates m list m' r → Call m (updating list) m' (updated_so (report_of r))
  lookup : (x : ℕ) (r : Result ℕ Refused) → LooksUp m x r → Call m (looking_up x) m (found_so (answer_of r))
  lookup_list : (list : List ℕ) (x : ℕ) (r : Result ℕ Refused) → LooksUpList list x r → Call m (looking_up_in list x) m (found_so (answer_of r))
  write : (scratch output scratch' output' : List ℕ) (r : Result ℕ Refused) → Writes m scratch output scratch' output' r
      → Call m (writing scratch output) m (wrote_so (outcome_of r scratch' output'))

-- A RUN from zeroed memory of n slots: any calls, refused ones included, each lent that same memory whole
pub data Run (n : ℕ) : List Ask → Memory → List Reply → Type 0 where
  fresh : Run n [] (zeroed n) []
  next : {asks : List Ask} {m m' : Memory} {replies : List Reply} {a : Ask} {r : Reply}
      → Run n asks m replies → Call m a m' r → Run n (asks ++ (a ∷ [])) m' (replies ++ (r ∷ []))
