-- DEMAND 3, in document 01's words, as item 2 of document 02 changes them.
use Rattle.std.specs.Prelude.{Result, Ok}
use Rattle.refusals.specs.declared.Refused.{Refused}
use Rattle.std.specs.Prelude.{◌≡◌, true, List, ◌++◌, ℕ, ◌*◌, ◌≤◌, ◌<◌, length, drop}
use Rattle.std.proofs.Math.Option.{none, some}
use Rattle.theory.specs.Bits.{Each}
use Rattle.theory.specs.Ledger.{Ledger, Entry, nothing, held, load}
use Rattle.rules.specs.Numbers.{ipv4, width, addresses, record_bytes, most_slots, scratch_words, no_ledger}
use Rattle.rules.specs.Lookup.{hop_of, scanned, AnswersAs}
use Rattle.rules.specs.Plain.{needs}
use Rattle.rules.specs.Writing.{smallest_table, ForwardsAs}
use Rattle.memory.specs.Layout.{Memory, slots, ledger_of, zeros, zeroed}
use Rattle.lent.specs.Lent.{lent_fault}
use Rattle.lists.specs.Promise.{answer_of, LooksUpList}
use Rattle.ledger.specs.Promise.{Updates, report_of}
use Rattle.writing.specs.Promise.{Writes}
use Rattle.history.specs.Runs.{Ask, Reply, updated_so, found_so, wrote_so, plain_replies, plain_ledger}

-- no reply is refusal 2
abbrev pub NotTwo : Reply → Type 0
NotTwo (updated_so r) = r.refusal ≡ some no_ledger → ⊥
NotTwo (found_so a) = a.refusal ≡ some no_ledger → ⊥
NotTwo (wrote_so w) = w.refusal ≡ some no_ledger → ⊥

-- AFTER ANY RUN: every answer is what a plain ledger of the accepted records gives, the memory holds that ledger, and refusal 2
-- never came and never comes
pub record HoldsOfRun (n : ℕ) (asks : List Ask) (m : Memory) (replies : List Reply) : Type 0 where
  pub answers : replies ≡ plain_replies n nothing asks
  pub ledger : ledger_of (width ipv4) m ≡ plain_ledger n nothing asks
  pub same_slots : slots m.tree ≡ n
  pub not_two : Each NotTwo replies
  pub let_through : lent_fault m ≡ none

-- WHAT IS WRITTEN for a ledger L: `count` records, `bytes`
pub record IsSmallest (L : Ledger ℕ) (count : ℕ) (bytes : List ℕ) : Type 0 where
  pub sized : length bytes ≡ count * record_bytes ipv4
  -- the same hop or the same discard as in the ledger on all 4,294,967,296 addresses, as our list lookup finds them in these bytes
  pub agrees : (x : ℕ) → x < addresses ipv4 → (f : Result ℕ Refused) → LooksUpList bytes x f
      → answer_of f ≡ record { refusal = none; hop = hop_of ipv4 L x; place = 0 }
  -- no list that agrees has fewer entries: no record list, nor any list of entries with any prefixes and any hops
  pub fewest_records : (list : List ℕ) → AnswersAs ipv4 L list → length bytes ≤ length list
  pub fewest_entries : (es : List Entry) → ForwardsAs ipv4 L es → count ≤ length es
  -- never more than the routes held
  pub at_most_held : count ≤ held (width ipv4) L
  -- the written records read back as the routes that they stand for
  pub reads_back : scanned ipv4 bytes ≡ record { refusal = none; place = 0; entries = smallest_table ipv4 L }
  -- loaded into fresh memory with enough slots and written again, they give the same bytes
  pub loads : (n : ℕ) → needs (width ipv4) (load (smallest_table ipv4 L)) ≤ n → n ≤ most_slots
      → (m : Memory) (u : Result ℕ Refused) → Updates (zeroed n) bytes m u → report_of u ≡ record { refusal = none; count = count; complete = true }
  pub again : (n : ℕ) → needs (width ipv4) (load (smallest_table ipv4 L)) ≤ n → n ≤ most_slots
      → (m : Memory) (u : Result ℕ Refused) → Updates (zeroed n) bytes m u
      → (scratch output scratch' output' : List ℕ) (r : Result ℕ Refused) → Writes m scratch output scratch' output' r
      → length scratch ≡ scratch_words n → length bytes ≤ length output
      → (r ≡ Ok count) × (output' ≡ bytes ++ drop (length bytes) output)

-- WRITING SUCCEEDS: the count is answered, the smallest table's bytes stand in front of the output, every byte behind them is as it
-- was, and the scratch is zero
pub record WritesSmallest (L : Ledger ℕ) (words : ℕ) (output scratch' output' : List ℕ) (r : Result ℕ Refused) : Type 0 where
  pub count : ℕ
  pub bytes : List ℕ
  pub answer : r ≡ Ok count
  pub written : output' ≡ bytes ++ drop (length bytes) output
  pub scratch_zero : scratch' ≡ zeros words
  pub smallest : IsSmallest L count bytes
