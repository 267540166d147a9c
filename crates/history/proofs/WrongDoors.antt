-- The wrong answers that document 01 names break the doors' promises too, each at one of its cases, whatever else they answer and leave.
use mathlib.Core.Path.{◌≡◌, refl, sym, ap, ◌∙◌}
use mathlib.Core.List.{List, [], ◌++◌}
use mathlib.Core.Option.{none}
use Prim.Native.Nat.{ℕ, ◌*◌, ◌≤◌, ◌<◌}
use native.Mathlib.Omega.{arith}
use borrow.Author.Tests.{le-ltb}
use lib.ListN.{length, drop, get_or}
use Rattle.theory.specs.Ledger.{Entry, nothing}
use Rattle.rules.specs.Numbers.{ipv4, record_bytes, most_slots, own_slots, most_input}
use Rattle.rules.specs.Records.{print_all, print_table}
use Rattle.rules.specs.Plain.{updated}
use Rattle.rules.proofs.Records.{print_all_length}
use Rattle.memory.specs.Layout.{Memory, zeros, zeroed}
use Rattle.lists.proofs.Promise as lists
use Rattle.ledger.specs.Promise.{reported}
use Rattle.ledger.proofs.Wrong as ledger
use Rattle.writing.specs.Promise.{bytes_for, into_output}
use Rattle.fresh.specs.Promise.{tabled, after_update, table_of}
use Rattle.cases.specs.Cases.{Case, after, Holds, case_c, table_c, copy_of_c, case_half, table_half}
use Rattle.cases.proofs.Cases.{c_holds, half_holds}
use Rattle.answers.specs.declared.FoundAnswer.{FoundAnswer}
use Rattle.answers.specs.declared.CountAnswer.{CountAnswer}
use Rattle.answers.proofs.Answers.{told_report}
use Rattle.answers.specs.Answers.{number_of, count_for}
use Rattle.arvandish.specs.Promise.{LooksUpForC, TablesForC}
use Rattle.arvandish_ledger.specs.Promise.{UpdatesToC, LooksUpToC, WritesToC}
use Rattle.program.specs.Promise.{refusal_record, after_list, writes_for, Answers}
use Rattle.history.proofs.Room.{more_room}
use Rattle.history.proofs.Wrong as wrong
use Rattle.history.proofs.Wrong.{first_hop}

-- A CASE AT THE DOORS: its list makes in their own slots what it makes in the case's
at_doors : (c : Case) → Holds c → c.result.refusal ≡ none → c.slots ≤ own_slots
    → updated ipv4 own_slots nothing (print_all ipv4 c.records) ≡ after c
at_doors c holds quiet few = more_room c.slots own_slots few nothing (print_all ipv4 c.records) (ap (λ a. a.refusal) holds.answers ∙ quiet)

abbrev list_c : List ℕ
list_c = print_all ipv4 case_c.records

-- A case's table there, and what is left where there is room for it
tabled_at : (c : Case) (T : List Entry) → Holds c → c.result.output ≡ T → c.result.refusal ≡ none → c.slots ≤ own_slots → (output : List ℕ)
    → bytes_for T ≤ length output
    → table_of own_slots (print_all ipv4 c.records) output
    ≡ record { refusal = none; count = length T; output = print_table ipv4 T ++ drop (bytes_for T) output }
unfolding table_of
tabled_at c T holds is quiet few output room =
    ap (λ a. after_update a.refusal a output) (at_doors c holds quiet few)
    ∙ ap (λ f. after_update f (after c) output) (ap (λ a. a.refusal) holds.answers ∙ quiet)
    ∙ ap (λ U. tabled (into_output U [] output)) (ap (λ a. a.output) holds.answers ∙ is)
    ∙ rw (le-ltb (length output) (bytes_for T) room)

c_tabled : (output : List ℕ) → bytes_for table_c ≤ length output
    → table_of own_slots list_c output ≡ record { refusal = none; count = 3; output = print_table ipv4 table_c ++ drop (bytes_for table_c) output }
c_tabled = tabled_at case_c table_c c_holds refl refl (omega arith)

-- THE DAEMON'S TABLE CALL
module _ (output output' : List ℕ) (r : CountAnswer) (room : bytes_for table_c ≤ length output) (meets : TablesForC list_c output output' r) where
  answer_c : r ≡ record { number = 0; count = 3 }
  answer_c = meets.answer ∙ ap (λ t. count_for t.refusal t.count) (c_tabled output room)

  -- one that refuses everything
  pub table_refuses_everything_breaks : (r.number ≡ 0 → ⊥) → ⊥
  table_refuses_everything_breaks refuses = refuses (ap (λ a. a.number) answer_c)

  -- one that answers the count of the list's records, as a loader did that counted what it was sent
  pub table_counts_the_list_breaks : r.count * record_bytes ipv4 ≡ length list_c → ⊥
  table_counts_the_list_breaks counts = omega (arith, counts, ap (λ a. a.count) answer_c, print_all_length ipv4 case_c.records)

  hop_c : first_hop output' ≡ 2
  hop_c = ap first_hop (meets.left ∙ ap (λ t. t.output) (c_tabled output room))

pub table_leaves_the_output_breaks : (r : CountAnswer) → TablesForC list_c (zeros (bytes_for table_c)) (zeros (bytes_for table_c)) r → ⊥
table_leaves_the_output_breaks r meets =
    let same : ◌≡◌ {A = ℕ} 0 2 = hop_c (zeros (bytes_for table_c)) (zeros (bytes_for table_c)) r (omega arith) meets in
    omega arith

pub table_copies_the_ledger_breaks : (output rest : List ℕ) (r : CountAnswer) → bytes_for table_c ≤ length output
    → TablesForC list_c output (print_table ipv4 copy_of_c ++ rest) r → ⊥
table_copies_the_ledger_breaks output rest r room meets =
    let same : ◌≡◌ {A = ℕ} 1 2 = hop_c output (print_table ipv4 copy_of_c ++ rest) r room meets in
    omega arith

-- LOOKUP IN A LIST: one that always answers 1
pub lookup_always_one_breaks : (address : ℕ) (r : FoundAnswer) → LooksUpForC [] address r → r.hop ≡ 1 → ⊥
lookup_always_one_breaks address r meets one = omega (arith, one, ap (λ a. a.hop) meets.answer, lists.empty_list address)

-- THE PROGRAM: one that writes nothing, and one that writes its input out
written_at : (c : Case) → Holds c → c.result.refusal ≡ none → c.slots ≤ own_slots → length (print_all ipv4 c.records) ≤ most_input
    → writes_for (print_all ipv4 c.records) ≡ print_table ipv4 c.result.output
unfolding writes_for
written_at c holds quiet few short =
    rw (le-ltb most_input (length (print_all ipv4 c.records)) short)
    (ap (λ a. after_list a.refusal a) (at_doors c holds quiet few)
    ∙ ap (λ f. after_list f (after c)) (ap (λ a. a.refusal) holds.answers ∙ quiet)
    ∙ ap (print_table ipv4) (ap (λ a. a.output) holds.answers))

c_written : writes_for list_c ≡ print_table ipv4 table_c
c_written = written_at case_c c_holds refl (omega arith) (omega (arith, print_all_length ipv4 case_c.records))

pub program_writes_nothing_breaks : (output output' : List ℕ) → most_input ≤ length output → Answers list_c output output' 0 → ⊥
program_writes_nothing_breaks output output' room answers =
    let none_written : 0 ≡ length (print_table ipv4 table_c) = (answers.stands room).count ∙ ap length c_written in
    let wrong : ◌≡◌ {A = ℕ} 0 24 = none_written in
    omega arith

pub program_copies_its_input_breaks : (output output' : List ℕ) → most_input ≤ length output → Answers list_c output output' (length list_c) → ⊥
program_copies_its_input_breaks output output' room answers =
    let as_many : length list_c ≡ length (print_table ipv4 table_c) = (answers.stands room).count ∙ ap length c_written in
    let wrong : ◌≡◌ {A = ℕ} 32 24 = sym (print_all_length ipv4 case_c.records) ∙ as_many in
    omega arith

-- WITHOUT A DEFAULT ROUTE: a table call that refuses such a list, and a program that tells a refusal for it
pub table_refuses_no_default_breaks : (output output' : List ℕ) (r : CountAnswer) → bytes_for table_half ≤ length output
    → TablesForC (print_all ipv4 case_half.records) output output' r → (r.number ≡ 0 → ⊥) → ⊥
table_refuses_no_default_breaks output output' r room meets refuses =
    refuses
    (ap (λ a. a.number) meets.answer ∙ ap (λ t. number_of t.refusal) (tabled_at case_half table_half half_holds refl refl (omega arith) output room))

pub program_refuses_no_default_breaks : (number : ℕ) → writes_for (print_all ipv4 case_half.records) ≡ refusal_record number 0 → ⊥
program_refuses_no_default_breaks number tells =
    let wrong : ◌≡◌ {A = ℕ} 1 255 =
    ap (λ b. get_or b 5 0)
    (sym (written_at case_half half_holds refl (omega arith) (omega (arith, print_all_length ipv4 case_half.records))) ∙ tells) in
    omega arith

-- THE LEDGER DOOR: what is wrong of the calls inside is wrong there
module _ (n : ℕ) (some_slot : 0 < n) (few : n ≤ most_slots) where
  pub ledger_refuses_everything_breaks : (m : Memory) (r : CountAnswer) → UpdatesToC (zeroed n) (ledger.default n some_slot few) m r
      → (r.number ≡ 0 → ⊥) → ⊥
  ledger_refuses_everything_breaks m r meets refuses =
      refuses
      (ap (λ a. a.number) (meets.told.told ∙ told_report meets.answer)
      ∙ ap (λ p. number_of p.refusal) (meets.meets.answer ∙ ap reported (ledger.default_taken n some_slot few)))

  pub ledger_applies_none_breaks : (r : CountAnswer) → UpdatesToC (zeroed n) (ledger.default n some_slot few) (zeroed n) r → ⊥
  ledger_applies_none_breaks r meets = ledger.applies_none_breaks n some_slot few meets.answer meets.meets

  pub ledger_always_one_breaks : (x : ℕ) (r : FoundAnswer) → LooksUpToC (zeroed n) x r → r.hop ≡ 1 → ⊥
  ledger_always_one_breaks x r meets one =
      ledger.always_one_breaks n some_slot few (λ m y. meets.answer) (λ m y. sym (ap (λ a. a.hop) meets.told.told) ∙ one) x meets.meets

module _ (m : Memory) (scratch scratch' : List ℕ) (r : CountAnswer) (C : wrong.HoldsCase case_c m scratch) where
  pub ledger_leaves_the_output_breaks : WritesToC m scratch (zeros (bytes_for table_c)) scratch' (zeros (bytes_for table_c)) r → ⊥
  ledger_leaves_the_output_breaks meets = wrong.leaves_the_output_breaks m scratch scratch' meets.answer C meets.meets

  pub ledger_copies_the_ledger_breaks : (output rest : List ℕ) → bytes_for table_c ≤ length output
      → WritesToC m scratch output scratch' (print_table ipv4 copy_of_c ++ rest) r → ⊥
  ledger_copies_the_ledger_breaks output rest room meets =
      wrong.copies_the_ledger_breaks m scratch scratch' meets.answer C output rest room meets.meets
