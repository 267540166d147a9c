-- What the doors write is the smallest table of the ledger that their list makes, and lists that forward alike give the same bytes.
use mathlib.Core.Path.{◌≡◌, sym, ap, ap₂, subst, ◌∙◌}
use mathlib.Core.List.{List, ◌++◌}
use mathlib.Core.Option.{none}
use Prim.Native.Nat.{ℕ, ◌*◌, ◌≤◌}
use native.Mathlib.Omega.{arith}
use lib.ListN.{length, take, drop}
use lib.Seq.{take_at}
use Rattle.theory.specs.Ledger.{Ledger, Entry, nothing}
use Rattle.rules.specs.Numbers.{ipv4, width, record_bytes, own_slots, most_input}
use Rattle.rules.specs.Records.{print_table}
use Rattle.rules.specs.Plain.{updated, WithinRules}
use Rattle.rules.specs.Writing.{smallest_table, ForwardAlike}
use Rattle.rules.proofs.Plain.{nothing_within, updated_kept}
use Rattle.rules.proofs.Slots.{needs_nothing}
use Rattle.rules.proofs.Records.{table_length}
use Rattle.rules.proofs.Held.{table_fits}
use Rattle.rules.proofs.Smallest.{forward_alike}
use Rattle.writing.specs.Promise.{bytes_for}
use Rattle.fresh.proofs.Promise.{made, made_only_so}
use Rattle.answers.specs.declared.CountAnswer.{CountAnswer}
use Rattle.answers.specs.Answers.{count_for}
use Rattle.arvandish.specs.Promise.{TablesForC}
use Rattle.arvandish.proofs.Promise.{table_0}
use Rattle.program.specs.Promise.{writes_for}
use Rattle.program.proofs.Telling.{writes_table}
use Rattle.history.specs.Theorem.{IsSmallest}
use Rattle.history.specs.Doors.{TablesSmallest}
use Rattle.history.proofs.Table.{is_smallest}

-- the ledger that a list makes in the doors' own slots, and its table
abbrev pub ledger_from : List ℕ → Ledger ℕ
ledger_from list = (updated ipv4 own_slots nothing list).ledger

abbrev pub table_from : List ℕ → List Entry
table_from list = smallest_table ipv4 (ledger_from list)

within : (list : List ℕ) → WithinRules (width ipv4) (ledger_from list)
within list = (updated_kept ipv4 own_slots nothing list (record { within = nothing_within (width ipv4); fits = omega (arith, needs_nothing ℕ (width ipv4)) })).within

-- THE DAEMON'S TABLE CALL: where nothing is refused and there is room, it succeeds with the smallest table
pub tables_smallest : (list output output' : List ℕ) (r : CountAnswer) → TablesForC list output output' r
    → (updated ipv4 own_slots nothing list).refusal ≡ none → bytes_for (table_from list) ≤ length output
    → TablesSmallest (ledger_from list) output output' r
tables_smallest list output output' r meets quiet room =
    let T = table_from list in
    let is = made own_slots list output quiet room in
    record {
      count = length T;
      bytes = print_table ipv4 T;
      answer = meets.answer ∙ ap (λ t. count_for t.refusal t.count) is;
      written = meets.left ∙ ap (λ t. t.output) is ∙ ap (λ k. print_table ipv4 T ++ drop k output) (sym (table_length ipv4 T));
      smallest = is_smallest (ledger_from list) (within list);
    }

-- an output as long as the list is room enough
pub list_is_enough : (list : List ℕ) → bytes_for (table_from list) ≤ length list
list_is_enough list = table_fits ipv4 own_slots list (omega arith)

-- THE NUMBER 0 ONLY SO: every record was applied, and there was room
pub zero_only_so : (list output output' : List ℕ) (r : CountAnswer) → TablesForC list output output' r → r.number ≡ 0
    → ((updated ipv4 own_slots nothing list).refusal ≡ none) × (bytes_for (table_from list) ≤ length output)
zero_only_so list output output' r meets e = made_only_so own_slots list output (table_0 list output output' r meets e)

-- FORWARDING ALIKE: the same count, and the same bytes
in_front : (list output output' : List ℕ) (r : CountAnswer) → TablesForC list output output' r → r.number ≡ 0
    → (r ≡ record { number = 0; count = length (table_from list) })
    × (take (r.count * record_bytes ipv4) output' ≡ print_table ipv4 (table_from list))
in_front list output output' r meets e =
    let T = table_from list in
    let so = zero_only_so list output output' r meets e in
    let is = made own_slots list output so.0 so.1 in
    let answer : r ≡ record { number = 0; count = length T } = meets.answer ∙ ap (λ t. count_for t.refusal t.count) is in (
      answer,
      ap₂ (λ k o. take (k * record_bytes ipv4) o) (ap (λ a. a.count) answer) (meets.left ∙ ap (λ t. t.output) is)
          ∙ take_at (print_table ipv4 T) (drop (bytes_for T) output) (bytes_for T) (table_length ipv4 T),
    )

pub tables_same_bytes : (list output output' : List ℕ) (r : CountAnswer) → TablesForC list output output' r → r.number ≡ 0
    → (list₂ output₂ output₂' : List ℕ) (r₂ : CountAnswer) → TablesForC list₂ output₂ output₂' r₂ → r₂.number ≡ 0
    → ForwardAlike ipv4 (ledger_from list) (ledger_from list₂)
    → (r ≡ r₂) × (take (r.count * record_bytes ipv4) output' ≡ take (r.count * record_bytes ipv4) output₂')
tables_same_bytes list output output' r meets e list₂ output₂ output₂' r₂ meets₂ e₂ alike =
    let same : table_from list ≡ table_from list₂ = forward_alike ipv4 (ledger_from list) (ledger_from list₂) alike in
    let one = in_front list output output' r meets e in
    let other = in_front list₂ output₂ output₂' r₂ meets₂ e₂ in
    let answer : r ≡ r₂ = one.0 ∙ ap (λ T. record { number = 0; count = length T }) same ∙ sym other.0 in (
      answer,
      one.1 ∙ ap (print_table ipv4) same ∙ sym other.1 ∙ ap (λ a. take (a.count * record_bytes ipv4) output₂') (sym answer),
    )

-- THE PROGRAM writes the smallest table's bytes and nothing else; and the same for inputs that forward alike
module _ (input : List ℕ) (fits : length input ≤ most_input) (quiet : (updated ipv4 own_slots nothing input).refusal ≡ none) where
  pub program_smallest : IsSmallest (ledger_from input) (length (table_from input)) (writes_for input)
  program_smallest =
      subst (IsSmallest (ledger_from input) (length (table_from input))) (sym (writes_table input fits quiet))
      (is_smallest (ledger_from input) (within input))

pub program_same_bytes : (input input₂ : List ℕ) → length input ≤ most_input → length input₂ ≤ most_input
    → (updated ipv4 own_slots nothing input).refusal ≡ none → (updated ipv4 own_slots nothing input₂).refusal ≡ none
    → ForwardAlike ipv4 (ledger_from input) (ledger_from input₂) → writes_for input ≡ writes_for input₂
program_same_bytes input input₂ fits fits₂ quiet quiet₂ alike =
    writes_table input fits quiet
    ∙ ap (print_table ipv4) (forward_alike ipv4 (ledger_from input) (ledger_from input₂) alike)
    ∙ sym (writes_table input₂ fits₂ quiet₂)
