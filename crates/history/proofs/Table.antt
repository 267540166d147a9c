-- WHAT IS WRITTEN from any memory at all is the smallest table of the ledger that it holds, in document 01's words; and two memories
-- that forward alike write the same bytes.
use Rattle.std.proofs.Common.{Result, Ok}
use Rattle.refusals.specs.declared.Refused.{Refused}
use mathlib.Core.Path.{◌≡◌, refl, sym, ap, ap₂, ◌∙◌}
use mathlib.Core.List.{List, ◌++◌}
use mathlib.Core.Option.{none}
use Prim.Native.Nat.{ℕ, ◌*◌, ◌≤◌, ◌<◌}
use native.Mathlib.Omega.{arith}
use lib.ListN.{length, take, drop}
use lib.Seq.{take_at}
use Rattle.theory.specs.Ledger.{Ledger, Entry, nothing, load}
use Rattle.theory.proofs.Hops.{never}
use Rattle.rules.specs.Numbers.{ipv4, width, record_bytes, most_slots, scratch_words}
use Rattle.rules.specs.Records.{print_table}
use Rattle.rules.specs.Plain.{needs, WithinRules}
use Rattle.rules.specs.Writing.{smallest_table, ForwardAlike, SmallestFor}
use Rattle.rules.proofs.Records.{table_length}
use Rattle.rules.proofs.Slots.{needs_mono, needs_nothing}
use Rattle.rules.proofs.Smallest.{smallest_for, forward_alike}
use Rattle.rules.proofs.Lists.{table_reads_back, table_looked_up, no_shorter_list}
use Rattle.rules.proofs.Reload.{loads}
use Rattle.memory.specs.Layout.{Memory, ledger_of, zeros, zeroed}
use Rattle.memory.proofs.Ledger.{within_rules}
use Rattle.memory.proofs.Zeros.{zeroed_slots}
use Rattle.ledger.specs.Promise.{update_of, reported, Updates}
use Rattle.ledger.proofs.History.{zeroed_fine}
use Rattle.ledger.proofs.Wrong.{from_zeros}
use Rattle.writing.specs.Promise.{bytes_for, write_fault, Writes}
use Rattle.writing.proofs.Promise.{Same, fault_none, table_of, only_so}
use Rattle.history.specs.Theorem.{IsSmallest, WritesSmallest}

-- every ledger needs a slot
some_slot : (w : ℕ) (L : Ledger ℕ) → 0 < needs w L
some_slot w L = omega (arith, needs_mono w L nothing (λ s e. never e refl), needs_nothing ℕ w)

-- what a memory writes, where T is its smallest table
written_from : (m : Memory) (scratch output scratch' output' : List ℕ) (r : Result ℕ Refused) → Writes m scratch output scratch' output' r
    → write_fault m scratch ≡ none
    → (T : List Entry) → smallest_table ipv4 (ledger_of (width ipv4) m) ≡ T → bytes_for T ≤ length output
    → Same r scratch' output' (Ok (length T)) (zeros (length scratch)) (print_table ipv4 T ++ drop (length (print_table ipv4 T)) output)
written_from m scratch output scratch' output' r meets fine T is room =
    rw (table_length ipv4 T) (table_of m scratch output scratch' output' r meets fine T is room)

-- THE TABLE OF A LEDGER within the rules
module _ (L : Ledger ℕ) (ok : WithinRules (width ipv4) L) where
  abbrev T : List Entry
  T = smallest_table ipv4 L

  abbrev bytes : List ℕ
  bytes = print_table ipv4 (smallest_table ipv4 L)

  all : SmallestFor ipv4 L (smallest_table ipv4 L)
  all = smallest_for ipv4 L ok

  -- loaded into fresh memory with enough slots, every record is taken, and the ledger is the table's
  module _ (n : ℕ) (fits : needs (width ipv4) (load T) ≤ n) (few : n ≤ most_slots) (m : Memory) (u : Result ℕ Refused)
      (taken : Updates (zeroed n) bytes m u) where
    lent : 0 < n
    lent = omega (arith, some_slot (width ipv4) (load T))

    loaded : update_of (zeroed n) bytes ≡ record { refusal = none; count = length T; ledger = load T }
    loaded = from_zeros n lent few bytes ∙ loads ipv4 n T all.proper fits

    holds_it : ledger_of (width ipv4) m ≡ load T
    holds_it = taken.ledger ∙ ap (λ a. a.ledger) loaded

    written_again : (scratch output scratch' output' : List ℕ) (r : Result ℕ Refused) → Writes m scratch output scratch' output' r
        → length scratch ≡ scratch_words n → bytes_for T ≤ length output
        → Same r scratch' output' (Ok (length T)) (zeros (length scratch)) (bytes ++ drop (length bytes) output)
    written_again scratch output scratch' output' r meets sized room =
        written_from m scratch output scratch' output' r meets
        (fault_none m scratch (taken.no_2_later (zeroed_fine n lent few)) (sized ∙ ap scratch_words (sym (taken.same_lengths.ups ∙ zeroed_slots n))))
        T (ap (smallest_table ipv4) holds_it ∙ all.again) room

  pub is_smallest : IsSmallest L (length T) bytes
  is_smallest = record {
    sized = table_length ipv4 T;
    agrees = λ x l f looks. looks.answer ∙ table_looked_up ipv4 L ok x l;
    fewest_records = λ list same. omega (arith, table_length ipv4 T, no_shorter_list ipv4 L ok list same);
    fewest_entries = all.fewest;
    at_most_held = all.at_most_held;
    reads_back = table_reads_back ipv4 L ok;
    loads = λ n fits few m u taken. taken.answer ∙ ap reported (loaded n fits few m u taken);
    again = λ n fits few m u taken scratch output scratch' output' r meets sized room.
        let now = written_again n fits few m u taken scratch output scratch' output' r meets sized (omega (arith, table_length ipv4 T)) in
        (now.0, now.2);
  }

-- ANY MEMORY
pub writes_smallest : (m : Memory) (scratch output scratch' output' : List ℕ) (r : Result ℕ Refused) → Writes m scratch output scratch' output' r
    → write_fault m scratch ≡ none
    → bytes_for (smallest_table ipv4 (ledger_of (width ipv4) m)) ≤ length output
    → WritesSmallest (ledger_of (width ipv4) m) (length scratch) output scratch' output' r
writes_smallest m scratch output scratch' output' r meets fine room =
    let L = ledger_of (width ipv4) m in
    let ok = within_rules (width ipv4) m in
    let now = written_from m scratch output scratch' output' r meets fine (smallest_table ipv4 L) refl room in
    record {
      count = length (smallest_table ipv4 L);
      bytes = print_table ipv4 (smallest_table ipv4 L);
      answer = now.0;
      written = now.2;
      scratch_zero = now.1;
      smallest = is_smallest L ok;
    }

-- FORWARDING ALIKE: the same count, and the same bytes
table_in_front : (m : Memory) (scratch output scratch' output' : List ℕ) (r : Result ℕ Refused) (c : ℕ) → Writes m scratch output scratch' output' r
    → r ≡ Ok c
    → (c ≡ length (smallest_table ipv4 (ledger_of (width ipv4) m)))
    × (take (c * record_bytes ipv4) output' ≡ print_table ipv4 (smallest_table ipv4 (ledger_of (width ipv4) m)))
table_in_front m scratch output scratch' output' r c meets is =
    let T = smallest_table ipv4 (ledger_of (width ipv4) m) in
    let now = only_so m scratch output scratch' output' r meets c is in
    let answer : Ok c ≡ Ok (length T) = sym is ∙ now.0 in
    let count : c ≡ length T = cc in (
      count,
      ap₂ (λ k o. take (k * record_bytes ipv4) o) count now.2 ∙ take_at (print_table ipv4 T) (drop (bytes_for T) output) (bytes_for T) (table_length ipv4 T),
    )

pub same_bytes : (m m₂ : Memory) → ForwardAlike ipv4 (ledger_of (width ipv4) m) (ledger_of (width ipv4) m₂)
    → (scratch output scratch' output' : List ℕ) (r : Result ℕ Refused) (c : ℕ) → Writes m scratch output scratch' output' r → r ≡ Ok c
    → (scratch₂ output₂ scratch₂' output₂' : List ℕ) (r₂ : Result ℕ Refused) (c₂ : ℕ) → Writes m₂ scratch₂ output₂ scratch₂' output₂' r₂ → r₂ ≡ Ok c₂
    → (c ≡ c₂) × (take (c * record_bytes ipv4) output' ≡ take (c * record_bytes ipv4) output₂')
same_bytes m m₂ alike scratch output scratch' output' r c meets is scratch₂ output₂ scratch₂' output₂' r₂ c₂ meets₂ is₂ =
    let same : smallest_table ipv4 (ledger_of (width ipv4) m) ≡ smallest_table ipv4 (ledger_of (width ipv4) m₂) =
    forward_alike ipv4 (ledger_of (width ipv4) m) (ledger_of (width ipv4) m₂) alike in
    let one = table_in_front m scratch output scratch' output' r c meets is in
    let other = table_in_front m₂ scratch₂ output₂ scratch₂' output₂' r₂ c₂ meets₂ is₂ in
    let count : c ≡ c₂ = one.0 ∙ ap length same ∙ sym other.0 in
    (count, one.1 ∙ ap (print_table ipv4) same ∙ sym other.1 ∙ ap (λ k. take (k * record_bytes ipv4) output₂') (sym count))
