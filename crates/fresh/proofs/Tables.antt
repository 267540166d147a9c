-- A list applied to zeroed memory and a table written from there: the answer is that of the plain ledger, since zeroed memory is the
-- empty ledger and the memory that an update leaves is let through.
use mathlib.Core.Path.{◌≡◌, sym, ap, ap₂, subst, ◌∙◌}
use mathlib.Core.Logic.{inl, inr}
use mathlib.Core.List.{List, []}
use mathlib.Core.Option.{none, some}
use Prim.Native.Nat.{ℕ, ◌≤◌, ◌<◌}
use lib.Dec.{ltb}
use native.Mathlib.Omega.{arith}
use lib.ListN.{length, length-replicate}
use borrow.Author.Tests.{ltb-true, ltb-false}
use Rattle.theory.specs.Ledger.{Entry, nothing}
use Rattle.theory.proofs.Hops.{by_test}
use Rattle.rules.specs.Numbers.{ipv4, width, most_slots, scratch_words}
use Rattle.rules.specs.Plain.{Applied, updated}
use Rattle.rules.specs.Writing.{smallest_table}
use Rattle.memory.specs.Layout.{Memory, memory_of, slots, ledger_of, zeros, zeroed}
use Rattle.memory.proofs.Zeros.{zeroed_slots}
use Rattle.std.proofs.Common.{Result, Ok, Err}
use Rattle.refusals.specs.declared.Refused.{Refused}
use Rattle.refusals.specs.Numbered.{number_of}
use Rattle.ledger.specs.Promise.{Updates}
use Rattle.ledger.proofs.History.{zeroed_fine}
use Rattle.ledger.proofs.Wrong.{from_zeros}
use Rattle.writing.specs.Promise.{bytes_for, into_output, write_fault, Writes}
use Rattle.writing.proofs.Promise.{fault_none, refused_11, table_written}
use Rattle.fresh.specs.Promise.{tabled, tabled_of, stopped, after_update, table_of, TablesIn}
use Rattle.fresh.specs.Steps.{Fresh}

module _ (n : ℕ) (some_slot : 0 < n) (few : n ≤ most_slots) (list output : List ℕ) (m : Memory) where
  -- what the plain ledger comes to
  abbrev A : Applied
  A = updated ipv4 n nothing list

  -- 3 TO 9: the update was refused, and nothing was written
  update_stopped : (x : Refused) → Updates (zeroed n) list m (Err x) → TablesIn n list output output (Err x)
  unfolding table_of
  update_stopped x meets =
      let refusal : some (number_of x.refusal) ≡ A.refusal = ap (λ a. a.refusal) meets.answer ∙ ap (λ a. a.refusal) (from_zeros n some_slot few list) in
      let count : x.count ≡ A.count = ap (λ a. a.count) meets.answer ∙ ap (λ a. a.count) (from_zeros n some_slot few list) in
      record { outcome = ap (λ k. stopped (number_of x.refusal) k output) count ∙ ap (λ f. after_update f A output) refusal }

  -- THE UPDATE IS COMPLETE, and the memory that it left is written from
  module _ (applied : ℕ) (complete : Updates (zeroed n) list m (Ok applied)) (scratch scratch' output' : List ℕ) (r : Result ℕ Refused)
      (sized : length scratch ≡ scratch_words n) (meets : Writes m scratch output scratch' output' r) where
    fine : write_fault m scratch ≡ none
    fine =
        fault_none m scratch (complete.no_2_later (zeroed_fine n some_slot few))
        (sized ∙ ap scratch_words (sym (complete.same_lengths.ups ∙ zeroed_slots n)))

    abbrev T : List Entry
    T = smallest_table ipv4 (ledger_of (width ipv4) m)

    from_plain : tabled (into_output T [] output) ≡ table_of n list output
    unfolding table_of
    from_plain =
        let refusal : none ≡ A.refusal = ap (λ a. a.refusal) complete.answer ∙ ap (λ a. a.refusal) (from_zeros n some_slot few list) in
        let ledger : ledger_of (width ipv4) m ≡ A.ledger = complete.ledger ∙ ap (λ a. a.ledger) (from_zeros n some_slot few list) in
        ap (λ L. tabled (into_output (smallest_table ipv4 L) [] output)) ledger ∙ ap (λ f. after_update f A output) refusal

    as_written : tabled_of r output' ≡ tabled (into_output T [] output)
    as_written =
        elim (by_test (ltb (length output) (bytes_for T))) [
          | inl short ↦
              let so = refused_11 m scratch output scratch' output' r meets fine (ltb-true (length output) (bytes_for T) short) in
              ap₂ tabled_of so.0 so.2 ∙ rw short
          | inr fits ↦
              let so = table_written m scratch output scratch' output' r meets fine (ltb-false (length output) (bytes_for T) fits) in
              ap₂ tabled_of so.0 so.2 ∙ rw fits
        ]

    table_follows : TablesIn n list output output' r
    table_follows = record { outcome = as_written ∙ from_plain }

-- THE SAME of what the step is lent
module _ (m₀ m : Memory) (scratch list output : List ℕ) (fresh : Fresh m₀ scratch) (u : Result ℕ Refused) (meets : Updates m₀ list m u) where
  from_zeroed : (v : Result ℕ Refused) → u ≡ v → Updates (zeroed (slots m₀.tree)) list m v
  from_zeroed v e = subst (λ k. Updates k list m v) fresh.zeros (subst (Updates m₀ list m) e meets)

  pub stops : (x : Refused) → u ≡ Err x → TablesIn (slots m₀.tree) list output output (Err x)
  stops x e = update_stopped (slots m₀.tree) fresh.some_slot fresh.few list output m x (from_zeroed (Err x) e)

  pub follows : (applied : ℕ) → u ≡ Ok applied → (scratch' output' : List ℕ) (r : Result ℕ Refused)
      → Writes m scratch output scratch' output' r → TablesIn (slots m₀.tree) list output output' r
  follows applied e scratch' output' r writes =
      table_follows (slots m₀.tree) fresh.some_slot fresh.few list output m applied (from_zeroed (Ok applied) e) scratch scratch' output' r
      fresh.sized writes

-- ZEROED SLICES of n slots are what the step asks for
pub zeroed_fresh : (n : ℕ) → 0 < n → n ≤ most_slots → Fresh (memory_of (zeros n) (zeros n) (zeros n) (zeros n)) (zeros (scratch_words n))
unfolding zeroed
zeroed_fresh n some_slot few =
    let sized : length (zeros n) ≡ n = length-replicate n 0 in
    record {
      zeros = ap (λ k. memory_of (zeros k) (zeros k) (zeros k) (zeros k)) (sym sized);
      some_slot = omega (arith, sized);
      few = omega (arith, sized);
      sized = length-replicate (scratch_words n) 0 ∙ ap scratch_words (sym sized);
    }
