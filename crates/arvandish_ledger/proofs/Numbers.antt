-- What the ledger door's number says: 0 that the call succeeded, else the refusal: 1 to 9 of an update, 1 or 2 of a lookup, 1, 2 or 11
-- of a writing.
use mathlib.Core.Path.{◌≡◌, refl, ap, ◌∙◌}
use mathlib.Core.Logic.{inl, inr}
use mathlib.Core.Bool.{not, ◌||◌}
use mathlib.Core.List.{List, [], ◌∷◌}
use mathlib.Core.Option.{Option, none, some}
use Prim.Native.Nat.{ℕ}
use native.Mathlib.Omega.{arith}
use lib.Dec.{eqb, ltb}
use lib.ListN.{length}
use Rattle.theory.specs.Ledger.{Entry}
use Rattle.theory.proofs.Hops.{by_test}
use Rattle.rules.specs.Numbers.{ipv4, width, scratch_words, bad_slices, no_ledger, bad_list_length, no_slots}
use Rattle.rules.specs.Records.{◌refused_by◌}
use Rattle.rules.specs.Plain.{updated}
use Rattle.rules.specs.Writing.{smallest_table}
use Rattle.rules.proofs.Numbered.{Between, BetweenOrShort, first_between, update_between}
use Rattle.memory.specs.Layout.{Memory, slots, ledger_of, holds_ledger}
use Rattle.lent.specs.Lent.{bad_lent, lent_fault}
use Rattle.ledger.specs.Promise.{after_fault, update_of, found_after}
use Rattle.writing.specs.Promise.{bytes_for, into_output, write_fault, write_after, write_of}
use Rattle.answers.specs.declared.FoundAnswer.{FoundAnswer}
use Rattle.answers.specs.declared.CountAnswer.{CountAnswer}
use Rattle.answers.specs.Answers.{number_of}
use Rattle.answers.proofs.Answers.{Numbered, NumberedOrShort, wider, numbered, zero_is_success, numbered_or_short, zero_is_written, told_report, told_beside}
use Rattle.arvandish_ledger.specs.Promise.{UpdatesToC, LooksUpToC, WritesToC}

-- the rules 1 and 2
lent_range : (m : Memory) → Between bad_slices no_ledger (lent_fault m)
unfolding lent_fault
lent_range m =
    first_between bad_slices no_ledger (bad_lent m refused_by bad_slices ∷ not (holds_ledger m.tree) refused_by no_ledger ∷ [])
    ((omega arith, omega arith), ((omega arith, omega arith), tt))

-- UPDATE: 1 to 9
module _ (m : Memory) (list : List ℕ) where
  update_range : Between bad_slices no_slots (update_of m list).refusal
  unfolding update_of
  update_range = go (lent_fault m) (lent_range m)
    where
      go : (f : Option ℕ) → Between bad_slices no_ledger f → Between bad_slices no_slots (after_fault f m list).refusal
      go none in-range =
          let L = ledger_of (width ipv4) m in
          wider bad_list_length no_slots bad_slices no_slots (updated ipv4 (slots m.tree) L list).refusal (omega arith) (omega arith)
          (update_between ipv4 (slots m.tree) L list)
      go (some x) in-range = wider bad_slices no_ledger bad_slices no_slots (some x) (omega arith) (omega arith) in-range

  module _ (m' : Memory) (r : CountAnswer) (meets : UpdatesToC m list m' r) where
    update_told : r.number ≡ number_of (update_of m list).refusal
    update_told = ap (λ a. a.number) (meets.told.told ∙ told_report meets.answer) ∙ ap (λ a. number_of a.refusal) meets.meets.answer

    pub update_number : Numbered bad_slices no_slots r.number
    update_number = numbered bad_slices no_slots (update_of m list).refusal r.number update_told update_range

    pub update_0 : r.number ≡ 0 → (update_of m list).refusal ≡ none
    update_0 = zero_is_success bad_slices no_slots (update_of m list).refusal r.number (omega arith) update_told update_range

-- LOOKUP: 1 or 2
module _ (m : Memory) (x : ℕ) where
  lookup_range : Between bad_slices no_ledger (found_after (lent_fault m) m x).refusal
  lookup_range = go (lent_fault m) (lent_range m)
    where
      go : (f : Option ℕ) → Between bad_slices no_ledger f → Between bad_slices no_ledger (found_after f m x).refusal
      go none in-range = tt
      go (some y) in-range = in-range

  module _ (r : FoundAnswer) (meets : LooksUpToC m x r) where
    lookup_told : r.number ≡ number_of (found_after (lent_fault m) m x).refusal
    lookup_told = ap (λ a. a.number) meets.told.told ∙ ap (λ a. number_of a.refusal) meets.meets.answer

    pub lookup_number : Numbered bad_slices no_ledger r.number
    lookup_number = numbered bad_slices no_ledger (found_after (lent_fault m) m x).refusal r.number lookup_told lookup_range

    pub lookup_0 : r.number ≡ 0 → (found_after (lent_fault m) m x).refusal ≡ none
    lookup_0 = zero_is_success bad_slices no_ledger (found_after (lent_fault m) m x).refusal r.number (omega arith) lookup_told lookup_range

-- WRITING: 1, 2 and 11
module _ (m : Memory) (scratch output : List ℕ) where
  write_fault_range : Between bad_slices no_ledger (write_fault m scratch)
  unfolding write_fault
  write_fault_range =
      first_between bad_slices no_ledger
      ((bad_lent m || not (eqb (length scratch) (scratch_words (slots m.tree)))) refused_by bad_slices
      ∷ not (holds_ledger m.tree) refused_by no_ledger
      ∷ [])
      ((omega arith, omega arith), ((omega arith, omega arith), tt))

  write_range : BetweenOrShort bad_slices no_ledger (write_of m scratch output).refusal
  unfolding write_of
  write_range = go (write_fault m scratch) write_fault_range
    where
      into : (T : List Entry) → BetweenOrShort bad_slices no_ledger (into_output T scratch output).refusal
      into T = elim (by_test (ltb (length output) (bytes_for T))) [ inl short ↦ rw short (inr refl) | inr fits ↦ rw fits tt ]

      go : (f : Option ℕ) → Between bad_slices no_ledger f → BetweenOrShort bad_slices no_ledger (write_after f m scratch output).refusal
      go none in-range = into (smallest_table ipv4 (ledger_of (width ipv4) m))
      go (some x) in-range = inl in-range

  module _ (scratch' output' : List ℕ) (r : CountAnswer) (meets : WritesToC m scratch output scratch' output' r) where
    write_told : r.number ≡ number_of (write_of m scratch output).refusal
    write_told =
        ap (λ a. a.number) (meets.told.told ∙ told_beside meets.answer scratch' output')
        ∙ ap (λ w. number_of w.refusal) meets.meets.outcome

    pub write_number : NumberedOrShort bad_slices no_ledger r.number
    write_number = numbered_or_short bad_slices no_ledger (write_of m scratch output).refusal r.number write_told write_range

    pub write_0 : r.number ≡ 0 → (write_of m scratch output).refusal ≡ none
    write_0 = zero_is_written bad_slices no_ledger (write_of m scratch output).refusal r.number (omega arith) write_told write_range
