-- The promise of writing fixes all that it promises of: two answers that meet it are equal, and so are the scratch and the output
-- that they leave. What it comes to in plain words: each refusal, and the table.
use mathlib.Core.Path.{◌≡◌, refl, sym, ap, ◌∙◌}
use mathlib.Core.Logic.{◌⊎◌, inl, inr}
use mathlib.Core.Bool.{true, false}
use mathlib.Core.List.{List, ◌++◌}
use mathlib.Core.Option.{Option, none, some}
use Prim.Native.Nat.{ℕ, ◌≤◌, ◌<◌}
use native.Mathlib.Omega.{arith}
use lib.Dec.{ltb}
use lib.ListN.{length, drop, length-append, length-drop, length-replicate}
use borrow.Author.Tests.{ltb-true, ltb-false, lt-ltb, le-ltb, eq-eqb, ne_eqb}
use Rattle.theory.specs.Ledger.{Entry}
use Rattle.theory.proofs.Hops.{by_test, or_right}
use Rattle.theory.proofs.Longest.{none_some}
use Rattle.rules.specs.Numbers.{ipv4, width, scratch_words, bad_slices}
use Rattle.rules.specs.Records.{print_table}
use Rattle.rules.specs.Writing.{smallest_table}
use Rattle.rules.proofs.Records.{table_length}
use Rattle.memory.specs.Layout.{Memory, slots, ledger_of, holds_ledger, zeros}
use Rattle.lent.specs.Lent.{bad_lent, lent_fault}
use Rattle.lent.proofs.Faults.{of_good, let_through, holds_of}
use Rattle.std.proofs.Common.{[], not, ◌||◌, eqb, Result, Ok, Err}
use Rattle.refusals.specs.declared.Refusal.{Refusal}
use Rattle.refusals.specs.declared.Refusal.TheVariants.{BadSlices, NoLedger, ShortOutput}
use Rattle.refusals.specs.declared.Refused.{Refused}
use Rattle.refusals.specs.Numbered.{number_of}
use Rattle.refusals.specs.Counted.{refused_at}
use Rattle.refusals.proofs.Numbered.{same_refused, some_same}
use Rattle.writing.specs.Promise.{Outcome, outcome_of, bytes_for, into_output, write_fault, write_after, write_of, Writes}

-- ONE ANSWER, and one scratch and one output beside it
abbrev pub Same : Result ℕ Refused → List ℕ → List ℕ → Result ℕ Refused → List ℕ → List ℕ → Type 0
Same r scratch output r₂ scratch₂ output₂ = (r ≡ r₂) × (scratch ≡ scratch₂) × (output ≡ output₂)

same_outcome : (r r₂ : Result ℕ Refused) (s o s₂ o₂ : List ℕ) → outcome_of r s o ≡ outcome_of r₂ s₂ o₂ → Same r s o r₂ s₂ o₂
same_outcome (Ok c) (Ok d) s o s₂ o₂ e = (ap (λ a. Ok a.count) e, ap (λ a. a.scratch) e, ap (λ a. a.output) e)
same_outcome (Ok c) (Err y) s o s₂ o₂ e = none_some (ap (λ a. a.refusal) e) refl
same_outcome (Err x) (Ok d) s o s₂ o₂ e = none_some refl (ap (λ a. a.refusal) e)
same_outcome (Err x) (Err y) s o s₂ o₂ e = (
  ap Err (same_refused x y (some_same (ap (λ a. a.refusal) e)) (ap (λ a. a.count) e)),
  ap (λ a. a.scratch) e,
  ap (λ a. a.output) e,
)

module _ (m : Memory) (scratch output : List ℕ) where
  pub one_answer : (s₁ o₁ s₂ o₂ : List ℕ) (r₁ r₂ : Result ℕ Refused) → Writes m scratch output s₁ o₁ r₁ → Writes m scratch output s₂ o₂ r₂
      → Same r₁ s₁ o₁ r₂ s₂ o₂
  one_answer s₁ o₁ s₂ o₂ r₁ r₂ one other = same_outcome r₁ r₂ s₁ o₁ s₂ o₂ (one.outcome ∙ sym other.outcome)

-- and there is one: whatever is lent, some answer meets the promise. What refuses by a rule of the whole call is a refusal that has a name ..
named : (m : Memory) (scratch : List ℕ) → (write_fault m scratch ≡ none) ⊎ ((x : Refusal) × (write_fault m scratch ≡ some (number_of x)))
unfolding write_fault
named m scratch =
    elim (by_test (bad_lent m || not (eqb (length scratch) (scratch_words (slots m.tree))))) [
      | inl bad ↦ inr (BadSlices, rw bad)
      | inr good ↦
          elim (by_test (holds_ledger m.tree)) [
            | inl holds ↦ inl (rw (good, holds))
            | inr empty ↦ inr (NoLedger, rw (good, empty))
          ]
    ]

-- .. and the table has room, or it has not
answer_into : (T : List Entry) (scratch output : List ℕ)
    → (r : Result ℕ Refused) × (outcome_of r (into_output T scratch output).scratch (into_output T scratch output).output ≡ into_output T scratch output)
answer_into T scratch output =
    elim (by_test (ltb (length output) (bytes_for T))) [
      | inl short ↦ (Err (refused_at ShortOutput (length T)), rw short)
      | inr fits ↦ (Ok (length T), rw fits)
    ]

pub some_answer : (m : Memory) (scratch output : List ℕ)
    → (r : Result ℕ Refused) × Writes m scratch output (write_of m scratch output).scratch (write_of m scratch output).output r
unfolding write_of
some_answer m scratch output =
    elim (named m scratch) [
      | inl fine ↦
          let found = answer_into (smallest_table ipv4 (ledger_of (width ipv4) m)) scratch output in
          (found.0, record { outcome = rw fine found.1 })
      | inr refused ↦ (Err (refused_at refused.0 0), record { outcome = rw refused.1 })
    ]

beside : (r : Result ℕ Refused) (s o : List ℕ) → ((outcome_of r s o).scratch ≡ s) × ((outcome_of r s o).output ≡ o)
beside (Ok c) s o = (refl, refl)
beside (Err x) s o = (refl, refl)

-- LENGTHS STAY, whatever comes of the call
pub lengths_stay : (m : Memory) (scratch output scratch' output' : List ℕ) (r : Result ℕ Refused) → Writes m scratch output scratch' output' r
    → (length scratch' ≡ length scratch) × (length output' ≡ length output)
unfolding write_of
lengths_stay m scratch output scratch' output' r meets =
    let kept = after (write_fault m scratch) in
    let left = beside r scratch' output' in (
      ap length (sym left.0) ∙ ap (λ w. length w.scratch) meets.outcome ∙ kept.0,
      ap length (sym left.1) ∙ ap (λ w. length w.output) meets.outcome ∙ kept.1,
    )
  where
    Kept : Outcome → Type 0
    Kept w = (length w.scratch ≡ length scratch) × (length w.output ≡ length output)

    table : (T : List Entry) → Kept (into_output T scratch output)
    table T =
        elim (by_test (ltb (length output) (bytes_for T))) [
          | inl short ↦ rw short (length-replicate (length scratch) 0, refl)
          | inr fits ↦
              rw fits (
                length-replicate (length scratch) 0,
                length-append (print_table ipv4 T) (drop (bytes_for T) output)
                    ∙ omega (arith, table_length ipv4 T, length-drop (bytes_for T) output, ltb-false (length output) (bytes_for T) fits),
              )
        ]

    after : (f : Option ℕ) → Kept (write_after f m scratch output)
    after none = table (smallest_table ipv4 (ledger_of (width ipv4) m))
    after (some x) = (refl, refl)

-- WHAT THE SCRATCH HOLDS NEVER MATTERS: only its length does. And but for refusals 1 and 2, which give count 0 and change
-- nothing, what is left in it is the same too.
same_length : (m : Memory) (a b : List ℕ) → length a ≡ length b → write_fault m a ≡ write_fault m b
unfolding write_fault
same_length m a b e = rw e

pub scratch_never_matters : (m : Memory) (output a b a' b' p q : List ℕ) (r s : Result ℕ Refused)
    → length a ≡ length b → Writes m a output a' p r → Writes m b output b' q s
    → (r ≡ s) × (p ≡ q) × (((x : Refusal) → r ≡ Err (refused_at x 0) → ⊥) → a' ≡ b')
unfolding write_of
scratch_never_matters m output a b a' b' p q r s e one other =
    elim (named m a) [
      | inl fine ↦
          let same = same_outcome r s a' p b' q (first fine ∙ same_into ∙ sym (second fine)) in
          (same.0, same.2, λ other. same.1)
      | inr refused ↦
          let here = same_outcome r (Err (refused_at refused.0 0)) a' p a output (first refused.1) in
          let there = same_outcome s (Err (refused_at refused.0 0)) b' q b output (second refused.1) in
          (here.0 ∙ sym there.0, here.2 ∙ sym there.2, λ not_so. absurd (not_so refused.0 here.0))
    ]
  where
    same_into : write_after none m a output ≡ write_after none m b output
    same_into = rw e

    first : {f : Option ℕ} → write_fault m a ≡ f → outcome_of r a' p ≡ write_after f m a output
    first is = one.outcome ∙ ap (λ f. write_after f m a output) is

    second : {f : Option ℕ} → write_fault m a ≡ f → outcome_of s b' q ≡ write_after f m b output
    second is = other.outcome ∙ ap (λ f. write_after f m b output) (sym (same_length m a b e) ∙ is)

-- WHAT 1 REFUSES: the lent slices, or a scratch of another length; and what 1 and 2 let through
module _ (m : Memory) (scratch : List ℕ) where
  pub fault_slices : (bad_lent m ≡ true) ⊎ (length scratch ≡ scratch_words (slots m.tree) → ⊥) → write_fault m scratch ≡ some bad_slices
  unfolding write_fault
  fault_slices (inl bad) = rw bad
  fault_slices (inr other) = rw (ne_eqb (length scratch) (scratch_words (slots m.tree)) other, or_right (bad_lent m) true refl)

  pub fault_none : lent_fault m ≡ none → length scratch ≡ scratch_words (slots m.tree) → write_fault m scratch ≡ none
  unfolding write_fault
  fault_none fine same = rw (of_good m (let_through m fine), eq-eqb (length scratch) (scratch_words (slots m.tree)) same, holds_of m fine)

-- THE REFUSALS AND THE TABLE, in plain words
module _ (m : Memory) (scratch output scratch' output' : List ℕ) (r : Result ℕ Refused) (meets : Writes m scratch output scratch' output' r) where
  -- the answer, and what is left in the scratch and in the output
  abbrev Ends : Result ℕ Refused → List ℕ → List ℕ → Type 0
  Ends = Same r scratch' output'

  refused_so : (x : Refusal) → write_fault m scratch ≡ some (number_of x) → Ends (Err (refused_at x 0)) scratch output
  unfolding write_of
  refused_so x e = same_outcome r (Err (refused_at x 0)) scratch' output' scratch output (meets.outcome ∙ ap (λ f. write_after f m scratch output) e)

  -- 1: the lent slices, or a scratch of another length
  pub refused_1 : (bad_lent m ≡ true) ⊎ (length scratch ≡ scratch_words (slots m.tree) → ⊥) → Ends (Err (refused_at BadSlices 0)) scratch output
  refused_1 bad = refused_so BadSlices (fault_slices m scratch bad)

  -- 2: slices and scratch of one length, and no ledger
  pub refused_2 : bad_lent m ≡ false → length scratch ≡ scratch_words (slots m.tree) → holds_ledger m.tree ≡ false → Ends (Err (refused_at NoLedger 0)) scratch output
  unfolding write_fault
  refused_2 good same empty = refused_so NoLedger (rw (good, eq-eqb (length scratch) (scratch_words (slots m.tree)) same, empty))

  abbrev T : List Entry
  T = smallest_table ipv4 (ledger_of (width ipv4) m)

  module _ (fine : write_fault m scratch ≡ none) where
    goes_on : write_of m scratch output ≡ into_output T scratch output
    unfolding write_of
    goes_on = ap (λ f. write_after f m scratch output) fine

    -- THE TABLE: its bytes, every byte behind them as it was, and the scratch zero
    pub table_of : (U : List Entry) → T ≡ U → bytes_for U ≤ length output
        → Ends (Ok (length U)) (zeros (length scratch)) (print_table ipv4 U ++ drop (bytes_for U) output)
    table_of U is fits =
        same_outcome r (Ok (length U)) scratch' output' (zeros (length scratch)) (print_table ipv4 U ++ drop (bytes_for U) output)
        (meets.outcome ∙ goes_on ∙ rw (is, le-ltb (length output) (bytes_for U) fits))

    pub table_written : bytes_for T ≤ length output
        → Ends (Ok (length T)) (zeros (length scratch)) (print_table ipv4 T ++ drop (bytes_for T) output)
    table_written = table_of T refl

    -- 11: the output is too short; the count is the one that is needed, the output is as it was, and the scratch is zero
    pub refused_11 : length output < bytes_for T → Ends (Err (refused_at ShortOutput (length T))) (zeros (length scratch)) output
    refused_11 short =
        same_outcome r (Err (refused_at ShortOutput (length T))) scratch' output' (zeros (length scratch)) output
        (meets.outcome ∙ goes_on ∙ rw (lt-ltb (length output) (bytes_for T) short))

  -- and only so is a table answered
  pub only_so : (c : ℕ) → r ≡ Ok c → Ends (Ok (length T)) (zeros (length scratch)) (print_table ipv4 T ++ drop (bytes_for T) output)
  only_so c is =
      elim (named m scratch) [
        | inr refused ↦ other (refused_so refused.0 refused.1).0
        | inl fine ↦
            elim (by_test (ltb (length output) (bytes_for T))) [
              | inl short ↦ other (refused_11 fine (ltb-true (length output) (bytes_for T) short)).0
              | inr fits ↦ table_written fine (ltb-false (length output) (bytes_for T) fits)
            ]
      ]
    where
      other : {A : Type 0} {x : Refused} → r ≡ Err x → A
      other {x = x} e = none_some (ap (λ a. (outcome_of a [] []).refusal) (sym is ∙ e)) refl
