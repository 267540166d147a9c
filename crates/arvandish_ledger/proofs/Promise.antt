-- The ledger door's promises fix what the calls' do: the struct, and what is left.
use mathlib.Core.Path.{◌≡◌, sym, ap, ◌∙◌}
use mathlib.Core.List.{List}
use mathlib.Core.Option.{none, some}
use Prim.Native.Nat.{ℕ}
use Rattle.rules.specs.Numbers.{ipv4, width, no_slots}
use Rattle.memory.specs.Layout.{Memory, ledger_of}
use Rattle.memory.specs.Tidy.{Tidy, SameButSlots}
use Rattle.lent.specs.Lent.{lent_fault}
use Rattle.lists.specs.Promise.{answer_of}
use Rattle.ledger.specs.Promise.{update_of}
use Rattle.ledger.proofs.Promise as ledger
use Rattle.writing.proofs.Promise as writing
use Rattle.answers.specs.declared.FoundAnswer.{FoundAnswer}
use Rattle.answers.specs.declared.CountAnswer.{CountAnswer}
use Rattle.answers.specs.Answers.{found_for, counted_for}
use Rattle.arvandish_ledger.specs.Promise.{UpdatesToC, LooksUpToC, WritesToC}

-- UPDATE: the struct, the ledger that is left in any memory, every element where nothing was applied, and in tidy memory every element
-- but for slots and hints
module _ (m a b : Memory) (list : List ℕ) (r s : CountAnswer) (one : UpdatesToC m list a r) (other : UpdatesToC m list b s) where
  pub one_update : r ≡ s
  one_update =
      one.told.told
      ∙ ap counted_for (ledger.one_update m a b list one.answer other.answer one.meets other.meets)
      ∙ sym other.told.told

  pub one_ledger : ledger_of (width ipv4) a ≡ ledger_of (width ipv4) b
  one_ledger = ledger.one_ledger m a b list one.answer other.answer one.meets other.meets

  pub one_untouched : (update_of m list).count ≡ 0 → ((update_of m list).refusal ≡ some no_slots → ⊥) → a ≡ b
  one_untouched = ledger.one_untouched m a b list one.answer other.answer one.meets other.meets

  pub one_memory : lent_fault m ≡ none → Tidy (width ipv4) m → SameButSlots (width ipv4) a b
  one_memory = ledger.one_memory m a b list one.answer other.answer one.meets other.meets

-- LOOKUP
pub one_lookup : (m : Memory) (x : ℕ) (r s : FoundAnswer) → LooksUpToC m x r → LooksUpToC m x s → r ≡ s
one_lookup m x r s one other =
    one.told.told
    ∙ ap (λ f. found_for (answer_of f)) (ledger.one_lookup m x one.answer other.answer one.meets other.meets)
    ∙ sym other.told.told

-- WRITING: the struct, and all of scratch and output
pub one_write : (m : Memory) (scratch output s₁ o₁ s₂ o₂ : List ℕ) (r s : CountAnswer)
    → WritesToC m scratch output s₁ o₁ r → WritesToC m scratch output s₂ o₂ s → (r ≡ s) × (s₁ ≡ s₂) × (o₁ ≡ o₂)
one_write m scratch output s₁ o₁ s₂ o₂ r s one other =
    let same = writing.one_answer m scratch output s₁ o₁ s₂ o₂ one.answer other.answer one.meets other.meets in (
      one.told.told ∙ ap counted_for same.0 ∙ sym other.told.told,
      same.1,
      same.2,
    )
