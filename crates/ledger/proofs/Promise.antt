-- The promises fix what they promise of: two answers that meet one are equal, and so is what they leave, but for which slot a
-- string lies in and the chain of free slots.
use mathlib.Core.Path.{◌≡◌, refl, sym, ap, ◌∙◌}
use mathlib.Core.Logic.{inl, inr}
use mathlib.Core.Bool.{false}
use mathlib.Core.List.{List}
use mathlib.Core.Option.{none, some}
use Prim.Native.Nat.{ℕ}
use native.Mathlib.Omega.{arith}
use Rattle.theory.proofs.Hops.{by_test}
use Rattle.theory.proofs.Longest.{none_some}
use Rattle.rules.specs.Numbers.{ipv4, width, bad_slices, no_ledger, bad_list_length, no_slots}
use Rattle.rules.specs.Records.{whole_records}
use Rattle.rules.specs.Plain.{updated}
use Rattle.memory.specs.Layout.{Memory, ledger_of, holds_ledger}
use Rattle.memory.specs.Tidy.{Tidy, SameButSlots}
use Rattle.memory.proofs.Tidy.{tidy_same}
use Rattle.lists.proofs.Promise.{same_answer}
use Rattle.std.proofs.Common.{Result, Ok, Err}
use Rattle.refusals.specs.declared.Refused.{Refused}
use Rattle.refusals.proofs.Numbered.{same_refused, some_same}
use Rattle.lent.specs.Lent.{bad_lent, lent_fault}
use Rattle.ledger.specs.Promise.{after_fault, update_of, report_of, reported, Updates, LooksUp}
use Rattle.lent.proofs.Faults.{let_through, whole_of}

-- UPDATE
same_report : (r s : Result ℕ Refused) → report_of r ≡ report_of s → r ≡ s
same_report (Ok c) (Ok d) e = ap (λ a. Ok a.count) e
same_report (Ok c) (Err y) e = none_some (ap (λ a. a.refusal) e) refl
same_report (Err x) (Ok d) e = none_some refl (ap (λ a. a.refusal) e)
same_report (Err x) (Err y) e = ap Err (same_refused x y (some_same (ap (λ a. a.refusal) e)) (ap (λ a. a.count) e))

module _ (m a b : Memory) (list : List ℕ) (r s : Result ℕ Refused) (one : Updates m list a r) (other : Updates m list b s) where
  pub one_update : r ≡ s
  one_update = same_report r s (one.answer ∙ sym other.answer)

  -- in any memory, the ledger that is left
  pub one_ledger : ledger_of (width ipv4) a ≡ ledger_of (width ipv4) b
  one_ledger = one.ledger ∙ sym other.ledger

  -- nothing applied, and nothing refused for want of room: every element
  pub one_untouched : (update_of m list).count ≡ 0 → ((update_of m list).refusal ≡ some no_slots → ⊥) → a ≡ b
  one_untouched z room = one.untouched z room ∙ sym (other.untouched z room)

  -- in tidy memory: every element but for slots and hints
  pub one_memory : lent_fault m ≡ none → Tidy (width ipv4) m → SameButSlots (width ipv4) a b
  one_memory e tidy =
      tidy_same (width ipv4) a b (whole_of a (let_through a (one.no_2_later e))) (whole_of b (let_through b (other.no_2_later e)))
      (one.tidy tidy) (other.tidy tidy) one_ledger

-- REFUSALS 1, 2 AND 3 come with count 0 and change nothing
no_room_among : (m : Memory) → lent_fault m ≡ some no_slots → ⊥
unfolding lent_fault
no_room_among m e =
    elim (by_test (bad_lent m)) [
      | inl b ↦ let f : some bad_slices ≡ some no_slots = rw b at e in (let z : bad_slices ≡ no_slots = cc in omega arith)
      | inr b ↦
          elim (by_test (holds_ledger m.tree)) [
            | inl h ↦ let f : none ≡ some no_slots = rw (b, h) at e in none_some f refl
            | inr h ↦ let f : some no_ledger ≡ some no_slots = rw (b, h) at e in (let z : no_ledger ≡ no_slots = cc in omega arith)
          ]
    ]

pub lent_refused : (m m' : Memory) (list : List ℕ) (r : Result ℕ Refused) → Updates m list m' r → (x : ℕ) → lent_fault m ≡ some x
    → (report_of r ≡ record { refusal = some x; count = 0; complete = false }) × (m' ≡ m)
unfolding update_of
lent_refused m m' list r u x e =
    let is : after_fault (lent_fault m) m list ≡ after_fault (some x) m list = ap (λ o. after_fault o m list) e in (
      u.answer ∙ ap reported is,
      u.untouched (ap (λ a. a.count) is)
          (λ q. no_room_among m (e ∙ sym (ap (λ a. a.refusal) is) ∙ q)),
    )

pub list_refused : (m m' : Memory) (list : List ℕ) (r : Result ℕ Refused) → Updates m list m' r → lent_fault m ≡ none → whole_records ipv4 list ≡ false
    → (report_of r ≡ record { refusal = some bad_list_length; count = 0; complete = false }) × (m' ≡ m)
unfolding update_of updated
list_refused m m' list r u e q =
    let is : after_fault (lent_fault m) m list ≡ record { refusal = some bad_list_length; count = 0; ledger = ledger_of (width ipv4) m } =
    ap (λ o. after_fault o m list) e ∙ rw q in (
      u.answer ∙ ap reported is,
      u.untouched (ap (λ a. a.count) is)
          (λ h. let f : some bad_list_length ≡ some no_slots = sym (ap (λ a. a.refusal) is) ∙ h in (let z : bad_list_length ≡ no_slots = cc in omega arith)),
    )

-- LOOKUP
pub one_lookup : (m : Memory) (x : ℕ) (r s : Result ℕ Refused) → LooksUp m x r → LooksUp m x s → r ≡ s
one_lookup m x r s one other = same_answer r s (one.answer ∙ sym other.answer)
