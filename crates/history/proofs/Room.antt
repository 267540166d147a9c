-- A list that is taken whole in some slots is taken whole in more, and makes the same ledger.
use mathlib.Core.Path.{◌≡◌, refl, ap}
use mathlib.Core.Logic.{inl, inr}
use mathlib.Core.List.{List, [], ◌∷◌, map}
use mathlib.Core.Option.{none}
use Prim.Native.Nat.{ℕ, ◌≤◌}
use native.Mathlib.Omega.{arith}
use lib.Dec.{leb}
use borrow.Author.Tests.{leb-true, le-leb}
use Rattle.theory.specs.Ledger.{Ledger, is_held, announce, withdraw}
use Rattle.theory.proofs.Hops.{by_test}
use Rattle.theory.proofs.Longest.{none_some}
use Rattle.rules.specs.Numbers.{ipv4, width}
use Rattle.rules.specs.Records.{announces, withdraws, update, Reading, means, faulty, read, records_of, whole_records}
use Rattle.rules.specs.Plain.{needs, Outcome, taken, refused, if_room, apply, one_more, next, apply_all, updated}

never_both : {A : Type 0} {x : ℕ} {L : Ledger ℕ} {o : Outcome} → o ≡ refused x → o ≡ taken L → A
never_both p q = absurd (let z : ◌≡◌ {A = ℕ} 0 1 = cc in omega arith)

module _ (w slots more : ℕ) (fits : slots ≤ more) where
  room : (L M : Ledger ℕ) → if_room w slots L ≡ taken M → if_room w more L ≡ taken M
  room L M e =
      elim (by_test (leb (needs w L) slots)) [
        | inl enough ↦ rw (le-leb (needs w L) more (omega (arith, leb-true (needs w L) slots enough))) (rw enough at e)
        | inr full ↦ never_both refl (rw full at e)
      ]

  one : (L : Ledger ℕ) (r : Reading) (M : Ledger ℕ) → apply w slots L r ≡ taken M → apply w more L r ≡ taken M
  one L (means (announces p h)) M e = room (announce L p h) M e
  one L (means (withdraws p)) M e =
      elim (by_test (is_held (L p))) [
        | inl held ↦ rw held (room (withdraw L p) M (rw held at e))
        | inr not-held ↦ never_both refl (rw not-held at e)
      ]
  one L (faulty x) M e = never_both refl e

  all : (L : Ledger ℕ) (rs : List Reading) → (apply_all w slots L rs).refusal ≡ none → apply_all w more L rs ≡ apply_all w slots L rs
  all L [] e = refl
  all L (r ∷ rs) e = go (apply w slots L r) refl e (λ M. all M rs)
    where
      go : (o : Outcome) → apply w slots L r ≡ o → (next L o (λ M. apply_all w slots M rs)).refusal ≡ none
          → ((M : Ledger ℕ) → (apply_all w slots M rs).refusal ≡ none → apply_all w more M rs ≡ apply_all w slots M rs)
          → apply_all w more L (r ∷ rs) ≡ apply_all w slots L (r ∷ rs)
      go (taken M) is quiet later = rw (is, one L r M is) (ap one_more (later M quiet))
      go (refused x) is quiet later = none_some refl quiet

pub more_room : (slots more : ℕ) → slots ≤ more → (L : Ledger ℕ) (bytes : List ℕ) → (updated ipv4 slots L bytes).refusal ≡ none
    → updated ipv4 more L bytes ≡ updated ipv4 slots L bytes
unfolding updated
more_room slots more fits L bytes e =
    elim (by_test (whole_records ipv4 bytes)) [
      | inl whole ↦ rw whole (all (width ipv4) slots more fits L (map (read update ipv4) (records_of ipv4 bytes)) (rw whole at e))
      | inr part ↦ rw part
    ]
