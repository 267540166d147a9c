-- The promise of the call from a list to a table fixes its answer and the output; what it comes to in plain words.
use mathlib.Core.Path.{◌≡◌, refl, sym, ap, subst, ◌∙◌}
use mathlib.Core.Logic.{inl, inr}
use mathlib.Core.List.{List, ◌++◌}
use mathlib.Core.Option.{Option, none, some}
use Prim.Native.Nat.{ℕ, ◌≤◌, ◌<◌}
use native.Mathlib.Omega.{arith}
use lib.Dec.{ltb}
use lib.ListN.{length, drop, length-append, length-drop}
use borrow.Author.Tests.{ltb-true, ltb-false}
use Rattle.theory.specs.Ledger.{Entry, nothing}
use Rattle.theory.proofs.Hops.{by_test}
use Rattle.theory.proofs.Longest.{none_some}
use Rattle.rules.specs.Numbers.{ipv4, bad_list_length, no_slots, short_output}
use Rattle.rules.specs.Records.{print_table}
use Rattle.rules.specs.Plain.{Applied, updated}
use Rattle.rules.specs.Writing.{smallest_table}
use Rattle.rules.proofs.Records.{table_length}
use Rattle.rules.proofs.Numbered.{Between, BetweenOrShort, update_between}
use Rattle.rules.proofs.Held.{table_fits}
use Rattle.std.proofs.Common.{Result, Ok, Err}
use Rattle.refusals.specs.declared.Refusal.{Refusal}
use Rattle.refusals.specs.declared.Refusal.TheVariants.{ShortOutput}
use Rattle.refusals.specs.declared.Refused.{Refused}
use Rattle.refusals.specs.Numbered.{number_of}
use Rattle.refusals.specs.Counted.{refused_at}
use Rattle.refusals.proofs.Numbered.{same_refused, some_same, named}
use Rattle.writing.specs.Promise.{bytes_for}
use Rattle.fresh.specs.Promise.{Tabled, tabled_of, stopped, after_update, table_of, TablesIn}

-- ONE ANSWER, and one output beside it
same_tabled : (r r₂ : Result ℕ Refused) (o o₂ : List ℕ) → tabled_of r o ≡ tabled_of r₂ o₂ → (r ≡ r₂) × (o ≡ o₂)
same_tabled (Ok c) (Ok d) o o₂ e = (ap (λ t. Ok t.count) e, ap (λ t. t.output) e)
same_tabled (Ok c) (Err y) o o₂ e = none_some (ap (λ t. t.refusal) e) refl
same_tabled (Err x) (Ok d) o o₂ e = none_some refl (ap (λ t. t.refusal) e)
same_tabled (Err x) (Err y) o o₂ e = (ap Err (same_refused x y (some_same (ap (λ t. t.refusal) e)) (ap (λ t. t.count) e)), ap (λ t. t.output) e)

module _ (n : ℕ) (list output : List ℕ) where
  pub one_table : (o₁ o₂ : List ℕ) (r₁ r₂ : Result ℕ Refused) → TablesIn n list output o₁ r₁ → TablesIn n list output o₂ r₂ → (r₁ ≡ r₂) × (o₁ ≡ o₂)
  one_table o₁ o₂ r₁ r₂ one other = same_tabled r₁ r₂ o₁ o₂ (one.outcome ∙ sym other.outcome)

  -- THE THREE WAYS that it can go, in plain words
  abbrev pub A : Applied
  A = updated ipv4 n nothing list

  abbrev pub T : List Entry
  T = smallest_table ipv4 (updated ipv4 n nothing list).ledger

  pub data Way : Tabled → Type 0 where
    -- 3 to 9: a record was refused, or the whole list
    stops : (x : ℕ) → A.refusal ≡ some x → Way (stopped x A.count output)
    -- 11
    short : A.refusal ≡ none → length output < bytes_for T
        → Way (record { refusal = some short_output; count = length T; output = output })
    -- the table, and every byte behind it as it was
    writes_it : A.refusal ≡ none → bytes_for T ≤ length output
        → Way (record { refusal = none; count = length T; output = print_table ipv4 T ++ drop (bytes_for T) output })

  pub way : Way (table_of n list output)
  unfolding table_of
  way = go A.refusal refl
    where
      go : (f : Option ℕ) → A.refusal ≡ f → Way (after_update f A output)
      go (some x) e = stops x e
      go none e =
          elim (by_test (ltb (length output) (bytes_for T))) [
            | inl is-short ↦ rw is-short (short e (ltb-true (length output) (bytes_for T) is-short))
            | inr fits ↦ rw fits (writes_it e (ltb-false (length output) (bytes_for T) fits))
          ]

  -- THE TABLE, where nothing stands in its way; and only so
  is_made : (t : Tabled) → Way t → A.refusal ≡ none → bytes_for T ≤ length output
      → t ≡ record { refusal = none; count = length T; output = print_table ipv4 T ++ drop (bytes_for T) output }
  is_made t (stops x e) quiet room = none_some e quiet
  is_made t (short e l) quiet room = absurd (omega (arith, l, room))
  is_made t (writes_it e l) quiet room = refl

  pub made : A.refusal ≡ none → bytes_for T ≤ length output
      → table_of n list output ≡ record { refusal = none; count = length T; output = print_table ipv4 T ++ drop (bytes_for T) output }
  made = is_made (table_of n list output) way

  only_made : (t : Tabled) → Way t → t.refusal ≡ none → (A.refusal ≡ none) × (bytes_for T ≤ length output)
  only_made t (stops x e) quiet = none_some refl quiet
  only_made t (short e l) quiet = none_some refl quiet
  only_made t (writes_it e l) quiet = (e, l)

  pub made_only_so : (table_of n list output).refusal ≡ none → (A.refusal ≡ none) × (bytes_for T ≤ length output)
  made_only_so = only_made (table_of n list output) way

  -- A REFUSAL LEAVES THE OUTPUT AS IT WAS, every byte
  leaves : (t : Tabled) → Way t → (x : ℕ) → t.refusal ≡ some x → t.output ≡ output
  leaves t (stops y e) x is = refl
  leaves t (short e l) x is = refl
  leaves t (writes_it e l) x is = none_some is refl

  pub refused_leaves : (x : ℕ) → (table_of n list output).refusal ≡ some x → (table_of n list output).output ≡ output
  refused_leaves = leaves (table_of n list output) way

  pub refusal_leaves : (output' : List ℕ) (x : Refused) → TablesIn n list output output' (Err x) → output' ≡ output
  refusal_leaves output' x meets =
      ap (λ t. t.output) meets.outcome ∙ refused_leaves (number_of x.refusal) (sym (ap (λ t. t.refusal) meets.outcome))

  -- THE NUMBERS are 3 to 9, and 11
  numbers : (t : Tabled) → Way t → BetweenOrShort bad_list_length no_slots t.refusal
  numbers t (stops x e) = inl (subst (Between bad_list_length no_slots) e (update_between ipv4 n nothing list))
  numbers t (short e l) = inr refl
  numbers t (writes_it e l) = tt

  pub table_between : BetweenOrShort bad_list_length no_slots (table_of n list output).refusal
  table_between = numbers (table_of n list output) way

  -- AND THERE IS AN ANSWER: each of those numbers is that of a refusal
  pub some_table : (r : Result ℕ Refused) × TablesIn n list output (table_of n list output).output r
  some_table = go (table_of n list output).refusal refl table_between
    where
      t : Tabled
      t = table_of n list output

      says : (x : Refusal) → (table_of n list output).refusal ≡ some (number_of x)
          → (r : Result ℕ Refused) × TablesIn n list output (table_of n list output).output r
      says x e = (Err (refused_at x t.count), record { outcome = λ i. record { refusal = sym e i; count = t.count; output = t.output } })

      go : (f : Option ℕ) → (table_of n list output).refusal ≡ f → BetweenOrShort bad_list_length no_slots f
          → (r : Result ℕ Refused) × TablesIn n list output (table_of n list output).output r
      go none e in-range = (Ok t.count, record { outcome = λ i. record { refusal = sym e i; count = t.count; output = t.output } })
      go (some x) e (inl in-range) = let is = named x (omega (arith, in-range.0)) in-range.1 in says is.0 (e ∙ ap some (sym is.1))
      go (some x) e (inr eleven) = says ShortOutput (e ∙ ap some eleven)

  -- AN OUTPUT AS LONG AS THE LIST is always enough
  fits : 0 < n → length list ≤ length output → (t : Tabled) → Way t → t.refusal ≡ some short_output → ⊥
  fits some_slot room t (stops x e) is =
      let in-range : Between bad_list_length no_slots (some x) = subst (Between bad_list_length no_slots) e (update_between ipv4 n nothing list) in
      let same : x ≡ short_output = cc in
      omega (arith, in-range.1, same)
  fits some_slot room t (short e l) is = omega (arith, l, table_fits ipv4 n list some_slot)
  fits some_slot room t (writes_it e l) is = none_some is refl

  pub enough_room : 0 < n → length list ≤ length output → (table_of n list output).refusal ≡ some short_output → ⊥
  enough_room some_slot room = fits some_slot room (table_of n list output) way

  -- LENGTHS STAY
  as_long : (t : Tabled) → Way t → length t.output ≡ length output
  as_long t (stops x e) = refl
  as_long t (short e l) = refl
  as_long t (writes_it e l) =
      length-append (print_table ipv4 T) (drop (bytes_for T) output)
      ∙ omega (arith, table_length ipv4 T, length-drop (bytes_for T) output, l)

  pub length_stays : length (table_of n list output).output ≡ length output
  length_stays = as_long (table_of n list output) way
