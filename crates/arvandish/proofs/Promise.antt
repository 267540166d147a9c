-- The C door's promises fix the answer and the output; and what the number says: 0 that the call succeeded, else the refusal, 3 to 7 of a
-- lookup, 3 to 9 or 11 of a table. A refusal leaves every byte of the output.
use mathlib.Core.Path.{◌≡◌, refl, sym, ap, ◌∙◌}
use mathlib.Core.List.{List}
use mathlib.Core.Option.{Option, none, some}
use Prim.Native.Nat.{ℕ, ◌≤◌}
use native.Mathlib.Omega.{arith}
use lib.ListN.{length}
use Rattle.rules.specs.Numbers.{ipv4, own_slots, bad_list_length, bad_hop, no_slots, short_output}
use Rattle.rules.specs.Lookup.{looked_up}
use Rattle.rules.proofs.Numbered.{looked_up_between}
use Rattle.fresh.specs.Promise.{table_of}
use Rattle.fresh.proofs.Promise.{refused_leaves, table_between, enough_room, length_stays}
use Rattle.answers.specs.declared.FoundAnswer.{FoundAnswer}
use Rattle.answers.specs.declared.CountAnswer.{CountAnswer}
use Rattle.answers.specs.Answers.{number_of}
use Rattle.answers.proofs.Answers.{Numbered, NumberedOrShort, numbered, zero_is_success, numbered_or_short, zero_is_written}
use Rattle.arvandish.specs.Promise.{LooksUpForC, TablesForC}

-- ONE ANSWER
pub one_lookup : (list : List ℕ) (address : ℕ) (r s : FoundAnswer) → LooksUpForC list address r → LooksUpForC list address s → r ≡ s
one_lookup list address r s one other = one.answer ∙ sym other.answer

pub one_table : (list output o₁ o₂ : List ℕ) (r s : CountAnswer) → TablesForC list output o₁ r → TablesForC list output o₂ s
    → (r ≡ s) × (o₁ ≡ o₂)
one_table list output o₁ o₂ r s one other = (one.answer ∙ sym other.answer, one.left ∙ sym other.left)

-- THE NUMBER: 0, or a refusal in its range; 0 says that nothing was refused
module _ (list : List ℕ) (address : ℕ) (r : FoundAnswer) (meets : LooksUpForC list address r) where
  pub lookup_number : Numbered bad_list_length bad_hop r.number
  lookup_number =
      numbered bad_list_length bad_hop (looked_up ipv4 list address).refusal r.number (ap (λ a. a.number) meets.answer)
      (looked_up_between ipv4 list address)

  pub lookup_0 : r.number ≡ 0 → (looked_up ipv4 list address).refusal ≡ none
  lookup_0 =
      zero_is_success bad_list_length bad_hop (looked_up ipv4 list address).refusal r.number (omega arith) (ap (λ a. a.number) meets.answer)
      (looked_up_between ipv4 list address)

module _ (list output output' : List ℕ) (r : CountAnswer) (meets : TablesForC list output output' r) where
  is_told : r.number ≡ number_of (table_of own_slots list output).refusal
  is_told = ap (λ a. a.number) meets.answer

  pub table_number : NumberedOrShort bad_list_length no_slots r.number
  table_number = numbered_or_short bad_list_length no_slots (table_of own_slots list output).refusal r.number is_told (table_between own_slots list output)

  pub table_0 : r.number ≡ 0 → (table_of own_slots list output).refusal ≡ none
  table_0 = zero_is_written bad_list_length no_slots (table_of own_slots list output).refusal r.number (omega arith) is_told (table_between own_slots list output)

  -- ANY REFUSAL LEAVES THE OUTPUT AS IT WAS, every byte
  pub refusal_leaves : (r.number ≡ 0 → ⊥) → output' ≡ output
  refusal_leaves other = meets.left ∙ go (table_of own_slots list output).refusal refl
    where
      go : (o : Option ℕ) → (table_of own_slots list output).refusal ≡ o → (table_of own_slots list output).output ≡ output
      go none e = absurd (other (is_told ∙ ap number_of e))
      go (some x) e = refused_leaves own_slots list output x e

  -- an output as long as the list never gets 11, and the output is as long as before
  pub list_is_room : length list ≤ length output → r.number ≡ short_output → ⊥
  list_is_room room e = go (table_of own_slots list output).refusal refl
    where
      go : (o : Option ℕ) → (table_of own_slots list output).refusal ≡ o → ⊥
      go none is = omega (arith, e, is_told ∙ ap number_of is)
      go (some x) is =
          enough_room own_slots list output (omega arith) room (is ∙ ap some (sym (is_told ∙ ap number_of is) ∙ e))

  pub as_long : length output' ≡ length output
  as_long = ap length meets.left ∙ length_stays own_slots list output
