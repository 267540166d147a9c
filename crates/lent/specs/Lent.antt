-- THE RULES OF A WHOLE CALL on lent slices: 1 and 2. Every call on memory asks them first, so they stand in one crate.
use Rattle.std.specs.Prelude.{◌≡◌, Bool, not, ◌&&◌, ◌||◌, [], ◌∷◌, ℕ, eqb, ltb, length, Result, Ok, Err}
use Rattle.std.proofs.Math.Option.{Option, none, some}
use Rattle.rules.specs.Numbers.{most_slots, bad_slices, no_ledger}
use Rattle.refusals.specs.declared.Refusal.{Refusal}
use Rattle.refusals.specs.Numbered.{number_of}
use Rattle.rules.specs.Records.{◌refused_by◌, first_fault}
use Rattle.memory.specs.Layout.{Memory, slots, Whole, holds_ledger}

-- 1: the slices differ in length, or have no slot or too many. 2: they hold no ledger.
abbrev pub same_lengths : Memory → Bool
same_lengths m =
    eqb (length m.tree.lo) (slots m.tree)
    && (eqb (length m.tree.hi) (slots m.tree) && eqb (length m.hop) (slots m.tree))

abbrev pub bad_lent : Memory → Bool
bad_lent m = not (same_lengths m) || (eqb (slots m.tree) 0 || ltb most_slots (slots m.tree))

unfoldable pub lent_fault : Memory → Option ℕ
lent_fault m = first_fault (bad_lent m refused_by bad_slices ∷ not (holds_ledger m.tree) refused_by no_ledger ∷ [])

-- WHAT THE CHECK ANSWERS: nothing is refused, and then there are as many elements in each slice; or the first rule that is broken
abbrev pub Checked : Memory → Result (Unit {0}) Refusal → Type 0
Checked m (Ok u) = (lent_fault m ≡ none) × Whole m
Checked m (Err refusal) = lent_fault m ≡ some (number_of refusal)
