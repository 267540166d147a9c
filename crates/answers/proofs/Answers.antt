-- What a number that is told says: 0 that nothing was refused, else the refusal. And a writing's answer is told the same, whatever it
-- leaves.
use mathlib.Core.Path.{◌≡◌, refl, sym, ◌∙◌}
use mathlib.Core.Logic.{◌⊎◌, inl, inr}
use mathlib.Core.List.{List}
use mathlib.Core.Option.{Option, none, some}
use Prim.Native.Nat.{ℕ, ◌≤◌, ◌<◌}
use native.Mathlib.Omega.{arith}
use Rattle.rules.specs.Numbers.{short_output}
use Rattle.rules.proofs.Numbered.{Between, BetweenOrShort}
use Rattle.std.proofs.Common.{Result, Ok, Err}
use Rattle.refusals.specs.declared.Refused.{Refused}
use Rattle.ledger.specs.Promise.{report_of}
use Rattle.writing.specs.Promise.{outcome_of}
use Rattle.answers.specs.Answers.{number_of, count_for, counted_for}

-- THE NUMBER: 0, or a refusal in its range
abbrev pub Numbered : ℕ → ℕ → ℕ → Type 0
Numbered least most x = (x ≡ 0) ⊎ ((least ≤ x) × (x ≤ most))

abbrev pub NumberedOrShort : ℕ → ℕ → ℕ → Type 0
NumberedOrShort least most x = (x ≡ 0) ⊎ (((least ≤ x) × (x ≤ most)) ⊎ (x ≡ short_output))

-- a range within another
pub wider : (least most least' most' : ℕ) (o : Option ℕ) → least' ≤ least → most ≤ most' → Between least most o → Between least' most' o
wider least most least' most' none low high in-range = tt
wider least most least' most' (some x) low high in-range = (omega (arith, low, in-range.0), omega (arith, high, in-range.1))

-- of a refusal o that is told as the number x
pub numbered : (least most : ℕ) (o : Option ℕ) (x : ℕ) → x ≡ number_of o → Between least most o → Numbered least most x
numbered least most none x is in-range = inl is
numbered least most (some y) x is in-range = inr (omega (arith, is, in-range.0), omega (arith, is, in-range.1))

pub zero_is_success : (least most : ℕ) (o : Option ℕ) (x : ℕ) → 0 < least → x ≡ number_of o → Between least most o → x ≡ 0 → o ≡ none
zero_is_success least most none x pos is in-range e = refl
zero_is_success least most (some y) x pos is in-range e = absurd (omega (arith, pos, in-range.0, sym is ∙ e))

-- and of one that can be 11
pub numbered_or_short : (least most : ℕ) (o : Option ℕ) (x : ℕ) → x ≡ number_of o → BetweenOrShort least most o → NumberedOrShort least most x
numbered_or_short least most none x is in-range = inl is
numbered_or_short least most (some y) x is (inl in-range) = inr (inl (omega (arith, is, in-range.0), omega (arith, is, in-range.1)))
numbered_or_short least most (some y) x is (inr short) = inr (inr (is ∙ short))

pub zero_is_written : (least most : ℕ) (o : Option ℕ) (x : ℕ) → 0 < least → x ≡ number_of o → BetweenOrShort least most o → x ≡ 0 → o ≡ none
zero_is_written least most none x pos is in-range e = refl
zero_is_written least most (some y) x pos is (inl in-range) e = absurd (omega (arith, pos, in-range.0, sym is ∙ e))
zero_is_written least most (some y) x pos is (inr short) e = absurd (omega (arith, short, sym is ∙ e))

-- A COUNT IS TOLD THE SAME of an update and of a writing, whatever that leaves
pub told_report : (u : Result ℕ Refused) → counted_for u ≡ count_for (report_of u).refusal (report_of u).count
told_report (Ok count) = refl
told_report (Err refused) = refl

pub told_beside : (w : Result ℕ Refused) (scratch output : List ℕ)
    → counted_for w ≡ count_for (outcome_of w scratch output).refusal (outcome_of w scratch output).count
told_beside (Ok count) scratch output = refl
told_beside (Err refused) scratch output = refl
