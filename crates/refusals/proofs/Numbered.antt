-- No two refusals have one number, and none has 0.
use Rattle.std.proofs.Common.{refl, [], ◌∷◌, slice_index_or, ◌≡◌, ℕ, zero, suc, ◌≤◌, sym, ap, ◌∙◌, arith}
use Rattle.refusals.specs.declared.Refusal.{Refusal}
use Rattle.refusals.specs.declared.Refusal.TheVariants.{BadSlices, NoLedger, BadListLength, BadPrefixLength, StrayBit, BadAction, BadHop, NotHeld, NoSlots, ShortOutput, LongInput}
use Rattle.std.proofs.Math.Option.{some}
use Rattle.refusals.specs.declared.Refused.{Refused}
use Rattle.refusals.specs.Numbered.{number_of}

-- the refusal of a number: each stands at its own (0 and 10 are none's)
abbrev numbered : ℕ → Refusal
numbered n =
    slice_index_or (LongInput ∷ BadSlices ∷ NoLedger ∷ BadListLength ∷ BadPrefixLength ∷ StrayBit ∷ BadAction ∷ BadHop ∷ NotHeld ∷ NoSlots ∷ LongInput ∷ ShortOutput ∷ LongInput ∷ [])
    n LongInput

back : (x : Refusal) → numbered (number_of x) ≡ x
back BadSlices = refl
back NoLedger = refl
back BadListLength = refl
back BadPrefixLength = refl
back StrayBit = refl
back BadAction = refl
back BadHop = refl
back NotHeld = refl
back NoSlots = refl
back ShortOutput = refl
back LongInput = refl

pub same_number : (x y : Refusal) → number_of x ≡ number_of y → x ≡ y
same_number x y e = sym (back x) ∙ ap numbered e ∙ back y

-- each number from 1 to 9 is a refusal's
pub named : (n : ℕ) → 1 ≤ n → n ≤ 9 → (x : Refusal) × (number_of x ≡ n)
named zero low high = absurd (omega (arith, low))
named (suc zero) low high = (BadSlices, refl)
named (suc (suc zero)) low high = (NoLedger, refl)
named (suc (suc (suc zero))) low high = (BadListLength, refl)
named (suc (suc (suc (suc zero)))) low high = (BadPrefixLength, refl)
named (suc (suc (suc (suc (suc zero))))) low high = (StrayBit, refl)
named (suc (suc (suc (suc (suc (suc zero)))))) low high = (BadAction, refl)
named (suc (suc (suc (suc (suc (suc (suc zero))))))) low high = (BadHop, refl)
named (suc (suc (suc (suc (suc (suc (suc (suc zero)))))))) low high = (NotHeld, refl)
named (suc (suc (suc (suc (suc (suc (suc (suc (suc zero))))))))) low high = (NoSlots, refl)
named (suc (suc (suc (suc (suc (suc (suc (suc (suc (suc n)))))))))) low high = absurd (omega (arith, high))

-- so a number and a count fix what a call answers that refuses
pub same_refused : (a b : Refused) → number_of a.refusal ≡ number_of b.refusal → a.count ≡ b.count → a ≡ b
same_refused a b number count = λ i. record { refusal = same_number a.refusal b.refusal number i; count = count i }

pub some_same : {A : Type 0} {x y : A} → some x ≡ some y → x ≡ y
some_same e = cc

pub never_0 : (x : Refusal) → 1 ≤ number_of x
never_0 BadSlices = omega arith
never_0 NoLedger = omega arith
never_0 BadListLength = omega arith
never_0 BadPrefixLength = omega arith
never_0 StrayBit = omega arith
never_0 BadAction = omega arith
never_0 BadHop = omega arith
never_0 NotHeld = omega arith
never_0 NoSlots = omega arith
never_0 ShortOutput = omega arith
never_0 LongInput = omega arith
