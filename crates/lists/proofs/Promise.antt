-- The promise of a list lookup fixes its answer: what it equals is one value, and each answer of the paper is one value of the
-- enum. So a lookup that always answers hop 1 breaks it: the empty list has no route.
use mathlib.Core.Path.{◌≡◌, refl, sym, ap, ◌∙◌}
use mathlib.Core.List.{List, []}
use Prim.Native.Nat.{ℕ}
use native.Mathlib.Omega.{arith}
use Rattle.rules.specs.Numbers.{ipv4}
use Rattle.rules.specs.Lookup.{hop_of, scanned, looked_up}
use Rattle.theory.proofs.Longest.{none_some}
use Rattle.std.proofs.Common.{Result, Ok, Err}
use Rattle.refusals.specs.declared.Refused.{Refused}
use Rattle.refusals.proofs.Numbered.{same_refused, some_same}
use Rattle.lists.specs.Promise.{answer_of, LooksUpList}

-- two answers that meet the promise say the same ..
pub one_answer : {list : List ℕ} {address : ℕ} {r s : Result ℕ Refused} → LooksUpList list address r → LooksUpList list address s → answer_of r ≡ answer_of s
one_answer p q = p.answer ∙ sym q.answer

-- .. and are the same
pub same_answer : (r s : Result ℕ Refused) → answer_of r ≡ answer_of s → r ≡ s
same_answer (Ok h) (Ok k) e = ap (λ a. Ok a.hop) e
same_answer (Ok h) (Err x) e = none_some (ap (λ a. a.refusal) e) refl
same_answer (Err x) (Ok h) e = none_some refl (ap (λ a. a.refusal) e)
same_answer (Err x) (Err y) e = ap Err (same_refused x y (some_same (ap (λ a. a.refusal) e)) (ap (λ a. a.place) e))

pub one_found : {list : List ℕ} {address : ℕ} {r s : Result ℕ Refused} → LooksUpList list address r → LooksUpList list address s → r ≡ s
one_found {r} {s} p q = same_answer r s (one_answer p q)

-- every address of the empty list has no route
pub empty_list : (address : ℕ) → (looked_up ipv4 [] address).hop ≡ 0
unfolding looked_up scanned hop_of
empty_list address = refl

pub always_one_breaks : (f : List ℕ → ℕ → Result ℕ Refused) → ((list : List ℕ) (address : ℕ) → (answer_of (f list address)).hop ≡ 1)
    → (address : ℕ) → LooksUpList [] address (f [] address) → ⊥
always_one_breaks f one address meets = omega (arith, one [] address, ap (λ a. a.hop) meets.answer, empty_list address)
