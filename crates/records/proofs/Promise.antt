-- The promise of reading fixes the record: what is read is one meaning or one fault, and address and length are fixed by the
-- prefix's bits, since no bit is set behind them.
use mathlib.Core.Path.{◌≡◌, ap₂, sym, subst, ◌∙◌}
use mathlib.Core.Bool.{Bool}
use mathlib.Core.List.{List}
use Prim.Native.Nat.{ℕ}
use native.Mathlib.Omega.{arith}
use Rattle.theory.specs.Bits.{Bits}
use Rattle.rules.specs.Records.{Change, announces, withdraws, means, faulty}
use Rattle.records.specs.declared.Record.{Record}
use Rattle.records.specs.declared.Record.TheVariants.{Announces, Withdraws}
use Rattle.std.proofs.Common.{Result, Ok, Err, ap}
use Rattle.refusals.specs.declared.Refusal.{Refusal}
use Rattle.refusals.proofs.Numbered.{same_number}
use Rattle.records.specs.Promise.{reading_of, InBounds, ReadsRecord}
use Rattle.records.proofs.Prefix.{one_prefix}

-- What equal readings say.
same_announced : {p q : Bits} {h k : ℕ} → means (announces p h) ≡ means (announces q k) → (p ≡ q) × (h ≡ k)
same_announced e = (cc, cc)

same_withdrawn : {p q : Bits} → means (withdraws p) ≡ means (withdraws q) → p ≡ q
same_withdrawn e = cc

same_fault : {x y : ℕ} → faulty x ≡ faulty y → x ≡ y
same_fault e = cc

means_faulty : {A : Type 0} {c : Change} {x : ℕ} → means c ≡ faulty x → A
means_faulty e = absurd (let z : ◌≡◌ {A = ℕ} 0 1 = cc in omega arith)

announced_withdrawn : {A : Type 0} {p q : Bits} {h : ℕ} → means (announces p h) ≡ means (withdraws q) → A
announced_withdrawn e = absurd (let z : ◌≡◌ {A = ℕ} 0 1 = cc in omega arith)

same_reading : (r s : Result Record Refusal) → reading_of r ≡ reading_of s → InBounds r → InBounds s → r ≡ s
unfolding reading_of InBounds
same_reading (Ok (Announces a l h)) (Ok (Announces b m k)) e p q =
    let same = same_announced e in
    let there = one_prefix p.prefix q.prefix same.0 in
    let hop = same.1 in
    let address = there.0 in
    let size = there.1 in
    cc
same_reading (Ok (Announces a l h)) (Ok (Withdraws b m)) e p q = announced_withdrawn e
same_reading (Ok (Announces a l h)) (Err x) e p q = means_faulty e
same_reading (Ok (Withdraws a l)) (Ok (Announces b m k)) e p q = announced_withdrawn (sym e)
same_reading (Ok (Withdraws a l)) (Ok (Withdraws b m)) e p q = let there = one_prefix p q (same_withdrawn e) in ap Ok (ap₂ Withdraws there.0 there.1)
same_reading (Ok (Withdraws a l)) (Err x) e p q = means_faulty e
same_reading (Err x) (Ok (Announces b m k)) e p q = means_faulty (sym e)
same_reading (Err x) (Ok (Withdraws b m)) e p q = means_faulty (sym e)
same_reading (Err x) (Err y) e p q = ap Err (same_number x y (same_fault e))

pub one_record : {fields : List ℕ} {withdrawals : Bool} {r s : Result Record Refusal} → ReadsRecord fields withdrawals r → ReadsRecord fields withdrawals s
    → r ≡ s
one_record {r} {s} p q = same_reading r s (p.reading ∙ sym q.reading) p.bounds q.bounds

-- what is told of a record holds of it as a match has taken it apart
pub reads_as : {fields : List ℕ} {withdrawals : Bool} {r s : Record} → r ≡ s → ReadsRecord fields withdrawals (Ok r) → ReadsRecord fields withdrawals (Ok s)
reads_as {fields} {withdrawals} e p = subst (λ q. ReadsRecord fields withdrawals (Ok q)) e p
