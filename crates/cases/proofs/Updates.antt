-- A batch applied to a trie is the batch applied to its ledger.
use mathlib.Core.Path.{◌≡◌, refl, sym, ap, ◌∙◌}
use mathlib.Core.Bool.{Bool, true, false, ◌&&◌}
use mathlib.Core.List.{List, [], ◌∷◌}
use mathlib.Core.Option.{Option, none, some}
use mathlib.Core.Logic.{inl, inr}
use Prim.Native.Nat.{ℕ, zero, suc, ◌≤◌}
use native.Mathlib.Omega.{arith}
use lib.Dec.{ltb, leb}
use lib.ListN.{length}
use borrow.Author.Tests.{lt-ltb}
use Rattle.theory.specs.Bits.{Bits, Each}
use Rattle.theory.specs.Ledger.{Ledger, is_held}
use Rattle.theory.proofs.Hops.{by_test, and_both}
use Rattle.rules.specs.Numbers.{hop_bound}
use Rattle.rules.specs.Records.{Change, announces, withdraws, ProperChange, Reading, means, faulty}
use Rattle.rules.specs.Plain.{Outcome, taken, refused, if_room, change, apply, Applied, one_more, next, apply_all}
use Rattle.rules.proofs.Plain.{Sound}
use Rattle.cases.specs.Trie.{Trie, bare, node, as_ledger, put, hop_below, within, needs_in, OutcomeIn, taken_in, refused_in, if_room_in, change_in, apply_in, AppliedIn, next_in, apply_all_in}
use Rattle.cases.proofs.Trie.{put_is, needs_in_lem}

and_two : {a b : Bool} → a ≡ true → b ≡ true → (a && b) ≡ true
and_two {a} {b} p q = rw (p, q)

-- what is put within the bounds stays within them
put_within : (n w : ℕ) (p : Bits) (o : Option ℕ) (t : Trie) → length p ≤ w → hop_below n o ≡ true → within n w t ≡ true
    → within n w (put p o t) ≡ true
put_within n zero [] o bare l h e = and_two h refl
put_within n (suc w) [] o bare l h e = and_two h refl
put_within n zero [] o (node q t u) l h e = and_two h (and_both (hop_below n q) _ e).1
put_within n (suc w) [] o (node q t u) l h e = and_two h (and_both (hop_below n q) _ e).1
put_within n zero (b ∷ p) o t l h e = absurd (omega arith)
put_within n (suc w) (false ∷ p) o bare l h e = and_two (put_within n w p o bare (omega arith) h refl) refl
put_within n (suc w) (true ∷ p) o bare l h e = put_within n w p o bare (omega arith) h refl
put_within n (suc w) (false ∷ p) o (node q t u) l h e =
    let a = and_both (hop_below n q) (within n w t && within n w u) e in
    let b = and_both (within n w t) (within n w u) a.1 in
    and_two a.0 (and_two (put_within n w p o t (omega arith) h b.0) b.1)
put_within n (suc w) (true ∷ p) o (node q t u) l h e =
    let a = and_both (hop_below n q) (within n w t && within n w u) e in
    let b = and_both (within n w t) (within n w u) a.1 in
    and_two a.0 (and_two b.0 (put_within n w p o u (omega arith) h b.1))

-- the outcome on the ledger, and the bounds kept
abbrev image : OutcomeIn → Outcome
image (taken_in t) = taken (as_ledger t)
image (refused_in x) = refused x

abbrev Good : ℕ → OutcomeIn → Type 0
Good w (taken_in t) = within hop_bound w t ≡ true
Good w (refused_in x) = Unit {0}

room_in : (w slots : ℕ) (t : Trie) → within hop_bound w t ≡ true
    → (if_room w slots (as_ledger t) ≡ image (if_room_in slots t)) × Good w (if_room_in slots t)
room_in w slots t e =
    elim (by_test (leb (needs_in t) slots)) [
      | inl r ↦ rw (needs_in_lem hop_bound w t e, r) (refl, e)
      | inr r ↦ rw (needs_in_lem hop_bound w t e, r) (refl, tt)
    ]

change_in_lem : (w slots : ℕ) (t : Trie) (c : Change) → within hop_bound w t ≡ true → ProperChange w c
    → (change w slots (as_ledger t) c ≡ image (change_in slots t c)) × Good w (change_in slots t c)
change_in_lem w slots t (announces p h) e ok =
    let in-range : ltb h hop_bound ≡ true = lt-ltb h hop_bound (omega (arith, ok.1)) in
    let r = room_in w slots (put p (some h) t) (put_within hop_bound w p (some h) t ok.0 in-range e) in
    (ap (if_room w slots) (sym (put_is p (some h) t)) ∙ r.0, r.1)
change_in_lem w slots t (withdraws p) e ok =
    let r = room_in w slots (put p none t) (put_within hop_bound w p none t ok refl e) in
    elim (by_test (is_held (as_ledger t p))) [
      | inl h ↦ rw h (ap (if_room w slots) (sym (put_is p none t)) ∙ r.0, r.1)
      | inr h ↦ rw h (refl, tt)
    ]

apply_in_lem : (w slots : ℕ) (t : Trie) (r : Reading) → within hop_bound w t ≡ true → Sound w r
    → (apply w slots (as_ledger t) r ≡ image (apply_in slots t r)) × Good w (apply_in slots t r)
apply_in_lem w slots t (means c) e ok = change_in_lem w slots t c e (ok c refl)
apply_in_lem w slots t (faulty x) e ok = (refl, tt)

abbrev pub image_all : AppliedIn → Applied
image_all a = record { refusal = a.refusal; count = a.count; ledger = as_ledger a.trie }

abbrev SameBatch : ℕ → Applied → AppliedIn → Type 0
SameBatch w a b = (a ≡ image_all b) × (within hop_bound w b.trie ≡ true)

next_in_lem : (w : ℕ) (t : Trie) (o : OutcomeIn) (rest : Ledger ℕ → Applied) (restIn : Trie → AppliedIn)
    → within hop_bound w t ≡ true → Good w o → ((u : Trie) → within hop_bound w u ≡ true → SameBatch w (rest (as_ledger u)) (restIn u))
    → SameBatch w (next (as_ledger t) (image o) rest) (next_in t o restIn)
next_in_lem w t (taken_in u) rest restIn e g go = let r = go u g in (ap one_more r.0, r.1)
next_in_lem w t (refused_in x) rest restIn e g go = (refl, e)

pub batch_in : (w slots : ℕ) (t : Trie) (rs : List Reading) → within hop_bound w t ≡ true → Each (Sound w) rs
    → SameBatch w (apply_all w slots (as_ledger t) rs) (apply_all_in slots t rs)
batch_in w slots t [] e ok = (refl, e)
batch_in w slots t (r ∷ rs) e ok =
    let a = apply_in_lem w slots t r e ok.0 in
    let s = next_in_lem w t (apply_in slots t r) (λ M. apply_all w slots M rs) (λ u. apply_all_in slots u rs) e a.1
    (λ u f. batch_in w slots u rs f ok.1) in
    (ap (λ o. next (as_ledger t) o (λ M. apply_all w slots M rs)) a.0 ∙ s.0, s.1)
