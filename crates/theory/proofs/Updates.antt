-- Announcements and withdrawals do to the ledger what the record rules say, and nothing else.
use mathlib.Core.Path.{◌≡◌, ap, ◌∙◌}
use mathlib.Core.Bool.{false}
use mathlib.Core.List.{List, [], ◌∷◌, ◌++◌}
use mathlib.Core.Option.{none, some}
use mathlib.Core.Logic.{inl, inr, ◌≢◌}
use Prim.Native.Nat.{ℕ}
use Rattle.theory.specs.Bits.{Bits, same}
use Rattle.theory.specs.Ledger.{Ledger, Entry, ◌via◌, nothing, announce, withdraw, load}
use Rattle.theory.proofs.Hops.{by-test}
use Rattle.theory.proofs.Strings.{same_self, same_true}
use Rattle.theory.proofs.Agrees.{load-append}

same_false : (s t : Bits) → s ≢ t → same s t ≡ false
same_false s t differ = elim (by-test (same s t)) [ inl e ↦ absurd (differ (same_true s t e)) | inr e ↦ e ]

module _ {A : Type 0} (L : Ledger A) (p : Bits) where
  pub announce-there : (x : A) → announce L p x p ≡ some x
  announce-there x = rw (same_self p)

  pub announce-elsewhere : (x : A) (s : Bits) → p ≢ s → announce L p x s ≡ L s
  announce-elsewhere x s differ = rw (same_false p s differ)

  pub withdraw-there : withdraw L p p ≡ none
  withdraw-there = rw (same_self p)

  pub withdraw-elsewhere : (s : Bits) → p ≢ s → withdraw L p s ≡ L s
  withdraw-elsewhere s differ = rw (same_false p s differ)

-- a later record for the same prefix wins
module _ (es : List Entry) (p : Bits) (h : ℕ) where
  pub later-wins : load (es ++ p via h ∷ []) p ≡ some h
  later-wins = ap (λ L. L p) (load-append nothing es (p via h ∷ [])) ∙ announce-there (load es) p h

  pub later-alone : (s : Bits) → p ≢ s → load (es ++ p via h ∷ []) s ≡ load es s
  later-alone s differ = ap (λ L. L s) (load-append nothing es (p via h ∷ [])) ∙ announce-elsewhere (load es) p h s differ
