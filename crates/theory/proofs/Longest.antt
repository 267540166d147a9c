-- Laws of longest match: it is the longest held prefix, and how a list of entries is split at the first bit.
use mathlib.Core.Path.{◌≡◌, refl, sym, ap, ◌∙◌}
use mathlib.Core.Logic.{◌⊎◌, inl, inr}
use mathlib.Core.Bool.{Bool, true, false}
use mathlib.Core.List.{List, [], ◌∷◌}
use mathlib.Core.Option.{Option, none, some}
use Prim.Native.Nat.{ℕ, zero, suc, ◌+◌, ◌<◌, ◌≤◌}
use native.Mathlib.Omega.{arith}
use lib.ListN.{length, take}
use Rattle.theory.specs.Bits.{Bits}
use Rattle.theory.specs.Ledger.{Ledger, Entry, ◌via◌, or_else, nothing, announce, below, longest, load_onto, load, IsLongest}

-- LONGEST MATCH IN DOCUMENT 01'S WORDS: the definition answers so, ..
pub none_some : {A B : Type 0} {x : A} {o : Option A} → o ≡ some x → o ≡ none → B
none_some p q = absurd (let z : ◌≡◌ {A = ℕ} 0 1 = cc in omega arith)

same_some : {A : Type 0} {x y : A} → some x ≡ some y → x ≡ y
same_some {x} {y} e = cc

order : (i j : ℕ) → (i < j) ⊎ ((j < i) ⊎ (i ≡ j))
order zero zero = inr (inr refl)
order zero (suc j) = inl (omega arith)
order (suc i) zero = inr (inl (omega arith))
order (suc i) (suc j) = elim (order i j) [ inl l ↦ inl (omega arith) | inr (inl l) ↦ inr (inl (omega arith)) | inr (inr e) ↦ inr (inr (ap suc e)) ]

module _ {A : Type 0} where
  longest_end : (L : Ledger A) (d : A) (o : Option A) → L [] ≡ o → IsLongest L d [] (or_else o d)
  longest_end L d none e = inr record { none_begins = none_begins; default = refl }
    where
      none_begins : (k : ℕ) → k ≤ 0 → L (take k []) ≡ none
      none_begins zero l = e
      none_begins (suc k) l = absurd (omega arith)
  longest_end L d (some x) e = inl record { size = 0; begins = omega arith; holds = e; no_longer = λ k p q. absurd (omega arith) }

  longest_step : (L : Ledger A) (d : A) (b : Bool) (a : Bits) (o : Option A) → L [] ≡ o → (x : A)
      → IsLongest (below b L) (or_else o d) a x → IsLongest L d (b ∷ a) x
  longest_step L d b a o e x (inl f) = inl record {
    size = suc f.size;
    begins = omega (arith, f.begins);
    holds = f.holds;
    no_longer = longer;
  }
    where
      longer : (k : ℕ) → suc f.size < k → k ≤ suc (length a) → L (take k (b ∷ a)) ≡ none
      longer zero p q = absurd (omega arith)
      longer (suc k) p q = f.no_longer k (omega arith) (omega arith)
  longest_step L d b a none e x (inr m) = inr record { none_begins = none_begins; default = m.default }
    where
      none_begins : (k : ℕ) → k ≤ suc (length a) → L (take k (b ∷ a)) ≡ none
      none_begins zero l = e
      none_begins (suc k) l = m.none_begins k (omega arith)
  longest_step L d b a (some y) e x (inr m) = inl record {
    size = 0;
    begins = omega arith;
    holds = e ∙ ap some (sym m.default);
    no_longer = longer;
  }
    where
      longer : (k : ℕ) → 0 < k → k ≤ suc (length a) → L (take k (b ∷ a)) ≡ none
      longer zero p q = absurd (omega arith)
      longer (suc k) p q = m.none_begins k (omega arith)

  pub longest_is : (L : Ledger A) (d : A) (a : Bits) → IsLongest L d a (longest L d a)
  longest_is L d [] = longest_end L d (L []) refl
  longest_is L d (b ∷ a) = longest_step L d b a (L []) refl _ (longest_is (below b L) (or_else (L []) d) a)

  -- .. and nothing else does
  one_longest : (L : Ledger A) (d : A) (a : Bits) (x y : A) → IsLongest L d a x → IsLongest L d a y → x ≡ y
  one_longest L d a x y (inl f) (inl g) =
      elim (order f.size g.size) [
        | inl l ↦ none_some g.holds (f.no_longer g.size l g.begins)
        | inr (inl l) ↦ none_some f.holds (g.no_longer f.size l f.begins)
        | inr (inr e) ↦ same_some (sym f.holds ∙ ap (λ k. L (take k a)) e ∙ g.holds)
      ]
  one_longest L d a x y (inl f) (inr m) = none_some f.holds (m.none_begins f.size f.begins)
  one_longest L d a x y (inr m) (inl g) = none_some g.holds (m.none_begins g.size g.begins)
  one_longest L d a x y (inr m) (inr k) = m.default ∙ sym k.default

  pub longest_only : (L : Ledger A) (d : A) (a : Bits) (x : A) → IsLongest L d a x → x ≡ longest L d a
  longest_only L d a x i = one_longest L d a x _ i (longest_is L d a)

-- Longest match reads no string longer than the address.
pub longest_upto : {A : Type 0} (L M : Ledger A) (d : A) (a : Bits) → ((s : Bits) → length s ≤ length a → L s ≡ M s)
    → longest L d a ≡ longest M d a
longest_upto L M d [] h = rw (h [] (omega arith))
longest_upto L M d (b ∷ a) h =
    rw (h [] (omega arith)) (longest_upto (below b L) (below b M) _ a (λ s l. h (b ∷ s) (omega arith)))

-- What longest match gives was held, or in force at first.
module _ {A : Type 0} (P : A → Type 0) where
  else_keeps : (o : Option A) (d : A) → ((x : A) → o ≡ some x → P x) → P d → P (or_else o d)
  else_keeps none d h p = p
  else_keeps (some x) d h p = h x refl

  pub longest_keeps : (L : Ledger A) (d : A) → ((s : Bits) (x : A) → L s ≡ some x → P x) → P d → (a : Bits) → P (longest L d a)
  longest_keeps L d h p [] = else_keeps (L []) d (h []) p
  longest_keeps L d h p (b ∷ a) = longest_keeps (below b L) (or_else (L []) d) (λ s. h (b ∷ s)) (else_keeps (L []) d (h []) p) a

-- Where the empty string is held, what was in force above it does not matter.
pub longest_default : {A : Type 0} (L : Ledger A) (x d : A) → L [] ≡ some x → (a : Bits) → longest L d a ≡ longest L x a
longest_default L x d e [] = rw e
longest_default L x d e (b ∷ a) = rw e

-- The entries of a list behind a first bit, and how many stand at the empty string.
abbrev pub after : Bool → List Entry → List Entry
after b [] = []
after b ([] via h ∷ es) = after b es
after true ((true ∷ p) via h ∷ es) = p via h ∷ after true es
after true ((false ∷ p) via h ∷ es) = after true es
after false ((true ∷ p) via h ∷ es) = after false es
after false ((false ∷ p) via h ∷ es) = p via h ∷ after false es

abbrev pub at_top : List Entry → ℕ
at_top [] = 0
at_top ([] via h ∷ es) = suc (at_top es)
at_top ((b ∷ p) via h ∷ es) = at_top es

pub split_length : (es : List Entry) → length es ≡ at_top es + (length (after false es) + length (after true es))
split_length [] = refl
split_length ([] via h ∷ es) = let r = split_length es in omega arith
split_length ((true ∷ p) via h ∷ es) = let r = split_length es in omega arith
split_length ((false ∷ p) via h ∷ es) = let r = split_length es in omega arith

-- Behind a bit, a loaded list is the list of its entries behind that bit, loaded.
pub below_load : (b : Bool) (L : Ledger ℕ) (es : List Entry) → below b (load_onto L es) ≡ load_onto (below b L) (after b es)
below_load b L [] = refl
below_load b L ([] via h ∷ es) = below_load b (announce L [] h) es
below_load true L ((true ∷ p) via h ∷ es) = below_load true (announce L (true ∷ p) h) es
below_load true L ((false ∷ p) via h ∷ es) = below_load true (announce L (false ∷ p) h) es
below_load false L ((true ∷ p) via h ∷ es) = below_load false (announce L (true ∷ p) h) es
below_load false L ((false ∷ p) via h ∷ es) = below_load false (announce L (false ∷ p) h) es

-- At the empty string, a list with no entry there changes nothing.
pub load_top : (L : Ledger ℕ) (es : List Entry) → (load_onto L es [] ≡ L []) ⊎ (1 ≤ at_top es)
load_top L [] = inl refl
load_top L ([] via h ∷ es) = inr (omega arith)
load_top L ((b ∷ p) via h ∷ es) = load_top (announce L (b ∷ p) h) es

-- Lookup in a list, one bit down.
pub lookup_down : (es : List Entry) (d : ℕ) (b : Bool) (a : Bits)
    → longest (load es) d (b ∷ a) ≡ longest (load (after b es)) (or_else (load es []) d) a
lookup_down es d b a = ap (λ L. longest L (or_else (load es []) d) a) (below_load b nothing es)
