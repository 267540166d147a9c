-- Counting over all strings: each string of at most w bits stands once in `strings w`, and a count over them is taken apart
-- at the first bit.
use mathlib.Core.Path.{◌≡◌, refl, sym, ap, ap₂, ◌∙◌}
use mathlib.Core.Bool.{Bool, true, false, cond, ◌||◌}
use mathlib.Core.Logic.{inl, inr, ⊎_elim}
use mathlib.Core.List.{List, [], ◌∷◌, ◌++◌, map, append_assoc}
use Prim.Native.Nat.{ℕ, zero, suc, ◌+◌, ◌≤◌, ◌<◌}
use native.Mathlib.Omega.{arith}
use native.Mathlib.Nat.{add_assoc}
use lib.ListN.{length}
use mathlib.Core.Option.{Option, none, some}
use Rattle.theory.specs.Bits.{Bits, same, strings, count, some_of}
use Rattle.theory.specs.Ledger.{Ledger, Entry, below, line, lines, routes}
use Rattle.theory.specs.Smallest.{move, under}
use Rattle.theory.proofs.Hops.{by-test, never, or-either, or_right}

-- The test for equal strings.
pub same_self : (s : Bits) → same s s ≡ true
same_self [] = refl
same_self (true ∷ s) = same_self s
same_self (false ∷ s) = same_self s

pub same_true : (s t : Bits) → same s t ≡ true → s ≡ t
same_true [] [] e = refl
same_true [] (c ∷ t) e = never e refl
same_true (b ∷ s) [] e = never e refl
same_true (true ∷ s) (true ∷ t) e = ap (λ r. true ∷ r) (same_true s t e)
same_true (true ∷ s) (false ∷ t) e = never e refl
same_true (false ∷ s) (true ∷ t) e = never e refl
same_true (false ∷ s) (false ∷ t) e = ap (λ r. false ∷ r) (same_true s t e)

module _ {A : Type 0} (p : A → Bool) where
  pub count-append : (xs ys : List A) → count p (xs ++ ys) ≡ count p xs + count p ys
  count-append [] ys = omega arith
  count-append (x ∷ xs) ys = ap (λ k. cond (p x) 1 0 + k) (count-append xs ys) ∙ sym (add_assoc (cond (p x) 1 0) (count p xs) (count p ys))

pub count_map : {A B : Type 0} (p : B → Bool) (f : A → B) (xs : List A) → count p (map f xs) ≡ count (λ x. p (f x)) xs
count_map p f [] = refl
count_map p f (x ∷ xs) = ap (λ k. cond (p (f x)) 1 0 + k) (count_map p f xs)

-- a count over all strings, one bit down
pub count_down : (p : Bits → Bool) (w : ℕ)
    → count p (strings (suc w)) ≡ cond (p []) 1 0 + (count (λ s. p (false ∷ s)) (strings w) + count (λ s. p (true ∷ s)) (strings w))
count_down p w =
    ap (λ k. cond (p []) 1 0 + k)
    (count-append p (map (λ s. false ∷ s) (strings w)) (map (λ s. true ∷ s) (strings w))
    ∙ ap₂ ◌+◌ (count_map p (λ s. false ∷ s) (strings w)) (count_map p (λ s. true ∷ s) (strings w)))

none-count : {A : Type 0} (xs : List A) → count (λ x. false) xs ≡ 0
none-count [] = refl
none-count (x ∷ xs) = let r = none-count xs in omega arith

-- each string of at most w bits stands in the list once, and no longer one does
pub strings-once : (w : ℕ) (s : Bits) → length s ≤ w → count (same s) (strings w) ≡ 1
strings-once zero [] l = refl
strings-once zero (b ∷ s) l = absurd (omega arith)
strings-once (suc w) [] l = count_down (same []) w ∙ omega (arith, none-count (strings w))
strings-once (suc w) (true ∷ s) l =
    count_down (same (true ∷ s)) w ∙ omega (arith, none-count (strings w), strings-once w s (omega arith))
strings-once (suc w) (false ∷ s) l =
    count_down (same (false ∷ s)) w ∙ omega (arith, none-count (strings w), strings-once w s (omega arith))

pub strings-no-longer : (w : ℕ) (s : Bits) → w < length s → count (same s) (strings w) ≡ 0
strings-no-longer zero [] l = absurd (omega arith)
strings-no-longer zero (b ∷ s) l = refl
strings-no-longer (suc w) [] l = absurd (omega arith)
strings-no-longer (suc w) (true ∷ s) l =
    count_down (same (true ∷ s)) w ∙ omega (arith, none-count (strings w), strings-no-longer w s (omega arith))
strings-no-longer (suc w) (false ∷ s) l =
    count_down (same (false ∷ s)) w ∙ omega (arith, none-count (strings w), strings-no-longer w s (omega arith))

-- the routes of a ledger, one bit down
pub under-append : (b : Bool) (xs ys : List Entry) → under b (xs ++ ys) ≡ under b xs ++ under b ys
under-append b [] ys = refl
under-append b (x ∷ xs) ys = ap (λ t. move b x ∷ t) (under-append b xs ys)

lines-append : (L : Ledger ℕ) (ss ts : List Bits) → lines L (ss ++ ts) ≡ lines L ss ++ lines L ts
lines-append L [] ts = refl
lines-append L (s ∷ ss) ts = ap (λ t. line s (L s) ++ t) (lines-append L ss ts) ∙ sym (append_assoc (line s (L s)) (lines L ss) (lines L ts))

line-under : (b : Bool) (s : Bits) (o : Option ℕ) → line (b ∷ s) o ≡ under b (line s o)
line-under b s none = refl
line-under b s (some h) = refl

lines-under : (b : Bool) (L : Ledger ℕ) (ss : List Bits) → lines L (map (λ s. b ∷ s) ss) ≡ under b (lines (below b L) ss)
lines-under b L [] = refl
lines-under b L (s ∷ ss) =
    ap₂ ◌++◌ (line-under b s (L (b ∷ s))) (lines-under b L ss) ∙ sym (under-append b (line s (L (b ∷ s))) (lines (below b L) ss))

pub routes-down : (w : ℕ) (L : Ledger ℕ)
    → routes (suc w) L ≡ line [] (L []) ++ (under false (routes w (below false L)) ++ under true (routes w (below true L)))
routes-down w L =
    ap (λ t. line [] (L []) ++ t)
    (lines-append L (map (λ s. false ∷ s) (strings w)) (map (λ s. true ∷ s) (strings w))
    ∙ ap₂ ◌++◌ (lines-under false L (strings w)) (lines-under true L (strings w)))

-- Whether some string passes a test.
module _ {A : Type 0} where
  pub some-append : (p : A → Bool) (xs ys : List A) → some_of p (xs ++ ys) ≡ (some_of p xs || some_of p ys)
  some-append p [] ys = refl
  some-append p (x ∷ xs) ys = elim (p x) as (λ b. cond b true (some_of p (xs ++ ys)) ≡ (cond b true (some_of p xs) || some_of p ys)) [
    | true ↦ refl
    | false ↦ some-append p xs ys
  ]

pub some-map : {A B : Type 0} (p : B → Bool) (f : A → B) (xs : List A) → some_of p (map f xs) ≡ some_of (λ x. p (f x)) xs
some-map p f [] = refl
some-map p f (x ∷ xs) = ap (λ b. cond (p (f x)) true b) (some-map p f xs)

pub some-down : (p : Bits → Bool) (w : ℕ)
    → some_of p (strings (suc w)) ≡ cond (p []) true (some_of (λ s. p (false ∷ s)) (strings w) || some_of (λ s. p (true ∷ s)) (strings w))
some-down p w =
    ap (λ b. cond (p []) true b)
    (some-append p (map (λ s. false ∷ s) (strings w)) (map (λ s. true ∷ s) (strings w))
    ∙ ap₂ ◌||◌ (some-map p (λ s. false ∷ s) (strings w)) (some-map p (λ s. true ∷ s) (strings w)))

later : (a : Bool) {b : Bool} → b ≡ true → cond a true b ≡ true
later true e = refl
later false e = e

-- in plain words: one does exactly when there is one of at most w bits that does
pub some-of-string : (p : Bits → Bool) (w : ℕ) (s : Bits) → length s ≤ w → p s ≡ true → some_of p (strings w) ≡ true
some-of-string p zero [] l e = rw e
some-of-string p zero (b ∷ s) l e = absurd (omega arith)
some-of-string p (suc w) [] l e = some-down p w ∙ rw e
some-of-string p (suc w) (false ∷ s) l e =
    some-down p w ∙ later (p []) (rw (some-of-string (λ t. p (false ∷ t)) w s (omega arith) e))
some-of-string p (suc w) (true ∷ s) l e =
    some-down p w ∙ later (p []) (or_right (some_of (λ t. p (false ∷ t)) (strings w)) _ (some-of-string (λ t. p (true ∷ t)) w s (omega arith) e))

pub string-of-some : (p : Bits → Bool) (w : ℕ) → some_of p (strings w) ≡ true → (s : Bits) × (length s ≤ w) × (p s ≡ true)
string-of-some p zero e = elim (by-test (p [])) [ inl h ↦ ([], omega arith, h) | inr h ↦ never (rw h at e) refl ]
string-of-some p (suc w) e =
    elim (by-test (p [])) [
      | inl h ↦ ([], omega arith, h)
      | inr h ↦
          let both = rw h at (sym (some-down p w) ∙ e) in
          ⊎_elim
          (λ f. let r = string-of-some (λ t. p (false ∷ t)) w f in (false ∷ r.0, omega (arith, r.1), r.2))
          (λ f. let r = string-of-some (λ t. p (true ∷ t)) w f in (true ∷ r.0, omega (arith, r.1), r.2))
          (or-either _ _ both)
    ]
