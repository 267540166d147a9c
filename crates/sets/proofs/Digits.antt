-- THE DIGITS OF WORDS THAT STAND ONE BEHIND THE OTHER, over how many words there are: what holds of the digits of one word holds of the digits of
-- all. Nothing here knows how many hops there are.
use mathlib.Core.Path.{◌≡◌, refl, sym, ap, ap₂, fun_ext, ◌∙◌}
use mathlib.Core.Logic.{inl, inr}
use mathlib.Core.Bool.{Bool, true, false, not, not-not, cond, ◌&&◌, ◌||◌}
use mathlib.Core.List.{List}
use Prim.Native.Nat.{ℕ, zero, suc, ◌+◌, ◌-◌, ◌*◌, ◌/◌, ◌%◌, ◌^◌, ◌≤◌, ◌<◌}
use native.Mathlib.Omega.{arith}
use native.Mathlib.Numerals.{add-one}
use lib.Bits.{bit_or, and_le_r, or_add_and, or_zero_l}
use lib.Count.{count_trailing_zeros}
use lib.Dec.{eqb, ltb}
use lib.ListN.{length, get_or, take, replicate, get_or-replicate, length-replicate, get_or-eq_default}
use mir.Syntax.{w64}
use mir.Val.{Fits}
use borrow.Author.Tests.{eqb-true, eqb-false, eq-eqb, ne_eqb, ltb-true, ltb-false}
use Rattle.std.specs.List.{list_all}
use Rattle.std.proofs.lemmas.List.Folds.{list_all_more}
use Rattle.std.proofs.Math.Seq.{take-length}
use Rattle.theory.specs.Hops.{only, some_below, least}
use Rattle.theory.proofs.Hops.{by_test}
use Rattle.rules.specs.Numbers.{word_bits}
use Rattle.sets.specs.Sets.{digits, digits_of}
use Rattle.sets.proofs.Searches.{from, some_parts, least_first, least_second, some_same, least_same}
use Rattle.sets.proofs.Words.{digits_zero, digits_power, some_digit, least_digit}

-- what a u64 is: below 2 ^ 64
pub in_word : {x : ℕ} → Fits w64 x → x < 2 ^ word_bits
in_word held = held.fits

-- EACH WORD'S DIGITS, in its place
digit_at : (words : List ℕ) (k j : ℕ) → j < word_bits → digits_of words (word_bits * k + j) ≡ digits (get_or words k 0) j
unfolding digits_of
digit_at words k j l =
    let word : (word_bits * k + j) / word_bits ≡ k = omega arith in
    let digit : (word_bits * k + j) % word_bits ≡ j = omega arith in
    rw (word, digit)

-- AN OPERATION ON EACH WORD is one on the sets, if it is one on a word's digits.
pub digits_each : (op : ℕ → ℕ → ℕ) (test : Bool → Bool → Bool) → ((x y k : ℕ) → digits (op x y) k ≡ test (digits x k) (digits y k))
    → (a b words : List ℕ) → ((i : ℕ) → get_or words i 0 ≡ op (get_or a i 0) (get_or b i 0))
    → digits_of words ≡ (λ k. test (digits_of a k) (digits_of b k))
unfolding digits_of
digits_each op test on-digits a b words each =
    fun_ext (λ k.
    ap (λ x. digits x (k % word_bits)) (each (k / word_bits)) ∙ on-digits (get_or a (k / word_bits) 0) (get_or b (k / word_bits) 0) (k % word_bits))

-- WORDS WITHOUT A DIGIT, and words with one
zero_word : (n i : ℕ) → get_or {A = ℕ} (replicate n 0) i 0 ≡ 0
zero_word n i =
    elim (by_test (ltb i n)) [
      | inl e ↦ get_or-replicate n i 0 0 (ltb-true i n e)
      | inr e ↦ let behind = ltb-false i n e in get_or-eq_default (replicate n 0) 0 (omega (arith, length-replicate {A = ℕ} n 0))
    ]

no_digit : (j : ℕ) → digits 0 j ≡ false
no_digit j = ap (λ x. x j) digits_zero

pub digits_none : (n : ℕ) → digits_of (replicate n 0) ≡ (λ k. false)
unfolding digits_of
digits_none n = fun_ext (λ k. ap (λ x. digits x (k % word_bits)) (zero_word n (k / word_bits)) ∙ no_digit (k % word_bits))

module _ (n j : ℕ) (within : j < word_bits * n) (words : List ℕ) (long : length words ≡ n)
    (each : (k : ℕ) → k < n → get_or words k 0 ≡ cond (eqb k (j / word_bits)) (1 * 2 ^ (j % word_bits) % 2 ^ word_bits) 0) where
  its_word : get_or words (j / word_bits) 0 ≡ 1 * 2 ^ (j % word_bits) % 2 ^ word_bits
  its_word = each (j / word_bits) (omega arith) ∙ rw (eq-eqb (j / word_bits) (j / word_bits) refl)

  other_word : (k : ℕ) → (k ≡ j / word_bits → ⊥) → get_or words k 0 ≡ 0
  other_word k other =
      elim (by_test (ltb k n)) [
        | inl e ↦ each k (ltb-true k n e) ∙ rw (ne_eqb k (j / word_bits) other)
        | inr e ↦ let behind = ltb-false k n e in get_or-eq_default words 0 (omega arith)
      ]

  pub digits_one : digits_of words ≡ only j
  unfolding digits_of
  digits_one = fun_ext (λ k. elim (by_test (eqb (k / word_bits) (j / word_bits))) [
    | inl e ↦
        let same = eqb-true (k / word_bits) (j / word_bits) e in
        ap (λ x. digits x (k % word_bits)) (ap (λ i. get_or words i 0) same ∙ its_word)
        ∙ ap (λ x. x (k % word_bits)) (digits_power word_bits (j % word_bits) (omega arith))
        ∙ same_digit k same
    | inr e ↦
        let different = eqb-false (k / word_bits) (j / word_bits) e in
        ap (λ x. digits x (k % word_bits)) (other_word (k / word_bits) different)
        ∙ no_digit (k % word_bits)
        ∙ sym (ne_eqb k j (λ q. different (ap (λ x. x / word_bits) q)))
  ])
    where
      same_digit : (k : ℕ) → k / word_bits ≡ j / word_bits → eqb (k % word_bits) (j % word_bits) ≡ eqb k j
      same_digit k same =
          elim (by_test (eqb (k % word_bits) (j % word_bits))) [
            | inl e ↦ let too = eqb-true (k % word_bits) (j % word_bits) e in e ∙ sym (eq-eqb k j (omega arith))
            | inr e ↦ let other = eqb-false (k % word_bits) (j % word_bits) e in e ∙ sym (ne_eqb k j (λ q. other (ap (λ x. x % word_bits) q)))
          ]

module _ (words : List ℕ) (k : ℕ) (fits : get_or words k 0 < 2 ^ word_bits) where
  some_here : some_below word_bits (from (word_bits * k) (digits_of words)) ≡ not (eqb (get_or words k 0) 0)
  some_here = some_same word_bits _ _ (digit_at words k) ∙ some_digit word_bits (get_or words k 0) fits

-- THE DIGITS OF THE FIRST k WORDS, all of them at once: `seen` is 0 exactly where there is none, and a word more is one step.
abbrev pub Seen : List ℕ → ℕ → ℕ → Type 0
Seen words k seen = some_below (word_bits * k) (digits_of words) ≡ not (eqb seen 0)

either_seen : (a b : ℕ) → (not (eqb a 0) || not (eqb b 0)) ≡ not (eqb (bit_or a b) 0)
either_seen a b =
    elim (by_test (eqb a 0)) [
      | inl e ↦ rw (eqb-true a 0 e)
      | inr e ↦
          let some = eqb-false a 0 e in
          rw (e, ne_eqb (bit_or a b) 0 (λ none. some (omega (arith, or_add_and a b, and_le_r a b))))
    ]

pub seen_more : (words : List ℕ) (k : ℕ) → get_or words k 0 < 2 ^ word_bits
    → (seen : ℕ) → Seen words k seen → Seen words (k + 1) (bit_or seen (get_or words k 0))
seen_more words k fits seen so_far =
    let one_more : word_bits * (k + 1) ≡ word_bits * k + word_bits = omega arith in
    ap (λ n. some_below n (digits_of words)) one_more
    ∙ some_parts (word_bits * k) word_bits (digits_of words)
    ∙ ap₂ (λ p q. p || q) so_far (some_here words k fits)
    ∙ either_seen seen (get_or words k 0)

both_zero : (a b : ℕ) → (eqb a 0 && eqb b 0) ≡ eqb (bit_or a b) 0
both_zero a b = neither (eqb a 0) (eqb b 0) ∙ ap not (either_seen a b) ∙ not-not (eqb (bit_or a b) 0)
  where
    neither : (p q : Bool) → (p && q) ≡ not (not p || not q)
    neither true q = sym (not-not q)
    neither false q = refl

pub seen_all : (words : List ℕ) (k seen : ℕ) → Seen words k seen → eqb seen 0 ≡ not (some_below (word_bits * k) (digits_of words))
seen_all words k seen so_far = sym (not-not (eqb seen 0)) ∙ ap not (sym so_far)

-- NO DIGIT: none is in the first k words where all of them are 0, and none in any where each is tested to be 0; both word after word.
pub none_before : (words : List ℕ) (k : ℕ) → ((i : ℕ) → i < k → get_or words i 0 ≡ 0) → some_below (word_bits * k) (digits_of words) ≡ false
none_before words zero zeros = refl
none_before words (suc k) zeros =
    let zero_here = zeros k (omega arith) in
    ap (λ n. some_below (word_bits * n) (digits_of words)) (sym (add-one k))
    ∙ seen_more words k (omega (arith, zero_here)) 0 (none_before words k (λ i l. zeros i (omega arith)))
    ∙ ap (λ x. not (eqb x 0)) (or_zero_l (get_or words k 0) ∙ zero_here)

module _ (words : List ℕ) (fits : (i : ℕ) → get_or words i 0 < 2 ^ word_bits) where
  first_words : ℕ → ℕ
  first_words zero = 0
  first_words (suc k) = bit_or (first_words k) (get_or words k 0)

  seen_so : (k : ℕ) → Seen words k (first_words k)
  unfolding first_words
  seen_so zero = refl
  seen_so (suc k) =
      ap (λ n. some_below (word_bits * n) (digits_of words)) (sym (add-one k)) ∙ seen_more words k (fits k) (first_words k) (seen_so k)

  abbrev is_zero : ℕ → Bool
  is_zero word = eqb word 0

  each_tested : (k : ℕ) → k ≤ length words → list_all is_zero (take k words) ≡ is_zero (first_words k)
  unfolding first_words
  each_tested zero l = refl
  each_tested (suc k) l =
      ap (λ n. list_all is_zero (take n words)) (sym (add-one k))
      ∙ list_all_more is_zero words k 0 (omega arith)
      ∙ ap (λ q. q && is_zero (get_or words k 0)) (each_tested k (omega arith))
      ∙ both_zero (first_words k) (get_or words k 0)

  pub all_zero : list_all (λ word. eqb word 0) words ≡ not (some_below (word_bits * length words) (digits_of words))
  all_zero =
      ap (list_all is_zero) (sym (take-length words))
      ∙ each_tested (length words) (omega arith)
      ∙ seen_all words (length words) (first_words (length words)) (seen_so (length words))

module _ (words : List ℕ) (k : ℕ) (fits : get_or words k 0 < 2 ^ word_bits) where
  -- THE LEAST DIGIT is in the first word that has one.
  pub least_here : (n : ℕ) → k < n → some_below (word_bits * k) (digits_of words) ≡ false → (get_or words k 0 ≡ 0 → ⊥)
      → least (word_bits * n) (digits_of words) ≡ word_bits * k + count_trailing_zeros word_bits (get_or words k 0)
  least_here n l none some =
      let rest = word_bits * (n - suc k) in
      let split : word_bits * n ≡ word_bits * k + (word_bits + rest) = omega arith in
      let here = from (word_bits * k) (digits_of words) in
      let there : some_below word_bits here ≡ true = some_here words k fits ∙ ap not (ne_eqb (get_or words k 0) 0 some) in
      ap (λ m. least m (digits_of words)) split
      ∙ least_second (word_bits * k) (word_bits + rest) (digits_of words) none
      ∙ ap (λ m. word_bits * k + m) (least_first word_bits rest here there ∙ least_same word_bits here _ (digit_at words k) ∙ sym (least_digit word_bits (get_or words k 0)))
