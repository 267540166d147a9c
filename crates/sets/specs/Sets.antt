-- A SET OF HOPS IN WORDS, WITH DISCARD BESIDE THEM: hop 0 is a flag, and the hops behind it have a bit each, the first 64 of them in the first word,
-- the next 64 in the next. So many words as there are in the list: how many hops there are is said in rules/Numbers alone.
use Rattle.std.specs.Prelude.{◌≡◌, Bool, List, ℕ, zero, suc, ◌+◌, ◌*◌, ◌/◌, ◌%◌, ◌^◌, ◌≤◌, eqb, length, get_or, take, drop}
use Rattle.theory.specs.Hops.{Hops}
use Rattle.rules.specs.Numbers.{word_bits, hop_words, set_words, scratch_words}
use Rattle.sets.specs.declared.HopSet.{HopSet}

-- the set of a word's digits: digit k is the bit of weight 2 ^ k
abbrev pub digits : ℕ → Hops
digits x k = eqb (x / 2 ^ k % 2) 1

-- the set of the digits of words that stand one behind the other
unfoldable pub digits_of : List ℕ → Hops
digits_of words k = digits (get_or words (k / word_bits) 0) (k % word_bits)

-- a set moved up by one hop, with hop 0 beside it
unfoldable pub beside : Bool → Hops → Hops
beside b x zero = b
beside b x (suc k) = x k

unfoldable pub members : HopSet → Hops
members set = beside set.discards (digits_of set.words)

-- SETS IN SCRATCH: a slot's set, that the scratch has words for the slot, and a set kept there
unfoldable pub set_in : List ℕ → ℕ → Hops
set_in scratch slot =
    let at = set_words * slot in
    beside (eqb (get_or scratch (at + hop_words) 0) 1) (digits_of (take hop_words (drop at scratch)))

abbrev pub HasWords : List ℕ → ℕ → Type 0
HasWords scratch slot = scratch_words (suc slot) ≤ length scratch

pub record Keeps (scratch : List ℕ) (slot : ℕ) (set : HopSet) (scratch' : List ℕ) : Type 0 where
  pub there : set_in scratch' slot ≡ members set
  pub elsewhere : (k : ℕ) → (k ≡ slot → ⊥) → set_in scratch' k ≡ set_in scratch k
  pub same_length : length scratch' ≡ length scratch
