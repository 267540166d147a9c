-- The same of sets: each law of words, with discard beside them; and sets in scratch, slot by slot.
use mathlib.Core.Path.{◌≡◌, refl, sym, ap, ap₂, subst, fun_ext, ◌∙◌}
use mathlib.Core.Bool.{Bool, true, false, not, cond, ◌&&◌, ◌||◌}
use mathlib.Core.List.{List}
use Prim.Native.Nat.{ℕ, zero, suc, ◌+◌, ◌-◌, ◌*◌, ◌/◌, ◌%◌, ◌^◌, ◌<◌}
use native.Mathlib.Omega.{arith}
use native.Mathlib.Numerals.{sub-one}
use lib.Count.{count_trailing_zeros}
use lib.Dec.{eqb, ltb, eqb-zero-suc, eqb-suc-zero, eqb-suc-suc}
use lib.ListN.{length, get_or, set, take, drop, replicate, length-drop}
use lib.Seq.{length-take-le}
use mir.Val.{bool_byte}
use borrow.Author.Count.{below_more}
use borrow.Author.Tests.{lt-ltb}
use Rattle.theory.specs.Hops.{Hops, only, some_below, least, common, union}
use Rattle.rules.specs.Numbers.{discard, highest_hop, MayAnnounce, hop_bound, word_bits, hop_words, set_words}
use Rattle.sets.specs.declared.HopSet.{HopSet}
use Rattle.sets.specs.Sets.{digits_of, beside, members, set_in, HasWords, Keeps}
use Rattle.sets.proofs.Searches.{least_none}
use Rattle.sets.proofs.Digits.{digits_none, digits_one, none_before, least_here}
use Rattle.sets.proofs.Filling.{Filled, filled_more, part_is, same_part}

-- HOP 0 BESIDE A SET of the hops behind it: an operation on both is one on the flags and one on the sets.
on_beside : (op : Bool → Bool → Bool) (a b : Bool) (x y : Hops) → (λ h. op (beside a x h) (beside b y h)) ≡ beside (op a b) (λ k. op (x k) (y k))
unfolding beside
on_beside op a b x y = fun_ext go
  where
    go : (h : ℕ) → op (beside a x h) (beside b y h) ≡ beside (op a b) (λ k. op (x k) (y k)) h
    go zero = refl
    go (suc k) = refl

discard_alone : beside true (λ k. false) ≡ only discard
unfolding beside
discard_alone = fun_ext go
  where
    go : (h : ℕ) → beside true (λ k. false) h ≡ only discard h
    go zero = refl
    go (suc k) = sym (eqb-suc-zero k)

only_behind : (j : ℕ) → beside false (only j) ≡ only (suc j)
unfolding beside
only_behind j = fun_ext go
  where
    go : (h : ℕ) → beside false (only j) h ≡ only (suc j) h
    go zero = sym (eqb-zero-suc j)
    go (suc k) = sym (eqb-suc-suc k j)

-- ONE HOP, and whether a hop is a member
pub only_discard : (h : ℕ) → h ≡ discard → members (record { discards = true; words = replicate hop_words 0 }) ≡ only h
unfolding members
only_discard h e = ap (beside true) (digits_none hop_words) ∙ discard_alone ∙ ap only (sym e)

pub only_is : (h : ℕ) → (h ≡ discard → ⊥) → MayAnnounce h → (words : List ℕ) → length words ≡ hop_words
    → ((k : ℕ) → k < hop_words → get_or words k 0 ≡ cond (eqb k ((h - 1) / word_bits)) (1 * 2 ^ ((h - 1) % word_bits) % 2 ^ word_bits) 0)
    → members (record { discards = false; words = words }) ≡ only h
unfolding members
only_is zero other may words whole each = absurd (other refl)
only_is (suc j) other may words whole each =
    let behind = rw sub-one at each in
    ap (beside false) (digits_one hop_words j (omega arith) words whole behind) ∙ only_behind j

pub has_discard : (s : HopSet) (h : ℕ) → h ≡ discard → s.discards ≡ members s h
unfolding members beside
has_discard s h e = rw e

pub has_digit : (s : HopSet) (h : ℕ) → (h ≡ discard → ⊥)
    → eqb (get_or s.words ((h - 1) / word_bits) 0 / 2 ^ ((h - 1) % word_bits) % 2) 1 ≡ members s h
unfolding members beside digits_of
has_digit s zero other = absurd (other refl)
has_digit s (suc k) other = ap (digits_of s.words) (sub-one (suc k))

-- WHAT IS COMMON to two sets, what is in either, and whether a set is empty
module _ (s t : HopSet) (words : List ℕ) where
  pub common_is : digits_of words ≡ common (digits_of s.words) (digits_of t.words)
      → members (record { discards = s.discards && t.discards; words = words }) ≡ common (members s) (members t)
  unfolding members
  common_is both =
      ap (beside (s.discards && t.discards)) both
      ∙ sym (on_beside (λ p q. p && q) s.discards t.discards (digits_of s.words) (digits_of t.words))

  pub union_is : digits_of words ≡ union (digits_of s.words) (digits_of t.words)
      → members (record { discards = s.discards || t.discards; words = words }) ≡ union (members s) (members t)
  unfolding members
  union_is either =
      ap (beside (s.discards || t.discards)) either
      ∙ sym (on_beside (λ p q. p || q) s.discards t.discards (digits_of s.words) (digits_of t.words))

pub empty_is : (s : HopSet) {none : Bool} → none ≡ not (some_below highest_hop (digits_of s.words))
    → (not s.discards && none) ≡ not (some_below hop_bound (members s))
unfolding members beside
empty_is s told = ap (λ q. not s.discards && q) told ∙ neither s.discards (some_below highest_hop (digits_of s.words))
  where
    neither : (p q : Bool) → (not p && not q) ≡ not (p || q)
    neither true q = refl
    neither false q = refl

-- THE LEAST HOP: discard, or the hop of the first digit; where no word has one, the bound
module _ (s : HopSet) where
  pub least_discard : s.discards ≡ true → discard ≡ least hop_bound (members s)
  unfolding members beside
  least_discard e = rw e

  least_behind : s.discards ≡ false → least hop_bound (members s) ≡ suc (least highest_hop (digits_of s.words))
  unfolding members beside
  least_behind e = rw e

  -- the first k words have been looked at: none has a digit, and `below` is the first hop of the next
  pub record Looked (below k : ℕ) : Type 0 where
    pub next : below ≡ word_bits * k + 1
    pub zeros : (i : ℕ) → i < k → get_or s.words i 0 ≡ 0

  module _ (below k : ℕ) (so_far : Looked below k) where
    pub looked_more : get_or s.words k 0 ≡ 0 → Looked (below + word_bits) (k + 1)
    looked_more zero_here = record { next = omega (arith, so_far.next); zeros = below_more _ k so_far.zeros zero_here }

    pub least_is : s.discards ≡ false → k < hop_words → (get_or s.words k 0 ≡ 0 → ⊥) → get_or s.words k 0 < 2 ^ word_bits
        → below + count_trailing_zeros word_bits (get_or s.words k 0) ≡ least hop_bound (members s)
    least_is e within some fits =
        let found = least_here s.words k fits hop_words within (none_before s.words k so_far.zeros) some in
        sym (least_behind e ∙ ap suc found ∙ omega (arith, so_far.next))

    pub least_empty : s.discards ≡ false → k ≡ hop_words → below ≡ least hop_bound (members s)
    least_empty e last =
        let no_digit : some_below highest_hop (digits_of s.words) ≡ false =
        ap (λ n. some_below (word_bits * n) (digits_of s.words)) (sym last) ∙ none_before s.words k so_far.zeros in
        sym (least_behind e ∙ ap suc (least_none highest_hop (digits_of s.words) no_digit) ∙ omega (arith, so_far.next))

-- THE EMPTY SET has no least member, so that its `least` is the bound.
pub empty_least : least hop_bound (members (record { discards = false; words = replicate hop_words 0 })) ≡ hop_bound
unfolding members beside digits_of
empty_least = refl

-- SCRATCH: a set's words and, behind them, its flag as a number, are one slot's set kept
unfoldable pub word_of : HopSet → ℕ → ℕ
word_of s i = cond (ltb i hop_words) (get_or s.words i 0) (bool_byte s.discards)

pub word_of_lem : (s : HopSet) (i : ℕ) → i < hop_words → get_or s.words i 0 ≡ word_of s i
unfolding word_of
word_of_lem s i l = rw (lt-ltb i hop_words l)

pub flag_of : (s : HopSet) (i : ℕ) → i ≡ hop_words → bool_byte s.discards ≡ word_of s i
unfolding word_of
flag_of s i e = rw e

byte_is : (b : Bool) → eqb (bool_byte b) 1 ≡ b
byte_is true = refl
byte_is false = refl

module _ (scratch : List ℕ) (slot : ℕ) (room : HasWords scratch slot) where
  pub keeps : (s : HopSet) → length s.words ≡ hop_words → {stored : List ℕ} (k flag : ℕ) → k ≡ hop_words → Filled (word_of s) (set_words * slot) scratch k stored
      → flag ≡ bool_byte s.discards → Keeps scratch slot s (set stored (set_words * slot + hop_words) flag)
  unfolding members set_in
  keeps s whole {stored} k flag all so_far flag-is =
      let at = set_words * slot in
      let scratch' = set stored (at + hop_words) flag in
      let filled : Filled (word_of s) at scratch set_words scratch' =
      filled_more (word_of s) at scratch hop_words (subst (λ n. Filled (word_of s) at scratch n stored) all so_far) (omega arith) _ _ refl
      (flag-is ∙ flag_of s hop_words refl) in
      let long = filled.same_length in
      let part : take hop_words (drop at scratch') ≡ s.words =
      part_is hop_words at scratch' s.words
      (length-take-le hop_words (drop at scratch') (omega (arith, length-drop at scratch', long)) ∙ sym whole)
      (λ i l. filled.written i (omega arith) ∙ sym (word_of_lem s i l)) in
      let discards : eqb (get_or scratch' (at + hop_words) 0) 1 ≡ s.discards =
      ap (λ v. eqb v 1) (filled.written hop_words (omega arith) ∙ sym (flag_of s hop_words refl)) ∙ byte_is s.discards in
      record {
        there = ap₂ (λ b words. beside b (digits_of words)) discards part;
        elsewhere = λ j other.
            let same : (i : ℕ) → i < set_words → get_or scratch' (set_words * j + i) 0 ≡ get_or scratch (set_words * j + i) 0 = λ i l.
            filled.others (set_words * j + i) (λ low high. other (omega arith)) in
            ap₂ (λ v words. beside (eqb v 1) (digits_of words)) (same hop_words (omega arith))
            (same_part hop_words (set_words * j) scratch scratch' long (λ i l. same i (omega arith)));
        same_length = long;
      }

  pub kept_is : (words : List ℕ) → length words ≡ hop_words → ((i : ℕ) → i < hop_words → get_or words i 0 ≡ get_or scratch (set_words * slot + i) 0)
      → members (record { discards = eqb (get_or scratch (set_words * slot + hop_words) 0) 1; words = words }) ≡ set_in scratch slot
  unfolding members set_in
  kept_is words whole each =
      let at = set_words * slot in
      let long : length (take hop_words (drop at scratch)) ≡ length words =
      length-take-le hop_words (drop at scratch) (omega (arith, length-drop at scratch)) ∙ sym whole in
      let part = part_is hop_words at scratch words long (λ i l. sym (each i l)) in
      ap (λ l. beside (eqb (get_or scratch (at + hop_words) 0) 1) (digits_of l)) (sym part)
