-- Which slots may be taken for a new string: those that no string of at most w bits lies in, and bare ones. In tidy memory they
-- are the free ones; in any other memory they are what the ledger does not need.
use Rattle.std.specs.Prelude.{◌≡◌, Option, MatchOption, Bool, true, false, cond, ◌&&◌, ℕ, zero, suc, ◌-◌, ◌/◌, ◌%◌, ◌<◌, ltb, eqb, get_or}
use Rattle.memory.specs.Layout.{Tree, Memory, slots, link}
use Rattle.memory.specs.Tidy.{bare, head_of}

-- the parent and the side that a slot's mark names
abbrev pub parent_of : Tree → ℕ → ℕ
parent_of t k = (get_or t.up k 0 - 1) / 2

abbrev pub side_of : Tree → ℕ → Bool
side_of t k = eqb (get_or t.up k 0 % 2) 0

-- does the slot have a mark, and does the parent that it names lead back to it?
unfoldable pub hangs : Tree → ℕ → Bool
hangs t k = ltb 0 (get_or t.up k 0) && eqb (link t (side_of t k) (parent_of t k)) k

-- going up from a slot to slot 0 in at most w steps: 1 and the steps that are left, or 0 where that does not lead there
abbrev pub rises : Tree → ℕ → ℕ → ℕ
rises t zero k = cond (eqb k 0) 1 0
rises t (suc w) k = cond (eqb k 0) (suc (suc w)) (cond (hangs t k) (rises t w (parent_of t k)) 0)

abbrev pub idle_with : Memory → ℕ → ℕ → Bool
idle_with m k zero = true
idle_with m k (suc left) = bare m left k

unfoldable pub idle : ℕ → Memory → ℕ → Bool
idle w m k = idle_with m k (rises m.tree w k)

-- the chain's first slot serves: it is a slot without a mark, and not the one that an update works on
pub record Hinted (t : Tree) (tip : ℕ) : Type 0 where
  pub slot : head_of t < slots t
  pub other : head_of t ≡ tip → ⊥
  pub free : get_or t.up (head_of t) 0 ≡ 0

-- a slot that may be taken while an update works on slot `tip`: the chain's first one where that serves, so that nothing is
-- searched for ..
pub record Spared (w : ℕ) (m : Memory) (tip k : ℕ) : Type 0 where
  pub positive : 0 < k
  pub slot : k < slots m.tree
  pub other : k ≡ tip → ⊥
  pub unused : idle w m k ≡ true
  pub hinted : Hinted m.tree tip → k ≡ head_of m.tree

-- .. or none, as every slot is in use
pub record Exhausted (w : ℕ) (m : Memory) (tip : ℕ) : Type 0 where
  pub all_used : (j : ℕ) → 0 < j → j < slots m.tree → (j ≡ tip → ⊥) → idle w m j ≡ false

abbrev pub SpareFor : ℕ → Memory → ℕ → Option ℕ → Type 0
SpareFor w m tip answer = MatchOption answer (Exhausted w m tip) (Spared w m tip)
