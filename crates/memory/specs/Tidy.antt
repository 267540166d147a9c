-- TIDY memory: what our calls make of zeroed memory, and keep. Each slot is free, or in use for a string that is held or leads
-- on; so the strings with slots are exactly those that the ledger needs (memory/proofs/Tidy), and the memory is fixed by its
-- ledger but for which slot a string lies in and the chain of free slots.
use Rattle.std.specs.Prelude.{◌≡◌, ℕ, ◌+◌, ◌-◌, ◌<◌, ◌≤◌, Bool, true, false, cond, not, ◌&&◌, ◌||◌, ◌⊎◌, ◌↔◌, List, [], ◌∷◌, length, ◌==◌, ◌≢◌, nat_eq, slice_index, slice_index_or}
use Rattle.std.proofs.Math.Option.{none}
use Rattle.theory.specs.Bits.{Bits, some_of}
use Rattle.theory.specs.Ledger.{is_held}
use Rattle.memory.specs.Layout.{Tree, Memory, slots, link, child, find, hop_at}

-- a bare slot: it holds no hop, and with bits left it leads to no child
unfoldable pub bare : Memory → ℕ → ℕ → Bool
bare m left k =
    not (is_held (hop_at m k))
    && (left == 0 || (child m.tree false k == slots m.tree && child m.tree true k == slots m.tree))

-- a free slot: all zero, but for `lo`, which has the hint to the next free one
pub record Free (m : Memory) (k : ℕ) : Type 0 where
  pub no_mark : slice_index_or m.tree.up k 0 ≡ 0
  pub no_hi : slice_index_or m.tree.hi k 0 ≡ 0
  pub no_hop : slice_index_or m.hop k 0 ≡ 0

-- THE CHAIN of free slots, in slot numbers: the first one, and the one behind a free slot. In zeroed memory it is 1, 2, 3 and so
-- on. It is a hint, tested before it is used; in tidy memory it has every free slot, once.
abbrev pub first_free : ℕ → ℕ
first_free head = cond (head == 0) 1 head

abbrev pub next_free : ℕ → ℕ → ℕ
next_free next slot = cond (next == 0) (slot + 1) next

abbrev pub head_of : Tree → ℕ
head_of t = first_free (slice_index t.up 0)

abbrev pub behind : Tree → ℕ → ℕ
behind t k = next_free (slice_index t.lo k) k

abbrev pub listed : ℕ → List ℕ → Bool
listed k ks = some_of (nat_eq k) ks

pub data ChainFrom (t : Tree) : ℕ → List ℕ → Type 0 where
  ends : {k : ℕ} → slots t ≤ k → ChainFrom t k []
  goes_on : {k : ℕ} {ks : List ℕ} → 0 < k → k < slots t → slice_index t.up k ≡ 0 → listed k ks ≡ false → ChainFrom t (behind t k) ks
      → ChainFrom t k (k ∷ ks)

pub record Chained (t : Tree) : Type 0 where
  pub order : List ℕ
  pub chain : ChainFrom t (head_of t) order
  pub all : (k : ℕ) → 0 < k → k < slots t → slice_index t.up k ≡ 0 → listed k order ≡ true

-- a slot in use: a string of at most w bits lies in it, and it is not bare
pub record Used (w : ℕ) (m : Memory) (k : ℕ) : Type 0 where
  pub string : Bits
  pub short : length string ≤ w
  pub there : find m.tree string ≡ k
  pub busy : bare m (w - length string) k ≡ false

-- Memory is tidy but for one slot while an update works on that one; slot 0 is never free, so `TidyBut w m 0` is tidy.
pub record TidyBut (w : ℕ) (m : Memory) (tip : ℕ) : Type 0 where
  pub each_slot : (k : ℕ) → 0 < k → k < slots m.tree → (k ≢ tip) → Free m k ⊎ Used w m k
  -- of a slot in use, a link that counts for nothing is 0, and so is a hop that stands for none
  pub neat : (k : ℕ) (b : Bool) → (k ≡ 0) ⊎ (0 < slice_index m.tree.up k)
      → (link m.tree b k ≡ 0) ⊎ (child m.tree b k ≡ link m.tree b k)
  pub plain : (k : ℕ) → hop_at m k ≡ none → slice_index m.hop k ≡ 0
  pub chained : Chained m.tree

abbrev pub Tidy : ℕ → Memory → Type 0
Tidy w m = TidyBut w m 0

-- THE SAME MEMORY BUT FOR SLOTS AND HINTS: both are tidy, the same strings have slots, and each string's slot has the same number
-- for its hop. What is left open is which slot a string lies in, and `lo` of free slots and `up` of slot 0, the chain.
pub record SameButSlots (w : ℕ) (a b : Memory) : Type 0 where
  pub tidy_a : Tidy w a
  pub tidy_b : Tidy w b
  pub same_strings : (s : Bits) → length s ≤ w → (find a.tree s < slots a.tree) ↔ (find b.tree s < slots b.tree)
  pub same_hops : (s : Bits) → length s ≤ w → slice_index a.hop (find a.tree s) ≡ slice_index b.hop (find b.tree s)
  -- and no longer string has a slot in either
  pub no_longer : (s : Bits) → w < length s → (find a.tree s ≡ slots a.tree) × (find b.tree s ≡ slots b.tree)
