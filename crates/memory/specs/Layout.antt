-- THE LAYOUT: how any four lent slices are read as a ledger (docs/LAYOUT.md).
-- Slot 0 is the empty string. A slot has a link for a next bit 0 (`lo`), one for a next bit 1 (`hi`), the mark of its parent
-- (`up`) and its hop (`hop`). A link counts only if the slot that it names carries the mark of this parent and this side; so
-- what is read from slot 0 on is a tree in ANY memory, and no slot serves two strings.
use Rattle.std.specs.Prelude.{◌≡◌, ℕ, suc, ◌+◌, ◌-◌, ◌*◌, ◌<◌, ◌≤◌, Bool, true, false, cond, ◌&&◌, List, [], ◌∷◌, reverse, length, replicate, ◌==◌, nat_le, nat_lt, slice_index}
use Rattle.std.proofs.Math.Option.{Option, none, some}
use Rattle.theory.specs.Bits.{Bits}
use Rattle.theory.specs.Ledger.{Ledger}
use Rattle.rules.specs.Numbers.{highest_hop}

-- what is lent: the links make the tree, and each slot has its hop
pub record Tree : Type 0 where
  pub lo : List ℕ
  pub hi : List ℕ
  pub up : List ℕ

pub record Memory : Type 0 where
  pub tree : Tree
  pub hop : List ℕ

abbrev pub tree_of : List ℕ → List ℕ → List ℕ → Tree
tree_of lo hi up = record { lo = lo; hi = hi; up = up }

abbrev pub memory_of : List ℕ → List ℕ → List ℕ → List ℕ → Memory
memory_of lo hi up hop = record { tree = tree_of lo hi up; hop = hop }

abbrev pub slots : Tree → ℕ
slots t = length t.up

-- the most slots that this layout could serve: marks are u32
abbrev pub layout_slots : ℕ
layout_slots = 1073741824

-- slices that make a memory: as many elements in each
pub record Shaped (t : Tree) : Type 0 where
  pub los : length t.lo ≡ slots t
  pub his : length t.hi ≡ slots t
  pub some_slot : 0 < slots t
  pub few : slots t ≤ layout_slots

pub record Whole (m : Memory) : Type 0 where
  pub shaped : Shaped m.tree
  pub hops : length m.hop ≡ slots m.tree

abbrev pub link_in : List ℕ → List ℕ → Bool → ℕ → ℕ
link_in lo hi false p = slice_index lo p
link_in lo hi true p = slice_index hi p

abbrev pub link : Tree → Bool → ℕ → ℕ
link t b p = link_in t.lo t.hi b p

-- the mark that a child of slot p carries: 2 p + 1 behind a bit 0, 2 p + 2 behind a bit 1; 0 is no mark
abbrev pub mark : ℕ → Bool → ℕ
mark p b = 2 * p + cond b 2 1

-- the child of slot p behind a bit; `slots t`, which is no slot, where there is none
unfoldable pub child : Tree → Bool → ℕ → ℕ
child t b p = cond (nat_lt 0 (link t b p) && slice_index t.up (link t b p) == mark p b) (link t b p) (slots t)

-- the slot of a string, given with its last bit first; `slots t` where it has none
abbrev pub find : Tree → Bits → ℕ
find t [] = 0
find t (b ∷ s) = child t b (find t s)

-- a slot's hop is stored as hop + 1, so that 0 is none; a number that stands for no hop that may be announced is none too
unfoldable pub read_hop : ℕ → Option ℕ
read_hop v = cond (nat_lt 0 v && nat_le v (suc highest_hop)) (some (v - 1)) none

abbrev pub hop_at : Memory → ℕ → Option ℕ
hop_at m k = read_hop (slice_index m.hop k)

-- THE LEDGER that a memory holds, for prefixes of at most w bits
unfoldable pub ledger_of : ℕ → Memory → Ledger ℕ
ledger_of w m s = cond (nat_le (length s) w) (hop_at m (find m.tree (reverse s))) none

-- The free slots are chained, as a hint: `up` of slot 0 is the first one. REFUSAL 2: the memory holds no ledger when that
-- lies behind the slots.
unfoldable pub holds_ledger : Tree → Bool
holds_ledger t = nat_le (slice_index t.up 0) (slots t)

-- zeroed memory of n slots
abbrev pub zeros : ℕ → List ℕ
zeros n = replicate n 0

unfoldable pub zeroed : ℕ → Memory
zeroed n = memory_of (zeros n) (zeros n) (zeros n) (zeros n)
