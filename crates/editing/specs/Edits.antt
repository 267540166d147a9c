-- The two edits of the tree, place by place: a slot is hung below another, and a slot is taken out.
use Rattle.std.specs.Prelude.{◌≡◌, Bool, true, false, cond, List, ℕ, ◌<◌, eqb, ltb, length, get_or, set}
use Rattle.memory.specs.Layout.{Memory, slots, Whole, link, link_in, mark, holds_ledger}
use Rattle.memory.specs.Tidy.{first_free, next_free, head_of}

-- the chain's head once a slot is taken: if that was the first, the one behind it, or the end of the slots
abbrev pub head_after : ℕ → ℕ → ℕ → ℕ → ℕ
head_after head slot next count =
    cond (eqb (first_free head) slot) (cond (ltb (next_free next slot) count) (next_free next slot) count) head

-- what both ask: slices that make a memory, and two slots in it, of which the edited one is not the first
pub record CanEdit (m : Memory) (parent slot : ℕ) : Type 0 where
  pub whole : Whole m
  pub parent_below : parent < slots m.tree
  pub positive : 0 < slot
  pub below : slot < slots m.tree
  pub other : slot ≡ parent → ⊥

-- what both keep: the number of slots, and that the memory holds a ledger
pub record Kept (m m' : Memory) : Type 0 where
  pub same_slots : slots m'.tree ≡ slots m.tree
  pub whole : Whole m'
  pub ledger : holds_ledger m.tree ≡ true → holds_ledger m'.tree ≡ true

-- slot k, empty, is now the child of slot p behind bit b
pub record Hung (m m' : Memory) (p : ℕ) (b : Bool) (k : ℕ) : Type 0 where
  pub kept : Kept m m'
  pub new_link : link m'.tree b p ≡ k
  pub no_links : (c : Bool) → link m'.tree c k ≡ 0
  pub other_links : (x : ℕ) (c : Bool) → (x ≡ k → ⊥) → (x ≡ p → c ≡ b → ⊥) → link m'.tree c x ≡ link m.tree c x
  pub new_mark : get_or m'.tree.up k 0 ≡ mark p b
  pub other_marks : (x : ℕ) → 0 < x → (x ≡ k → ⊥) → get_or m'.tree.up x 0 ≡ get_or m.tree.up x 0
  pub no_hop : get_or m'.hop k 0 ≡ 0
  pub other_hops : (x : ℕ) → (x ≡ k → ⊥) → get_or m'.hop x 0 ≡ get_or m.hop x 0
  pub head : get_or m'.tree.up 0 0 ≡ head_after (get_or m.tree.up 0 0) k (get_or m.tree.lo k 0) (slots m.tree)

-- slot k, which was the child of slot p behind bit b, is free, and the first of the chain
pub record Dropped (m m' : Memory) (p : ℕ) (b : Bool) (k : ℕ) : Type 0 where
  pub kept : Kept m m'
  pub no_link : link m'.tree b p ≡ 0
  pub other_links : (x : ℕ) (c : Bool) → (x ≡ k → ⊥) → (x ≡ p → c ≡ b → ⊥) → link m'.tree c x ≡ link m.tree c x
  pub no_mark : get_or m'.tree.up k 0 ≡ 0
  pub other_marks : (x : ℕ) → 0 < x → (x ≡ k → ⊥) → get_or m'.tree.up x 0 ≡ get_or m.tree.up x 0
  pub no_hi : link m'.tree true k ≡ 0
  pub no_hop : get_or m'.hop k 0 ≡ 0
  pub other_hops : (x : ℕ) → (x ≡ k → ⊥) → get_or m'.hop x 0 ≡ get_or m.hop x 0
  pub head : get_or m'.tree.up 0 0 ≡ k
  pub next : link m'.tree false k ≡ head_of m.tree

-- slot k has another number for its hop
abbrev pub rehop : Memory → ℕ → ℕ → Memory
rehop m k v = record { tree = m.tree; hop = set m.hop k v }

-- the link of slot p behind bit b is v, and no other place of the two slices has changed
pub record LinkSet (lo hi : List ℕ) (p : ℕ) (b : Bool) (v : ℕ) (lo' hi' : List ℕ) : Type 0 where
  pub los : length lo' ≡ length lo
  pub his : length hi' ≡ length hi
  pub set_there : link_in lo' hi' b p ≡ v
  pub set_elsewhere : (x : ℕ) (c : Bool) → (x ≡ p → c ≡ b → ⊥) → link_in lo' hi' c x ≡ link_in lo hi c x
