-- The stores of an edit, place by place: what stands at each place after them.
use mathlib.Core.Path.{◌≡◌, sym, ◌∙◌}
use mathlib.Core.Logic.{inl, inr}
use mathlib.Core.Bool.{Bool, true, false}
use mathlib.Core.List.{List}
use Prim.Native.Nat.{ℕ, ◌≤◌, ◌<◌}
use native.Mathlib.Omega.{arith}
use lib.Dec.{eqb, ltb}
use lib.ListN.{length, get_or, set, length-set}
use lib.Seq.{get_or-set_same, get_or-set_other}
use borrow.Author.Tests.{ltb-true, leb-true, le-leb}
use Rattle.theory.proofs.Hops.{by_test}
use Rattle.memory.specs.Layout.{Memory, memory_of, Whole, link_in, mark, holds_ledger}
use Rattle.memory.specs.Tidy.{first_free, next_free, head_of}
use Rattle.editing.specs.Edits.{head_after, Kept, Hung, Dropped, LinkSet}

-- the head never goes behind the end of the slots
pub head_bound : (head slot next count : ℕ) → head ≤ count → head_after head slot next count ≤ count
head_bound head slot next count l =
    elim (by_test (eqb (first_free head) slot)) [
      | inl e ↦
          elim (by_test (ltb (next_free next slot) count)) [
            | inl q ↦ rw (e, q) (omega (arith, ltb-true (next_free next slot) count q))
            | inr q ↦ rw (e, q) (omega arith)
          ]
      | inr e ↦ rw e l
    ]

-- Slot k gets z for `lo`, 0 for `hi`, u for its mark and 0 for its hop; the link of slot p behind bit b gets v, and the chain's
-- head gets x.
module _ (lo hi up hop : List ℕ) (p : ℕ) (b : Bool) (k z x u v : ℕ) (lo' hi' : List ℕ) (whole : Whole (memory_of lo hi up hop))
    (slot-p : p < length up) (positive : 0 < k) (slot-k : k < length up) (other : k ≡ p → ⊥)
    (stored : LinkSet (set lo k z) (set hi k 0) p b v lo' hi') (head : get_or up 0 0 ≤ length up → x ≤ length up) where
  abbrev before : Memory
  before = memory_of lo hi up hop

  abbrev after : Memory
  after = memory_of lo' hi' (set (set up 0 x) k u) (set hop k 0)

  ups : length (set (set up 0 x) k u) ≡ length up
  ups = length-set (set up 0 x) k u ∙ length-set up 0 x

  head_there : get_or (set (set up 0 x) k u) 0 0 ≡ x
  head_there =
      get_or-set_other (set up 0 x) k 0 u 0 (λ e. omega arith) ∙ get_or-set_same up 0 x 0 (omega (arith, whole.shaped.some_slot))

  kept : Kept before after
  unfolding holds_ledger
  kept = record {
    same_slots = ups;
    whole = record {
      shaped = record {
        los = stored.los ∙ length-set lo k z ∙ whole.shaped.los ∙ sym ups;
        his = stored.his ∙ length-set hi k 0 ∙ whole.shaped.his ∙ sym ups;
        some_slot = omega (arith, ups, whole.shaped.some_slot);
        few = omega (arith, ups, whole.shaped.few);
      };
      hops = length-set hop k 0 ∙ whole.hops ∙ sym ups;
    };
    ledger = λ e.
        le-leb (get_or (set (set up 0 x) k u) 0 0) (length (set (set up 0 x) k u))
        (omega (arith, head_there, ups, head (leb-true (get_or up 0 0) (length up) e)));
  }

  mark_there : get_or (set (set up 0 x) k u) k 0 ≡ u
  mark_there = get_or-set_same (set up 0 x) k u 0 (omega (arith, length-set up 0 x))

  other_marks : (j : ℕ) → 0 < j → (j ≡ k → ⊥) → get_or (set (set up 0 x) k u) j 0 ≡ get_or up j 0
  other_marks j l not-k = get_or-set_other (set up 0 x) k j u 0 not-k ∙ get_or-set_other up 0 j x 0 (λ e. omega arith)

  hop_there : get_or (set hop k 0) k 0 ≡ 0
  hop_there = get_or-set_same hop k 0 0 (omega (arith, whole.hops))

  hi_there : link_in lo' hi' true k ≡ 0
  hi_there = stored.set_elsewhere k true (λ e q. other e) ∙ get_or-set_same hi k 0 0 (omega (arith, whole.shaped.his))

  lo_there : link_in lo' hi' false k ≡ z
  lo_there = stored.set_elsewhere k false (λ e q. other e) ∙ get_or-set_same lo k z 0 (omega (arith, whole.shaped.los))

  before_sets : (j : ℕ) (c : Bool) → (j ≡ k → ⊥) → link_in (set lo k z) (set hi k 0) c j ≡ link_in lo hi c j
  before_sets j true not-k = get_or-set_other hi k j 0 0 not-k
  before_sets j false not-k = get_or-set_other lo k j z 0 not-k

  other_links : (j : ℕ) (c : Bool) → (j ≡ k → ⊥) → (j ≡ p → c ≡ b → ⊥) → link_in lo' hi' c j ≡ link_in lo hi c j
  other_links j c not-k apart = stored.set_elsewhere j c apart ∙ before_sets j c not-k

  pub stores_hang : z ≡ 0 → u ≡ mark p b → v ≡ k → x ≡ head_after (get_or up 0 0) k (get_or lo k 0) (length up) → Hung before after p b k
  stores_hang none marked linked onwards = record {
    kept = kept;
    new_link = stored.set_there ∙ linked;
    no_links = no_links;
    other_links = other_links;
    new_mark = mark_there ∙ marked;
    other_marks = other_marks;
    no_hop = hop_there;
    other_hops = λ j not-k. get_or-set_other hop k j 0 0 not-k;
    head = head_there ∙ onwards;
  }
    where
      no_links : (c : Bool) → link_in lo' hi' c k ≡ 0
      no_links true = hi_there
      no_links false = lo_there ∙ none

  pub stores_drop : u ≡ 0 → v ≡ 0 → x ≡ k → z ≡ head_of before.tree → Dropped before after p b k
  stores_drop unmarked unlinked first next = record {
    kept = kept;
    no_link = stored.set_there ∙ unlinked;
    other_links = other_links;
    no_mark = mark_there ∙ unmarked;
    other_marks = other_marks;
    no_hi = hi_there;
    no_hop = hop_there;
    other_hops = λ j not-k. get_or-set_other hop k j 0 0 not-k;
    head = head_there ∙ first;
    next = lo_there ∙ next;
  }
