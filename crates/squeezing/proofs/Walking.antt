-- Writing entries, in the code's terms: what is no slot and a full string have one entry at the most; a string with two children
-- has its own, then those below its 0, then those below its 1.
use mathlib.Core.Path.{◌≡◌, refl, sym, ap, subst, subst₂, ◌∙◌}
use mathlib.Core.Bool.{true, false}
use mathlib.Core.List.{List, [], ◌∷◌, ◌++◌}
use Prim.Native.Nat.{ℕ, zero, suc, ◌-◌, ◌≤◌, ◌<◌}
use native.Mathlib.Omega.{arith}
use Rattle.theory.specs.Bits.{prefix_of}
use Rattle.theory.specs.Hops.{Hops, Allowed, only}
use Rattle.theory.specs.Ledger.{Entry}
use Rattle.theory.specs.Smallest.{Leaves, entry, choose, under, here, table}
use Rattle.theory.specs.Theorem.{AllAllowed}
use Rattle.theory.proofs.Hops.{only_allowed}
use Rattle.theory.proofs.OneHop.{table_throughout}
use Rattle.theory.proofs.Sets.{set_allowed, choose_member}
use Rattle.rules.specs.Numbers.{width, hop_bound, highest_hop, MayAnnounce}
use Rattle.memory.specs.declared.Path.{Path}
use Rattle.memory.specs.Path.{path_bit}
use Rattle.memory.specs.Layout.{Memory, slots, Whole, child}
use Rattle.sets.specs.declared.HopSet.{HopSet}
use Rattle.sets.specs.Sets.{members, set_in}
use Rattle.printing.specs.Printing.{BitSet, ClearFrom}
use Rattle.printing.proofs.Paths.{clear_more, clear_front, set_front, set_clear}
use Rattle.squeezing.specs.declared.Standing.{Standing}
use Rattle.squeezing.specs.Below.{in_force, leaves_below, set_below}
use Rattle.squeezing.specs.Stored.{StoredAt, Stored, CanForm}
use Rattle.squeezing.specs.Entries.{entry_of, hop_after, table_below, Room, Puts, IsShort, string_of, CanEnter, Enters, CanWrite}
use Rattle.squeezing.proofs.Below.{leaves_none, set_none}
use Rattle.squeezing.proofs.Forming.{allowed, can_child}
use Rattle.squeezing.proofs.Entering.{room_own, room_zero, room_one, puts_all}

-- THE TABLE'S RULE
throughout : (N w : ℕ) (F : Leaves) (d c : ℕ) → F ≡ (λ a. only d) → d < N → table N w F c ≡ here (entry N (only d) c)
throughout N w F d c e l = ap (λ G. table N w G c) e ∙ table_throughout N (only d) w c (only_allowed N d l).member

table_none : (m : Memory) → Whole m → (w p d c : ℕ) → MayAnnounce d → slots m.tree ≤ p
    → table_below w m p d c ≡ here (entry_of (set_below w m p d) c)
unfolding table_below entry_of
table_none m whole w p d c real l =
    throughout hop_bound w (leaves_below w m p d) d c (leaves_none m whole w p d l) (omega (arith, real))
    ∙ ap (λ x. here (entry hop_bound x c)) (sym (set_none m whole w p d l))

table_full : (m : Memory) (p d c : ℕ) → table_below 0 m p d c ≡ here (entry_of (set_below 0 m p d) c)
unfolding table_below entry_of
table_full m p d c = refl

table_node : (m : Memory) (w p d c : ℕ)
    → table_below (suc w) m p d c
    ≡ here (entry_of (set_below (suc w) m p d) c)
    ++ (under false (table_below w m (child m.tree false p) (in_force m p d) (hop_after (set_below (suc w) m p d) c))
    ++ under true (table_below w m (child m.tree true p) (in_force m p d) (hop_after (set_below (suc w) m p d) c)))
unfolding table_below entry_of hop_after
table_node m w p d c = refl

-- the hop in force from a string on is one of its set, so in range
chosen_below : (N : ℕ) (x : Hops) (c : ℕ) → Allowed N x → choose N x c < N
chosen_below N x c ok = ok.bounded (choose N x c) (choose_member N x c ok)

after_range : (m : Memory) (a : List ℕ) (w p d c : ℕ) → CanForm m a p d → hop_after (set_below w m p d) c ≤ highest_hop
unfolding hop_after
after_range m a w p d c can =
    let ok = set_allowed hop_bound w (leaves_below w m p d)
    (subst (λ q. AllAllowed hop_bound w (leaves_below w m q d)) can.lies (allowed m can.whole w can.string d can.hop)) in
    omega (arith, chosen_below hop_bound (set_below w m p d) c ok)

-- THE SET, as it is read: what was stored in a slot, or the one hop where there is none
stored_own : (m : Memory) (a : List ℕ) (w p d : ℕ) → Stored m a w p d → StoredAt m a w p d
stored_own m a zero p d x = x
stored_own m a (suc w) p d x = x.0

module _ {m : Memory} {a : List ℕ} {k p w d c at : ℕ} {path : Path} {output : List ℕ} (x : HopSet) (can : CanWrite m a k p w d c at path output) where
  none_set : slots m.tree ≤ p → members x ≡ only d → members x ≡ set_below w m p d
  none_set l is = is ∙ sym (set_none m can.can.whole w p d l)

  pub slot_set : p < slots m.tree → members x ≡ set_in a p → members x ≡ set_below w m p d
  slot_set l is = is ∙ stored_own m a w p d can.stored l

-- ITS ENTRY has room, as the first part of the table
own_room : (m : Memory) (k w p d c at : ℕ) (output : List ℕ) → Room k at (table_below w m p d c) output
    → Room k at (here (entry_of (set_below w m p d) c)) output
own_room m k zero p d c at output room = subst (λ T. Room k at T output) (table_full m p d c) room
own_room m k (suc w) p d c at output room =
    room_own k (here (entry_of (set_below (suc w) m p d) c))
    (table_below w m (child m.tree false p) (in_force m p d) (hop_after (set_below (suc w) m p d) c))
    (table_below w m (child m.tree true p) (in_force m p d) (hop_after (set_below (suc w) m p d) c))
    at output (subst (λ T. Room k at T output) (table_node m w p d c) room)

module _ {m : Memory} {a : List ℕ} {k p w d c at : ℕ} {path : Path} {output : List ℕ} (x : HopSet) (can : CanWrite m a k p w d c at path output) where
  pub can_enter : members x ≡ set_below w m p d → CanEnter k w path x c at output × (c ≤ highest_hop)
  can_enter is = (
    record {
      path_short = can.path_short;
      room = subst (λ y. Room k at (here (entry_of y c)) output) (sym is) (own_room m k w p d c at output can.room);
    },
    can.chosen,
  )

  pub can_enter_none : slots m.tree ≤ p → members x ≡ only d → CanEnter k w path x c at output × (c ≤ highest_hop)
  can_enter_none l is = can_enter (none_set x can l is)

  module _ {out₁ : List ℕ} {r : Standing} where
    -- WHAT IS NO SLOT and A FULL STRING have no more than that
    leaf : table_below w m p d c ≡ here (entry_of (set_below w m p d) c) → members x ≡ set_below w m p d
        → Enters k w path x c at output out₁ r → Puts k (string_of k w path) (table_below w m p d c) at output r.at out₁
    leaf only-own is entered =
        subst (λ T. Puts k (string_of k w path) T at output r.at out₁) (ap (λ y. here (entry_of y c)) is ∙ sym only-own) entered.puts

    pub puts_none : slots m.tree ≤ p → members x ≡ only d
        → Enters k w path x c at output out₁ r → Puts k (string_of k w path) (table_below w m p d c) at output r.at out₁
    puts_none l is entered = leaf (table_none m can.can.whole w p d c can.can.hop l) (none_set x can l is) entered

    pub puts_full : w ≡ 0 → members x ≡ set_below w m p d
        → Enters k w path x c at output out₁ r → Puts k (string_of k w path) (table_below w m p d c) at output r.at out₁
    puts_full e is entered = leaf (subst (λ v. table_below v m p d c ≡ here (entry_of (set_below v m p d) c)) (sym e) (table_full m p d c)) is entered

-- A STRING WITH TWO CHILDREN, one bit more than w short of an address
module _ {m : Memory} {a : List ℕ} {k p left w d c at : ℕ} {path : Path} {output out₁ : List ℕ} {r : Standing} {e c₀ c₁ : ℕ}
    (x : HopSet) (more : left ≡ suc w) (can : CanWrite m a k p left d c at path output) (is : members x ≡ set_below left m p d)
    (entered : Enters k left path x c at output out₁ r) (held : e ≡ in_force m p d)
    (is₀ : c₀ ≡ child m.tree false p) (is₁ : c₁ ≡ child m.tree true p) where
  abbrev own : List Entry
  own = here (entry_of (members x) c)

  abbrev zeros : List Entry
  zeros = table_below w m c₀ e r.hop

  abbrev ones : List Entry
  ones = table_below w m c₁ e r.hop

  parts : table_below left m p d c ≡ own ++ (under false zeros ++ under true ones)
  parts =
      let same : members x ≡ set_below (suc w) m p d = is ∙ ap (λ v. set_below v m p d) more in
      let hop : r.hop ≡ hop_after (set_below (suc w) m p d) c = entered.hop ∙ ap (λ y. hop_after y c) same in
      ap (λ v. table_below v m p d c) more ∙ table_node m w p d c ∙ sym (rw (same, hop, held, is₀, is₁) refl)

  room : Room k at (own ++ (under false zeros ++ under true ones)) output
  room = subst (λ T. Room k at T output) parts can.room

  deeper : Stored m a (suc w) p d
  deeper = subst (λ v. Stored m a v p d) more can.stored

  chosen : r.hop ≤ highest_hop
  chosen = subst (λ h. h ≤ highest_hop) (sym (entered.hop ∙ ap (λ y. hop_after y c) is)) (after_range m a left p d c can.can)

  place : width k - w ≡ suc (width k - left)
  place = omega (arith, can.path_short.short)

  short_at : (q : Path) → ClearFrom q (suc (width k - left)) (width k) → IsShort k w q
  short_at q clear = record {
    fits = can.path_short.fits;
    short = omega (arith, can.path_short.short);
    clear = subst (λ n. ClearFrom q n (width k)) (sym place) clear;
  }

  -- below its 0 the path is the same, ..
  pub can_zero : CanWrite m a k c₀ w e r.hop r.at path out₁
  can_zero = record {
    can = can_child m false can.can refl held is₀;
    stored = subst₂ (λ q h. Stored m a w q h) (sym is₀) (sym held) deeper.1;
    chosen = chosen;
    path_short = short_at path (clear_more path (width k - left) (width k) can.path_short.clear);
    room = room_zero k own zeros ones at output room (string_of k left path) r.at out₁ entered.puts;
  }

  string_zero : string_of k w path ≡ string_of k left path ++ (false ∷ [])
  string_zero =
      ap (prefix_of (path_bit path)) place
      ∙ clear_front path (width k - left) (width k) can.path_short.clear (omega (arith, can.path_short.short))

  module _ {at₂ : ℕ} {out₂ : List ℕ} (below-zero : Puts k (string_of k w path) zeros r.at out₁ at₂ out₂)
      {right : Path} (bit : BitSet path (width k - left) right) where
    zeros_put : Puts k (string_of k left path ++ (false ∷ [])) zeros r.at out₁ at₂ out₂
    zeros_put = subst (λ s. Puts k s zeros r.at out₁ at₂ out₂) string_zero below-zero

    -- .. and below its 1 it has one bit more
    pub can_one : CanWrite m a k c₁ w e r.hop at₂ right out₂
    can_one = record {
      can = can_child m true can.can refl held is₁;
      stored = subst₂ (λ q h. Stored m a w q h) (sym is₁) (sym held) deeper.2;
      chosen = chosen;
      path_short = short_at right (set_clear bit can.path_short.clear can.path_short.fits);
      room = room_one k own zeros ones at output room (string_of k left path) r.at out₁ entered.puts at₂ out₂ zeros_put;
    }

    string_one : string_of k w right ≡ string_of k left path ++ (true ∷ [])
    string_one =
        ap (prefix_of (path_bit right)) place ∙ set_front bit (omega (arith, can.path_short.fits, can.path_short.short))

    pub puts_node : {at₃ : ℕ} {out₃ : List ℕ} → Puts k (string_of k w right) ones at₂ out₂ at₃ out₃
        → Puts k (string_of k left path) (table_below left m p d c) at output at₃ out₃
    puts_node {at₃} {out₃} below_one =
        subst (λ T. Puts k (string_of k left path) T at output at₃ out₃) (sym parts)
        (puts_all k own zeros ones at output room (string_of k left path) r.at out₁ entered.puts at₂ out₂ zeros_put at₃ out₃
        (subst (λ s. Puts k s ones at₂ out₂ at₃ out₃) string_one below_one))
