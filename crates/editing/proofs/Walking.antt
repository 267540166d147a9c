-- The steps of a walk down a path that makes the slots it lacks, and of one up that frees the bare ones: the ledger stays, and
-- tidy memory is tidy but for the slot that the walk has come to.
use mathlib.Core.Path.{◌≡◌, refl, sym, ap, subst, ◌∙◌}
use mathlib.Core.Bool.{Bool, true, false}
use mathlib.Core.List.{◌∷◌}
use Prim.Native.Nat.{ℕ, zero, suc, ◌-◌, ◌/◌, ◌≤◌, ◌<◌}
use native.Mathlib.Omega.{arith}
use native.Mathlib.Numerals.{add-one, sub-one}
use lib.ListN.{length, get_or}
use Rattle.theory.specs.Bits.{front}
use Rattle.theory.proofs.Walk.{front_length}
use Rattle.memory.specs.Layout.{Memory, slots, Whole, child, find}
use Rattle.memory.specs.Tidy.{bare}
use Rattle.memory.proofs.Find.{Counts, mark_positive, counts_of, parent_below, one_string}
use Rattle.editing.specs.declared.MemoryMut.{MemoryMut}
use Rattle.editing.specs.Held.{SameLoans}
use Rattle.editing.specs.Spare.{Spared}
use Rattle.editing.specs.Edits.{Kept, Hung, Dropped}
use Rattle.editing.specs.Routes.{OnPath, AtEnd, Reworked, Extended}
use Rattle.editing.proofs.Rising.{parent_mark}
use Rattle.editing.proofs.Hanging.{no_new_child, hung_ledger, hung_there, hung_tidy}
use Rattle.editing.proofs.Dropping.{dropped_ledger, parent_kept, dropped_tidy, tip_done}

pub kept_self : (m : Memory) → Whole m → Kept m m
kept_self m whole = record { same_slots = refl; whole = whole; ledger = λ e. e }

pub kept_then : (a b c : Memory) → Kept a b → Kept b c → Kept a c
kept_then a b c p q = record {
  same_slots = q.same_slots ∙ p.same_slots;
  whole = q.whole;
  ledger = λ e. q.ledger (p.ledger e);
}

pub loans_then : (a b c : MemoryMut) → SameLoans a b → SameLoans b c → SameLoans a c
loans_then a b c p q = record { lo = q.lo ∙ p.lo; hi = q.hi ∙ p.hi; up = q.up ∙ p.up; hop = q.hop ∙ p.hop }

pub reworked_then : (w : ℕ) (a b c : Memory) (x y z : ℕ) → Reworked w a b x y → Reworked w b c y z → Reworked w a c x z
reworked_then w a b c x y z p q = record {
  kept = kept_then a b c p.kept q.kept;
  same_ledger = q.same_ledger ∙ p.same_ledger;
  tidied = λ t. q.tidied (p.tidied t);
}

-- ONE BIT DOWN, from the last slot on a path
module _ (w : ℕ) (m : Memory) (f : ℕ → Bool) (d slot : ℕ) (end : AtEnd w m f d slot) (free : ℕ) (spared : Spared w m slot free) where
  abbrev whole : Whole m
  whole = end.on.route.whole

  module _ (m' : Memory) (right : Bool) (turn : right ≡ f d) (hung : Hung m m' slot right free) where
    there : find m.tree (front f d) ≡ slot
    there = sym end.on.there

    short : length (front f d) < w
    short = omega (arith, front_length f d, end.deeper)

    no_child : child m.tree right slot ≡ slots m.tree
    no_child = ap (λ b. child m.tree b slot) turn ∙ end.no_child

    pub step_hung : Extended w m m' f d slot free
    step_hung = record {
      reworked = record {
        kept = hung.kept;
        same_ledger =
            hung_ledger w m m' slot right free (front f d) whole hung there end.on.below short no_child
            spared.positive spared.slot spared.other spared.unused spared.hinted;
        tidied =
            hung_tidy w m m' slot right free (front f d) whole hung there end.on.below short no_child
            spared.positive spared.slot spared.other spared.unused spared.hinted;
      };
      there = rw add-one
          (sym (ap (λ b. find m'.tree (b ∷ front f d)) (sym turn)
          ∙ hung_there w m m' slot right free (front f d) whole hung there end.on.below short no_child
          spared.positive spared.slot spared.other spared.unused spared.hinted));
      below = spared.slot;
      leaf =
          no_new_child w m m' slot right free (front f d) whole hung there end.on.below short no_child
          spared.positive spared.slot spared.other spared.unused spared.hinted;
    }

-- ONE BIT UP: what the mark of a slot on a path says
pub record Above (m : Memory) (f : ℕ → Bool) (e slot parent : ℕ) : Type 0 where
  pub there : find m.tree (front f e) ≡ parent
  pub below : parent < slots m.tree
  pub positive : 0 < slot
  pub other : slot ≡ parent → ⊥
  pub marked : 0 < get_or m.tree.up slot 0

pub above : (w : ℕ) (m : Memory) (f : ℕ → Bool) (d slot u : ℕ) → OnPath w m f d slot → (d ≡ 0 → ⊥) → u ≡ get_or m.tree.up slot 0
    → Above m f (d - 1) slot ((u - 1) / 2)
above w m f zero slot u on more e = absurd (more refl)
above w m f (suc d) slot u on more e =
    let slot_is = on.there in
    let counts = subst (Counts m.tree (f d) (find m.tree (front f d))) (sym slot_is)
    (counts_of m.tree (f d) (find m.tree (front f d)) (omega (arith, on.below))) in
    let parent : (u - 1) / 2 ≡ find m.tree (front f d) = parent_mark u (find m.tree (front f d)) (f d) (e ∙ counts.marked) in
    let below : find m.tree (front f d) < slots m.tree = parent_below m.tree on.route.whole.shaped counts in
    rw sub-one record {
      there = sym parent;
      below = omega arith;
      positive = counts.positive;
      other = λ q.
          let same-string = one_string m.tree on.route.whole.shaped (front f d) (front f (suc d)) (sym parent ∙ sym q ∙ slot_is) below in
          omega (arith, ap length same-string);
      marked = omega (arith, counts.marked, mark_positive (find m.tree (front f d)) (f d));
    }

pub step_up : (w : ℕ) (m m' : Memory) (f : ℕ → Bool) (d slot parent : ℕ) (right : Bool) → OnPath w m f d slot → (d ≡ 0 → ⊥)
    → Above m f (d - 1) slot parent → right ≡ f (d - 1) → bare m (w - d) slot ≡ true → Dropped m m' parent right slot
    → Reworked w m m' slot parent × OnPath w m' f (d - 1) parent
step_up w m m' f zero slot parent right on more up turn empty dropped = absurd (more refl)
step_up w m m' f (suc d) slot parent right on more up turn empty dropped =
    let at-parent : find m.tree (front f d) ≡ parent = rw sub-one at up.there in
    let side : right ≡ f d = rw sub-one at turn in
    let there : find m.tree (right ∷ front f d) ≡ slot = ap (λ b. find m.tree (b ∷ front f d)) side ∙ sym on.there in
    let short : length (right ∷ front f d) ≤ w = omega (arith, front_length f d, on.route.short) in
    let unheld : bare m (w - length (right ∷ front f d)) slot ≡ true =
    subst (λ x. bare m (w - suc x) slot ≡ true) (sym (front_length f d)) empty in
    let whole = on.route.whole in
    let back : find m'.tree (front f d) ≡ parent =
    parent_kept w m m' parent right slot (front f d) whole dropped at-parent there on.below short unheld in (
      record {
        kept = dropped.kept;
        same_ledger = dropped_ledger w m m' parent right slot (front f d) whole dropped at-parent there on.below short unheld;
        tidied = dropped_tidy w m m' parent right slot (front f d) whole dropped at-parent there on.below short unheld;
      },
      rw sub-one record {
        route = record { whole = dropped.kept.whole; short = omega (arith, on.route.short); fits = on.route.fits };
        there = sym back;
        below = omega (arith, up.below, dropped.kept.same_slots);
      },
    )

-- the walk up ends at a busy slot, or at slot 0
pub up_ends_busy : (w : ℕ) (a m : Memory) (f : ℕ → Bool) (tip d slot : ℕ) → Reworked w a m tip slot → OnPath w m f d slot
    → bare m (w - d) slot ≡ false → Reworked w a m tip 0
up_ends_busy w a m f tip d slot r on busy = record {
  kept = r.kept;
  same_ledger = r.same_ledger;
  tidied = λ t.
      tip_done w m slot (front f d) (sym on.there) (omega (arith, front_length f d, on.route.short))
      (subst (λ x. bare m (w - x) slot ≡ false) (sym (front_length f d)) busy) (r.tidied t);
}

-- the lengths of the slices after an edit
module _ (m m' : Memory) (whole : Whole m) (k : Kept m m') where
  pub kept_lo : length m'.tree.lo ≡ length m.tree.lo
  kept_lo = k.whole.shaped.los ∙ k.same_slots ∙ sym whole.shaped.los

  pub kept_hi : length m'.tree.hi ≡ length m.tree.hi
  kept_hi = k.whole.shaped.his ∙ k.same_slots ∙ sym whole.shaped.his

  pub kept_hop : length m'.hop ≡ length m.hop
  kept_hop = k.whole.hops ∙ k.same_slots ∙ sym whole.hops
