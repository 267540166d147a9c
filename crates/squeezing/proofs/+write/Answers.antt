-- What is no slot has one entry at the most; a string that has a slot has its own, then those below its 0, then those below its 1.
use mathlib.Core.Path.{◌≡◌, refl}
use Prim.Native.Nat.{ℕ, suc, ◌≤◌}
use native.Mathlib.Omega.{arith}
use Rattle.memory.specs.Layout.{slots}
use Rattle.memory.specs.Views.{memory_in, tree_in}
use Rattle.squeezing.specs.Slots.{slot_number}
use Rattle.squeezing.proofs.Slots.{none_behind, number_behind, answered}
use Rattle.squeezing.proofs.Walking.{slot_set, can_enter, can_enter_none, puts_none, puts_full, can_zero, can_one, puts_node}
use Rattle.squeezing.proofs.+write.Goals as goal
use Rattle.squeezing.proofs.+write.Goals.{write_entries-After-only, write_entries-in_default-via-in-Some+else-slot-slots, write_entries-in_default-via-in_default}

-- where no slot was given, or a number behind all slots
behind : (t : ℕ) (c : write_entries-After-only t)
    → slots (tree_in c.args.source.now.memory.tree) ≤ slot_number (memory_in c.args.source.now.memory) c.args.slot
behind t c =
    let m = memory_in c.args.source.now.memory in
    elim c.in_default.branch [
      | write_entries-in_default-via-in-Some+else-slot-slots w ↦ number_behind m _ w.in-Some.is (omega (arith, w.slots.ensures, w.if-slot-slots.false))
      | write_entries-in_default-via-in_default w ↦ none_behind m _ w.in_default.is
    ]

pub write_entries-enter-requires : goal.write_entries-enter-requires
write_entries-enter-requires t c =
    can_enter_none _ c.requires (behind t (goal.at.write_entries-enter-requires t c).After-only) c.only.ensures

pub write_entries-returns-in_default : goal.write_entries-returns-in_default
write_entries-returns-in_default t c =
    puts_none _ c.requires (behind t (goal.at.write_entries-returns-in_default t c).After-only) c.only.ensures c.enter.ensures

pub write_slot-enter-here-requires : goal.write_slot-enter-here-requires
write_slot-enter-here-requires t c = can_enter _ c.requires.can (slot_set _ c.requires.can c.requires.there c.kept-set.ensures)

pub write_slot-returns-in_default : goal.write_slot-returns-in_default
write_slot-returns-in_default t c =
    let full : c.args.level.left ≡ 0 = omega (arith, c.in_default.ensures) in
    puts_full _ c.requires.can full (slot_set _ c.requires.can c.requires.there c.kept-set.ensures) c.enter-here.ensures

pub write_slot-write_entries-middle-requires : goal.write_slot-write_entries-middle-requires
write_slot-write_entries-middle-requires t c =
    let m = memory_in c.args.source.now.memory in
    let more : c.args.level.left ≡ suc c.in-Some.left = omega (arith, c.in-Some.ensures) in
    let own = slot_set _ c.requires.can c.requires.there c.kept-set.ensures in
    (omega (arith, c.in-Some.ensures, c.decreases), can_zero _ more c.requires.can own c.enter-here.ensures c.hop_or-held.ensures (answered m _ c.child-low.ensures) refl)

pub write_slot-write_entries-requires : goal.write_slot-write_entries-requires
write_slot-write_entries-requires t c =
    let m = memory_in c.args.source.now.memory in
    let more : c.args.level.left ≡ suc c.in-Some.left = omega (arith, c.in-Some.ensures) in
    let own = slot_set _ c.requires.can c.requires.there c.kept-set.ensures in (
      omega (arith, c.in-Some.ensures, c.decreases),
      can_one _ more c.requires.can own c.enter-here.ensures c.hop_or-held.ensures (answered m _ c.child-low.ensures) (answered m _ c.child-high.ensures)
          c.write_entries-middle.ensures c.set_bit-right.ensures,
    )

pub write_slot-returns : goal.write_slot-returns
write_slot-returns t c =
    let m = memory_in c.args.source.now.memory in
    let more : c.args.level.left ≡ suc c.in-Some.left = omega (arith, c.in-Some.ensures) in
    let own = slot_set _ c.requires.can c.requires.there c.kept-set.ensures in
    puts_node _ more c.requires.can own c.enter-here.ensures c.hop_or-held.ensures (answered m _ c.child-low.ensures) (answered m _ c.child-high.ensures)
    c.write_entries-middle.ensures c.set_bit-right.ensures c.write_entries.ensures
