-- What is no slot is answered without a look; a string that has a slot asks for its two children, and makes its answer of theirs.
use mathlib.Core.Path.{◌≡◌, refl}
use mathlib.Core.Bool.{true, false}
use Prim.Native.Nat.{suc, ◌≤◌}
use native.Mathlib.Omega.{arith}
use Rattle.memory.specs.Layout.{slots}
use Rattle.memory.specs.Views.{memory_in}
use Rattle.squeezing.specs.Slots.{slot_number}
use Rattle.squeezing.proofs.Slots.{none_behind, number_behind, answered}
use Rattle.squeezing.proofs.Forming.{form_none, in_range, can_child, form_sum, form_room, form_step}
use Rattle.squeezing.proofs.+form.Goals as goal
use Rattle.squeezing.proofs.+form.Goals.{form_sets-in_default-via-in-Some+else-slot-slots, form_sets-in_default-via-in_default}

pub form_sets-returns-in_default : goal.form_sets-returns-in_default
form_sets-returns-in_default t c =
    let m = memory_in c.args.memory.now in
    let behind : slots m.tree ≤ slot_number m c.args.slot =
    elim c.in_default.branch [
      | form_sets-in_default-via-in-Some+else-slot-slots w ↦ number_behind m _ w.in-Some.is (omega (arith, w.slots.ensures, w.if-slot-slots.false))
      | form_sets-in_default-via-in_default w ↦ none_behind m _ w.in_default.is
    ] in
    form_none _ c.requires behind c.throughout.ensures

pub form_slot-throughout-own-requires : goal.form_slot-throughout-own-requires
form_slot-throughout-own-requires t c = in_range _ c.requires.can c.hop_or-here.ensures

pub form_slot-form_sets-zero-requires : goal.form_slot-form_sets-zero-requires
form_slot-form_sets-zero-requires t c =
    let is = answered (memory_in c.args.memory.now) _ c.child-low.ensures in
    (omega (arith, c.in-Some.ensures, c.decreases), can_child _ false c.requires.can refl c.hop_or-here.ensures is)

pub form_slot-form_sets-one-requires : goal.form_slot-form_sets-one-requires
form_slot-form_sets-one-requires t c =
    let is = answered (memory_in c.args.memory.now) _ c.child-high.ensures in
    (omega (arith, c.in-Some.ensures, c.decreases), can_child _ true c.requires.can c.form_sets-zero.ensures.same_length c.hop_or-here.ensures is)

pub form_slot-overflow_add-result : goal.form_slot-overflow_add-result
form_slot-overflow_add-result t c =
    let m = memory_in c.args.memory.now in
    let room = form_sum c.requires.can c.hop_or-here.ensures (answered m _ c.child-low.ensures) (answered m _ c.child-high.ensures) c.form_sets-zero.ensures c.form_sets-one.ensures in
    record { fits = omega (arith, room, c.requires.can.whole.shaped.few) }

pub form_slot-overflow_add-result-2 : goal.form_slot-overflow_add-result-2
form_slot-overflow_add-result-2 t c =
    let m = memory_in c.args.memory.now in
    let room = form_room c.requires.can c.hop_or-here.ensures (answered m _ c.child-low.ensures) (answered m _ c.child-high.ensures) c.form_sets-zero.ensures c.form_sets-one.ensures _ c.split.ensures in
    record { fits = omega (arith, room, c.requires.can.whole.shaped.few) }

pub form_slot-returns : goal.form_slot-returns
form_slot-returns t c =
    let m = memory_in c.args.memory.now in
    let more : c.args.level.left ≡ suc c.in-Some.left = omega (arith, c.in-Some.ensures) in
    form_step c.requires.can c.hop_or-here.ensures (answered m _ c.child-low.ensures) (answered m _ c.child-high.ensures) c.form_sets-zero.ensures c.form_sets-one.ensures _ _ _ c.split.ensures more c.requires.there c.keep-2.ensures c.join-set.ensures refl
