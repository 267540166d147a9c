-- Each turn frees one bare slot and goes to its parent, which its mark names.
use Rattle.std.proofs.Common.{◌≡◌, ◌+◌, ◌-◌, ◌/◌, get_or, sym, refl, ap₂, ◌∙◌, arith}
use Rattle.memory.specs.Tidy.{bare}
use Rattle.editing.specs.Held.{memory_held}
use Rattle.editing.proofs.Walking.{loans_then, reworked_then, above, step_up, up_ends_busy}
use Rattle.editing.proofs.MemoryMut.prune.Goals as goal

pub returns-then-not-is_bare-clause-reworked : goal.returns-then-not-is_bare-clause-reworked
returns-then-not-is_bare-clause-reworked c =
    let bits-left : c.args.width - (c.loop-depth.depth - 1 + 1) ≡ c.args.width - c.loop-depth.depth = omega arith in
    up_ends_busy _ _ _ _ _ _ _ c.loop-depth.invariant.reworked c.loop-depth.invariant.on
    (sym (c.if-not-is_bare.ensures ∙ ap₂ (λ m left. bare m left c.loop-depth.at) c.view.ensures bits-left))

pub overflow_sub-parent : goal.overflow_sub-parent
overflow_sub-parent c =
    omega (arith, (above _ _ _ _ _ _ c.loop-depth.invariant.on (omega arith) refl).marked)

pub drop_slot-requires : goal.drop_slot-requires
drop_slot-requires c =
    let up-there = above _ _ _ _ _ _ c.loop-depth.invariant.on (omega arith) refl in
    record {
      whole = c.loop-depth.invariant.on.route.whole;
      parent_below = up-there.below;
      positive = up-there.positive;
      below = c.loop-depth.invariant.on.below;
      other = up-there.other;
    }

pub loop-depth-preserved : goal.loop-depth-preserved
loop-depth-preserved c =
    let parent = (get_or c.loop-depth.self.up.now c.loop-depth.at 0 - 1) / 2 in
    let bits-left : c.args.width - (c.loop-depth.depth - 1 + 1) ≡ c.args.width - c.loop-depth.depth = omega arith in
    let up_one =
    step_up _ _ (memory_held c.drop_slot.new.self) _ _ _ parent _ c.loop-depth.invariant.on (omega arith)
    (above _ _ _ _ _ _ c.loop-depth.invariant.on (omega arith) refl) c.bit.ensures
    (sym (c.if-not-is_bare.ensures ∙ ap₂ (λ m left. bare m left c.loop-depth.at) c.view.ensures bits-left)) c.drop_slot.ensures.dropped in
    record {
      same_loans = loans_then _ _ _ c.loop-depth.invariant.same_loans c.drop_slot.ensures.same_loans;
      reworked = reworked_then _ _ _ (memory_held c.drop_slot.new.self) _ _ parent c.loop-depth.invariant.reworked up_one.0;
      on = up_one.1;
    }
