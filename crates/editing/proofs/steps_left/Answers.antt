-- Each turn goes one step up; the answer is what is left to be found from there.
use Rattle.std.proofs.Common.{◌-◌, ◌/◌, ◌%◌, eqb, get_or, refl, sym, ◌∙◌, arith}
use Rattle.memory.specs.Views.{tree_in}
use Rattle.memory.proofs.Find.{not_none, link_outside}
use Rattle.editing.proofs.Rising.{rises_unmarked, rises_lost, rises_on}
use Rattle.editing.proofs.steps_left.Goals as goal
use Rattle.editing.proofs.steps_left.Goals.{then-parent-slots-via-then-parent-slots, then-parent-slots-via-else-parent-slots+then-link-at}

pub returns-then-mark-eq0 : goal.returns-then-mark-eq0
returns-then-mark-eq0 c =
    c.loop-left.invariant.same ∙ rises_unmarked (tree_in c.args.tree.now) c.loop-left.left c.loop-left.at
    (not_none _ c.if-at-eq0.false) c.if-mark-eq0.true

pub returns-then-parent-slots : goal.returns-then-parent-slots
returns-then-parent-slots c =
    let tree = tree_in c.args.tree.now in
    let mark = get_or tree.up c.loop-left.at 0 in
    c.loop-left.invariant.same ∙ elim c.then-parent-slots.branch [
      | then-parent-slots-via-then-parent-slots w ↦
          let outside = link_outside tree c.requires.0 (eqb (mark % 2) 0) ((mark - 1) / 2) (omega (arith, w.if-parent-slots.true, c.slots.ensures)) in
          rises_lost tree c.loop-left.left c.loop-left.at mark 0 refl (sym outside) c.if-at-eq0.false (λ e. c.if-at-eq0.false (sym e))
      | then-parent-slots-via-else-parent-slots+then-link-at w ↦
          rises_lost tree c.loop-left.left c.loop-left.at mark w.link.result refl w.link.ensures c.if-at-eq0.false w.if-link-at.true
    ]

pub loop-left-preserved : goal.loop-left-preserved
loop-left-preserved c = record {
  slot = omega (arith, c.if-parent-slots.false, c.slots.ensures);
  same = c.loop-left.invariant.same ∙ rises_on (tree_in c.args.tree.now) c.loop-left.left c.loop-left.at _ c.link.result refl
      c.link.ensures c.if-at-eq0.false (omega arith) c.if-mark-eq0.false c.if-link-at.false;
}
