-- Each turn goes one step up; the answer is what is left to be found from there.
use Rattle.std.proofs.Common.{◌≡◌, ◌<◌}
use Rattle.memory.specs.Layout.{slots}
use Rattle.memory.specs.Views.{tree_in}
use Rattle.editing.specs.Spare.{rises}
use Rattle.editing.proofs.steps_left.Given as goal

abbrev pub invariant-loop-left : goal.invariant-loop-left
invariant-loop-left l = record {
  slot : l.at < slots (tree_in l.tree);
  same : rises (tree_in l.tree) l.width l.slot ≡ rises (tree_in l.tree) l.left l.at;
}
