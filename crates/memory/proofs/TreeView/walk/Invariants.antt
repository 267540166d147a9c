-- At each turn the slot is that of the bits passed; the walk ends where the next bit has no child, or where no bit is left.
use Rattle.std.proofs.Common.{◌≡◌, ◌<◌}
use Rattle.theory.specs.Bits.{front}
use Rattle.memory.specs.Path.{path_bit}
use Rattle.memory.specs.Layout.{slots, find}
use Rattle.memory.specs.Views.{tree_in}
use Rattle.memory.proofs.TreeView.walk.Given as goal

abbrev pub invariant-loop-depth : goal.invariant-loop-depth
invariant-loop-depth l = record {
  below : l.slot < slots (tree_in l.self);
  there : l.slot ≡ find (tree_in l.self) (front (path_bit l.path) l.depth);
}
