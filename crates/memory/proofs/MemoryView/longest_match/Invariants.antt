-- At each turn the slot is that of the bits passed and the hop is the one in force there; where the walk finds no slot, it stays.
use Rattle.std.proofs.Common.{◌≡◌, ◌<◌}
use Rattle.theory.specs.Bits.{front}
use Rattle.theory.proofs.Walk.{best}
use Rattle.rules.specs.Numbers.{no_route}
use Rattle.memory.specs.Path.{path_bit}
use Rattle.memory.specs.Layout.{slots, find, ledger_of}
use Rattle.memory.specs.Views.{memory_in}
use Rattle.memory.proofs.MemoryView.longest_match.Given as goal

abbrev pub invariant-loop-depth : goal.invariant-loop-depth
invariant-loop-depth l = record {
  below : l.slot < slots (memory_in l.self).tree;
  there : l.slot ≡ find (memory_in l.self).tree (front (path_bit l.path) l.depth);
  in_force : l.found ≡ best (ledger_of l.width (memory_in l.self)) no_route (path_bit l.path) l.depth;
}
